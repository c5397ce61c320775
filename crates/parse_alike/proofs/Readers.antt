-- Offsets do not matter to readers: on two lists of the same tokens a reader gives values alike and leaves such lists, or refuses both with one number, 5, 6 or 7, at one token; one law a combinator.
use mathlib.Core.Path.{◌≡◌, refl, ap, ap₂, ◌∙◌}
use mathlib.Core.List.{List, [], ◌∷◌, ◌++◌, map}
use mathlib.Core.Bool.{Bool, true, false, ◌&&◌}
use Prim.Native.Nat.{ℕ, zero, suc}
use Prim.Native.String.{String}
use lib.ListN.{length}
use Rattle.text_bytes.specs.Bytes.{bytes}
use Rattle.text_tokens.specs.Tokens.{Token, Lexeme, is_keyword}
use Rattle.text_numerals.specs.Numbers.{Form, INT}
use Rattle.text_kinds.specs.Kinds.{is_opening, is_closing, is_end}
use Rattle.parse_spec.specs.Readers.{Got, got, refused, Reader, after, ◌>>=◌, ◌>>◌, pure, stop, token_of, rest, take_if, open_bracket, close_bracket, word_of, text_end, opened_of, opened, closed, number_at, number, numbers, version_at, version, Name, absent, name_at, string, one_from, one_of, word, truth, starts, optional, trailing, many_in, many, many⁺, cells, row_of, row, head_of, head}
use Rattle.parse_alike.proofs.Tokens.{Both, both_token, both_length, GotAlike, Equal, Named, Inner, key_inner, open_inner, close_inner, past, five_both, version-at, number-at, name-at}

-- two readers, of which the second goes on from values alike; most often one and the same
pub record Alike {A : Type 0} (W : ℕ → ℕ → Type 0) (R : A → A → Type 0) (r s : Reader A) : Type 0 where
  pub each : (ms ns : List Lexeme) → Both W ms ns → GotAlike W R (r ms) (s ns)

-- a reader that gives the same value
abbrev pub Same : {A : Type 0} → (ℕ → ℕ → Type 0) → Reader A → Type 0
Same W r = Alike W Equal r r

-- lists alike
abbrev pub Each : {A : Type 0} → (A → A → Type 0) → List A → List A → Type 0
Each R [] [] = Unit {0}
Each R [] (b ∷ k) = ⊥
Each R (a ∷ l) [] = ⊥
Each R (a ∷ l) (b ∷ k) = R a b × Each R l k

each_equal : {A : Type 0} (l k : List A) → Each Equal l k → k ≡ l
each_equal [] [] e = refl
each_equal [] (b ∷ k) e = absurd e
each_equal (a ∷ l) [] e = absurd e
each_equal (a ∷ l) (b ∷ k) e = ap₂ ◌∷◌ e.0 (each_equal l k e.1)

pub each_map : {A B : Type 0} (f g : A → B) (l k : List A) → Each (λ a b. g b ≡ f a) l k → map g k ≡ map f l
each_map f g [] [] e = refl
each_map f g [] (b ∷ k) e = absurd e
each_map f g (a ∷ l) [] e = absurd e
each_map f g (a ∷ l) (b ∷ k) e = ap₂ ◌∷◌ e.0 (each_map f g l k e.1)

-- ( k comes next, by the two tokens
starts_by : (k : List ℕ) (ms : List Lexeme) (a b : Bool) → is_opening (token_of ms) ≡ a → is_keyword k (token_of (rest ms)) ≡ b → starts k ms ≡ (a && b)
unfolding starts
starts_by k ms a b o q = rw (o, q)

starts-not : (k : List ℕ) (ms : List Lexeme) → is_opening (token_of ms) ≡ false → starts k ms ≡ false
unfolding starts
starts-not k ms o = rw o

module _ {W : ℕ → ℕ → Type 0} where
  -- ---- a value, or a refusal at the next token

  pub pure_alike : {A : Type 0} {R : A → A → Type 0} (a b : A) → R a b → Alike W R (pure a) (pure b)
  unfolding pure
  pure_alike a b v = record { each = λ ms ns w. (v, w) }

  pub five : {A : Type 0} {R : A → A → Type 0} → Alike W R (stop {A = A} 5) (stop 5)
  five {A} {R} = record { each = five_both W R }

  -- the same values, by what follows of them
  pub alike_as : {A : Type 0} {R S : A → A → Type 0} {r s : Reader A} → Alike W R r s → ((a b : A) → R a b → S a b) → Alike W S r s
  alike_as {A} {R} {S} {r} {s} h f = record { each = λ ms ns w. go (r ms) (s ns) (h.each ms ns w) }
    where
      go : (x y : Got A) → GotAlike W R x y → GotAlike W S x y
      go (got a l) (got b k) e = (f a b e.0, e.1)
      go (got a l) (refused n p) e = absurd e
      go (refused n p) (got b k) e = absurd e
      go (refused n p) (refused i q) e = e

  -- by a test of the next token
  pub token_alike : {A : Type 0} {R : A → A → Type 0} {r s : Reader A} (test : Token → Bool) → ((ms ns : List Lexeme) → Both W ms ns → test (token_of ms) ≡ true → test (token_of ns) ≡ true → GotAlike W R (r ms) (s ns)) → ((ms ns : List Lexeme) → Both W ms ns → test (token_of ms) ≡ false → test (token_of ns) ≡ false → GotAlike W R (r ms) (s ns)) → Alike W R r s
  token_alike {A} {R} {r} {s} test on off = record { each = λ ms ns w. go ms ns w (test (token_of ms)) refl }
    where
      go : (ms ns : List Lexeme) → Both W ms ns → (v : Bool) → test (token_of ms) ≡ v → GotAlike W R (r ms) (s ns)
      go ms ns w true o = on ms ns w o (ap test (both_token W ms ns w) ∙ o)
      go ms ns w false o = off ms ns w o (ap test (both_token W ms ns w) ∙ o)

  -- ---- readers one after another

  after_alike : {A B : Type 0} {R : A → A → Type 0} {S : B → B → Type 0} (f g : A → Reader B) → ((a b : A) → R a b → Alike W S (f a) (g b)) → (x y : Got A) → GotAlike W R x y → GotAlike W S (after x f) (after y g)
  unfolding after
  after_alike f g h (got a l) (got b k) e = (h a b e.0).each l k e.1
  after_alike f g h (got a l) (refused n p) e = absurd e
  after_alike f g h (refused n p) (got b k) e = absurd e
  after_alike f g h (refused n p) (refused i q) e = e

  pub bind_alike : {A B : Type 0} {R : A → A → Type 0} {S : B → B → Type 0} {r s : Reader A} {f g : A → Reader B} → Alike W R r s → ((a b : A) → R a b → Alike W S (f a) (g b)) → Alike W S (r >>= f) (s >>= g)
  unfolding ◌>>=◌
  bind_alike {r} {s} {f} {g} h k = record { each = λ ms ns w. after_alike f g k (r ms) (s ns) (h.each ms ns w) }

  -- one and the same value
  pub bind-same : {A B : Type 0} {S : B → B → Type 0} {r s : Reader A} {f g : A → Reader B} → Alike W Equal r s → ((a : A) → Alike W S (f a) (g a)) → Alike W S (r >>= f) (s >>= g)
  bind-same {f} {g} h k = bind_alike h (λ a b e. rw e (k a))

  pub then_alike : {A B : Type 0} {R : A → A → Type 0} {S : B → B → Type 0} {r s : Reader A} {f g : Reader B} → Alike W R r s → Alike W S f g → Alike W S (r >> f) (s >> g)
  unfolding ◌>>◌
  then_alike {r} {s} {f} {g} h k = record { each = λ ms ns w. after_alike (λ _. f) (λ _. g) (λ a b e. k) (r ms) (s ns) (h.each ms ns w) }

  -- ---- one token

  take_same : (test : Token → Bool) → Inner test → Same W (take_if test)
  unfolding take_if
  take_same test h = token_alike test (λ ms ns w o p. rw (o, p, take_if) (refl, past W test h ms ns w o)) (λ ms ns w o p. rw (o, p, take_if) (five_both W Equal ms ns w))

  pub open_same : Same W open_bracket
  unfolding open_bracket
  open_same = take_same is_opening open_inner

  pub close_same : Same W close_bracket
  unfolding close_bracket
  close_same = take_same is_closing close_inner

  opened_of-same : (k : List ℕ) → Same W (opened_of k)
  unfolding opened_of word_of
  opened_of-same k = then_alike open_same (take_same (is_keyword k) (key_inner k))

  pub opened-same : (k : String) → Same W (opened k)
  unfolding opened
  opened-same k = opened_of-same (bytes k)

  pub end_same : Same W text_end
  unfolding text_end
  end_same = token_alike is_end (λ ms ns w o p. rw (o, p, text_end) (refl, w)) (λ ms ns w o p. rw (o, p, text_end) (five_both W Equal ms ns w))

  pub closed_alike : {A : Type 0} {R : A → A → Type 0} {r s : Reader A} → Alike W R r s → Alike W R (closed r) (closed s)
  unfolding closed
  closed_alike h = bind_alike h (λ a b v. then_alike close_same (pure_alike a b v))

  -- ---- by what the next token is

  -- one reader a token
  by_token : {A : Type 0} {R : A → A → Type 0} (r : Token → Reader A) → ((t : Token) (ms ns : List Lexeme) → token_of ms ≡ t → Both W ms ns → GotAlike W R (r t ms) (r t ns)) → Alike W R (λ ms. r (token_of ms) ms) (λ ms. r (token_of ms) ms)
  by_token r h = record { each = λ ms ns w. rw (both_token W ms ns w) (h (token_of ms) ms ns refl w) }

  pub head-same : (k v : String) → Same W (head k v)
  unfolding head head_of version
  head-same k v = then_alike (then_alike (opened-same "Head") (opened_of-same (bytes k))) (closed_alike (closed_alike (by_token (version_at (bytes v)) (version-at W (bytes v)))))

  pub number_same : (f : Form) → Same W (number f)
  unfolding number
  number_same f = by_token (number_at f) (number-at W f)

  pub string_alike : {N : Name → Name → Type 0} → Named W N → Alike W N string string
  unfolding string
  string_alike {N} h = by_token name_at (name-at W N h)

  -- ---- several numbers

  pub numbers-same : (f : Form) (n : ℕ) → Same W (numbers f n)
  unfolding numbers
  numbers-same f zero = pure_alike [] [] refl
  numbers-same f (suc n) = bind-same (number_same f) (λ z. bind-same (numbers-same f n) (λ zs. pure_alike (z ∷ zs) (z ∷ zs) refl))

  pub row_of-same : (k : List ℕ) (lead : ℕ) (f : Form) (n : ℕ) → Same W (row_of k lead f n)
  unfolding row_of cells
  row_of-same k lead f n = then_alike (opened_of-same k) (closed_alike (bind-same (numbers-same INT lead) (λ a. bind-same (numbers-same f n) (λ b. pure_alike (a ++ b) (a ++ b) refl))))

  pub row_same : (k : String) (f : Form) (n : ℕ) → Same W (row k f n)
  unfolding row
  row_same k f n = row_of-same (bytes k) 0 f n

  -- ---- a choice of words

  from-same : (n : ℕ) (ks : List String) → Same W (one_from n ks)
  unfolding one_from
  from-same n [] = five
  from-same n (k ∷ ks) =
      token_alike (is_keyword (bytes k)) (λ ms ns w o p. rw (o, p, one_from) (refl, past W (is_keyword (bytes k)) (key_inner (bytes k)) ms ns w o)) (λ ms ns w o p. rw (o, p, one_from) ((from-same (suc n) ks).each ms ns w))

  pub choice_same : (ks : List String) → Same W (one_of ks)
  unfolding one_of
  choice_same ks = from-same 0 ks

  pub word_same : (ks : List String) → Same W (word ks)
  unfolding word
  word_same ks = bind-same (choice_same ks) (λ n. pure_alike _ _ refl)

  pub truth-same : Same W truth
  unfolding truth
  truth-same = word_same _

  -- ---- lists

  module _ {A : Type 0} {R : A → A → Type 0} {r : Reader A} (h : Alike W R r r) where
    -- one more
    pub more_alike : {s t : Reader (List A)} → Alike W (Each R) s t → Alike W (Each R) (r >>= λ a. s >>= λ l. pure (a ∷ l)) (r >>= λ a. t >>= λ l. pure (a ∷ l))
    more_alike k = bind_alike h (λ a b v. bind_alike k (λ l m e. pure_alike {R = Each R} (a ∷ l) (b ∷ m) (v, e)))

    many_in_lem : (n : ℕ) → Alike W (Each R) (many_in n r) (many_in n r)
    unfolding many_in
    many_in_lem zero = five
    many_in_lem (suc n) =
        token_alike is_closing (λ ms ns w o p. rw (o, p, many_in) (tt, past W is_closing close_inner ms ns w o)) (λ ms ns w o p. rw (o, p, many_in) ((more_alike (many_in_lem n)).each ms ns w))

    pub many_alike : Alike W (Each R) (many r) (many r)
    unfolding many
    many_alike = record { each = λ ms ns w. rw (both_length W ms ns w) ((many_in_lem (length ms)).each ms ns w) }

    pub some_alike : Alike W (Each R) (many⁺ r) (many⁺ r)
    unfolding many⁺
    some_alike = more_alike many_alike

  pub many-same : {A : Type 0} {r : Reader A} → Same W r → Same W (many r)
  many-same h = alike_as (many_alike h) each_equal

  pub some_same : {A : Type 0} {r : Reader A} → Same W r → Same W (many⁺ r)
  some_same h = alike_as (some_alike h) each_equal

  -- ---- what may be left out

  -- ( k comes next
  pub starts_alike : {A : Type 0} {R : A → A → Type 0} {r s : Reader A} (k : List ℕ) → ((ms ns : List Lexeme) → Both W (rest (rest ms)) (rest (rest ns)) → starts k ms ≡ true → starts k ns ≡ true → GotAlike W R (r ms) (s ns)) → ((ms ns : List Lexeme) → Both W ms ns → starts k ms ≡ false → starts k ns ≡ false → GotAlike W R (r ms) (s ns)) → Alike W R r s
  starts_alike {A} {R} {r} {s} k on off = record { each = λ ms ns w. open_or ms ns w (is_opening (token_of ms)) refl }
    where
      opens : (ms ns : List Lexeme) → Both W ms ns → (v : Bool) → is_opening (token_of ms) ≡ v → is_opening (token_of ns) ≡ v
      opens ms ns w v o = ap is_opening (both_token W ms ns w) ∙ o

      keyed : (ms ns : List Lexeme) → Both W ms ns → is_opening (token_of ms) ≡ true → (v : Bool) → is_keyword k (token_of (rest ms)) ≡ v → GotAlike W R (r ms) (s ns)
      keyed ms ns w o true q =
          let x = past W is_opening open_inner ms ns w o in
          let q' = ap (is_keyword k) (both_token W (rest ms) (rest ns) x) ∙ q in
          on ms ns (past W (is_keyword k) (key_inner k) (rest ms) (rest ns) x q) (starts_by k ms true true o q) (starts_by k ns true true (opens ms ns w true o) q')
      keyed ms ns w o false q =
          let x = past W is_opening open_inner ms ns w o in
          let q' = ap (is_keyword k) (both_token W (rest ms) (rest ns) x) ∙ q in
          off ms ns w (starts_by k ms true false o q) (starts_by k ns true false (opens ms ns w true o) q')

      open_or : (ms ns : List Lexeme) → Both W ms ns → (v : Bool) → is_opening (token_of ms) ≡ v → GotAlike W R (r ms) (s ns)
      open_or ms ns w true o = keyed ms ns w o (is_keyword k (token_of (rest ms))) refl
      open_or ms ns w false o = off ms ns w (starts-not k ms o) (starts-not k ns (opens ms ns w false o))

  module _ {A : Type 0} {R : A → A → Type 0} (k : String) (a : A) (v : R a a) {r : Reader A} (h : Alike W R r r) where
    pub optional_alike : Alike W R (optional k a r) (optional k a r)
    unfolding optional
    optional_alike = starts_alike (bytes k) (λ ms ns w o p. rw (o, p, optional) (h.each (rest (rest ms)) (rest (rest ns)) w)) (λ ms ns w o p. rw (o, p, optional) (v, w))

    pub trailing_alike : Alike W R (trailing k a r) (trailing k a r)
    unfolding trailing
    trailing_alike = token_alike is_opening (λ ms ns w o p. rw (o, p, trailing) ((then_alike (opened-same k) h).each ms ns w)) (λ ms ns w o p. rw (o, p, trailing) (v, w))

  pub name_alike : {N : Name → Name → Type 0} → N absent absent → Named W N → Alike W N (optional "name" absent (closed string)) (optional "name" absent (closed string))
  name_alike a h = optional_alike "name" absent a (closed_alike (string_alike h))
