-- What holds of each value that a reader gives, and of the tokens that it leaves, where something holds of every token that it finds: one law a combinator.
use mathlib.Core.Path.{◌≡◌, refl, sym, ◌∙◌}
use mathlib.Core.List.{List, [], ◌∷◌}
use mathlib.Core.Bool.{Bool, true, false}
use Prim.Native.Nat.{ℕ, zero, suc}
use Prim.Native.String.{String}
use lib.ListN.{length}
use Rattle.text_bytes.specs.Bytes.{bytes}
use Rattle.text_runs.specs.Runs.{same}
pub use Rattle.text_bytes.specs.Internal.Every.{Every}
use Rattle.text_tokens.specs.Tokens.{Token, opening, closing, ending, quoted, plain, Lexeme, is_keyword}
use Rattle.parse_spec.specs.Readers.{Got, got, refused, Reader, after, ◌>>=◌, ◌>>◌, pure, stop, token_of, rest, take_if, open_bracket, close_bracket, word_of, text_end, opened_of, opened, closed, version_at, version, Name, absent, name_at, string, starts, optional, trailing, many_in, many, many⁺, head_of, head}
use Rattle.text_kinds.specs.Kinds.{is_opening, is_closing, is_end}
use Rattle.parse_spec.proofs.Many.{not-got, stop-not, many_in_end, many_in_more}

-- what a sequence gave, its first part gave before
pub record Before {A B : Type 0} (g : Got A) (k : A → Reader B) (b : B) (l : List Lexeme) : Type 0 where
  pub value : A
  pub left : List Lexeme
  pub first : g ≡ got value left
  pub second : k value left ≡ got b l

pub before : {A B : Type 0} (g : Got A) (k : A → Reader B) (b : B) (l : List Lexeme) → after g k ≡ got b l → Before g k b l
unfolding after
before (got a m) k b l e = record { value = a; left = m; first = refl; second = e }
before (refused n p) k b l e = absurd (not-got n p b l e)

-- from tokens that are all Q a reader gives values of P and leaves tokens that are all Q
pub record GivesOn {A : Type 0} (Q : Lexeme → Type 0) (P : A → Type 0) (r : Reader A) : Type 0 where
  pub each : (ms : List Lexeme) (a : A) (l : List Lexeme) → Every Q ms → r ms ≡ got a l → P a × Every Q l

-- whatever the values are
abbrev pub LeavesOn : {A : Type 0} → (Lexeme → Type 0) → Reader A → Type 0
LeavesOn Q r = GivesOn Q (λ _. Unit {0}) r

-- the strings among tokens that are Q are names of P
abbrev pub Naming : (Lexeme → Type 0) → (Name → Type 0) → Type 0
Naming Q P = (m : Lexeme) (bs : List ℕ) → m.token ≡ quoted bs → Q m → P (record { at = suc m.offset; bytes = bs })

-- ---- any tokens, any names

abbrev pub Gives : {A : Type 0} → (A → Type 0) → Reader A → Type 0
Gives {A} P r = (ms : List Lexeme) (a : A) (l : List Lexeme) → r ms ≡ got a l → P a

abbrev pub AnyToken : Lexeme → Type 0
AnyToken m = Unit {0}

abbrev pub AnyName : Name → Type 0
AnyName n = Unit {0}

pub any_names : Naming AnyToken AnyName
any_names m bs e w = tt

any_tokens : (ms : List Lexeme) → Every AnyToken ms
any_tokens [] = tt
any_tokens (m ∷ ms) = (tt, any_tokens ms)

pub free : {A : Type 0} {P : A → Type 0} {r : Reader A} → GivesOn AnyToken P r → Gives P r
free h ms a l e = (h.each ms a l (any_tokens ms) e).0

rest_every : (Q : Lexeme → Type 0) (ms : List Lexeme) → Every Q ms → Every Q (rest ms)
unfolding rest
rest_every Q [] w = tt
rest_every Q (m ∷ ms) w = w.1

got-gives : {A : Type 0} (Q : Lexeme → Type 0) (P : A → Type 0) (b a : A) (k l : List Lexeme) → P b → Every Q k → got b k ≡ got a l → P a × Every Q l
got-gives Q P b a k l p w e =
    let x : a ≡ b = cc in
    let y : l ≡ k = cc in
    rw (x, y) (p, w)

module _ {Q : Lexeme → Type 0} where
  -- ---- a value, or a refusal

  pub pure-gives : {A : Type 0} {P : A → Type 0} (a : A) → P a → GivesOn Q P (pure a)
  unfolding pure
  pure-gives {P} a p = record { each = λ ms b l w e. got-gives Q P a b ms l p w e }

  pub stop-gives : {A : Type 0} {P : A → Type 0} (n : ℕ) → GivesOn Q P (stop n)
  stop-gives n = record { each = λ ms a l w e. absurd (stop-not n ms a l e) }

  -- past a token
  pub next_gives : {A : Type 0} {P : A → Type 0} (a : A) → P a → GivesOn Q P (λ ms. got a (rest ms))
  next_gives {P} a p = record { each = λ ms b l w e. got-gives Q P a b (rest ms) l p (rest_every Q ms w) e }

  pub later_gives : {A : Type 0} {P : A → Type 0} {r : Reader A} → GivesOn Q P r → GivesOn Q P (λ ms. r (rest ms))
  later_gives h = record { each = λ ms a l w e. h.each (rest ms) a l (rest_every Q ms w) e }

  pub same_gives : {A : Type 0} {P : A → Type 0} {r s : Reader A} → GivesOn Q P s → ((ms : List Lexeme) → r ms ≡ s ms) → GivesOn Q P r
  same_gives h f = record { each = λ ms a l w e. h.each ms a l w (sym (f ms) ∙ e) }

  -- by a test, as one reader or another
  pub either_gives : {A : Type 0} {P : A → Type 0} {r y n : Reader A} (t : List Lexeme → Bool) → GivesOn Q P y → GivesOn Q P n → ((ms : List Lexeme) → t ms ≡ true → r ms ≡ y ms) → ((ms : List Lexeme) → t ms ≡ false → r ms ≡ n ms) → GivesOn Q P r
  either_gives {P} {r} t h k on off = record { each = λ ms a l w e. go ms a l w e (t ms) refl }
    where
      go : (ms : List Lexeme) (a : _) (l : List Lexeme) → Every Q ms → r ms ≡ got a l → (v : Bool) → t ms ≡ v → P a × Every Q l
      go ms a l w e true o = h.each ms a l w (sym (on ms o) ∙ e)
      go ms a l w e false o = k.each ms a l w (sym (off ms o) ∙ e)

  -- ---- readers one after another

  pub bind-gives : {A B : Type 0} {P : A → Type 0} {S : B → Type 0} {r : Reader A} {f : A → Reader B} → GivesOn Q P r → ((a : A) → P a → GivesOn Q S (f a)) → GivesOn Q S (r >>= f)
  unfolding ◌>>=◌
  bind-gives {r} {f} h k =
      record {
        each = λ ms b l w e.
            let s = before (r ms) f b l e in
            let p = h.each ms s.value s.left w s.first in
            (k s.value p.0).each s.left b l p.1 s.second;
      }

  pub then_gives : {A B : Type 0} {P : A → Type 0} {S : B → Type 0} {r : Reader A} {s : Reader B} → GivesOn Q P r → GivesOn Q S s → GivesOn Q S (r >> s)
  unfolding ◌>>◌
  then_gives {r} {s} h k =
      record {
        each = λ ms b l w e.
            let x = before (r ms) (λ _. s) b l e in
            k.each x.left b l (h.each ms x.value x.left w x.first).1 x.second;
      }

  -- the same values, by what follows of them
  pub gives_as : {A : Type 0} {P S : A → Type 0} {r : Reader A} → GivesOn Q P r → ((a : A) → P a → S a) → GivesOn Q S r
  gives_as h f = record { each = λ ms a l w e. let p = h.each ms a l w e in (f a p.0, p.1) }

  pub leaves_on : {A : Type 0} {P : A → Type 0} {r : Reader A} → GivesOn Q P r → LeavesOn Q r
  leaves_on h = gives_as h (λ _ _. tt)

  pub both_give : {A : Type 0} {P S : A → Type 0} {r : Reader A} → GivesOn Q P r → GivesOn Q S r → GivesOn Q (λ a. P a × S a) r
  both_give h k = record { each = λ ms a l w e. let p = h.each ms a l w e in ((p.0, (k.each ms a l w e).0), p.1) }

  -- ---- one token

  pub take_leaves : (test : Token → Bool) → LeavesOn Q (take_if test)
  unfolding take_if
  take_leaves test = either_gives (λ ms. test (token_of ms)) (next_gives tt tt) (stop-gives 5) (λ ms o. rw (o, take_if)) (λ ms o. rw (o, take_if))

  pub open_leaves : LeavesOn Q open_bracket
  unfolding open_bracket
  open_leaves = take_leaves is_opening

  pub close_leaves : LeavesOn Q close_bracket
  unfolding close_bracket
  close_leaves = take_leaves is_closing

  pub word_leaves : (k : List ℕ) → LeavesOn Q (word_of k)
  unfolding word_of
  word_leaves k = take_leaves (is_keyword k)

  pub opened_of_leaves : (k : List ℕ) → LeavesOn Q (opened_of k)
  unfolding opened_of
  opened_of_leaves k = then_gives open_leaves (word_leaves k)

  pub opened_leaves : (k : String) → LeavesOn Q (opened k)
  unfolding opened
  opened_leaves k = opened_of_leaves (bytes k)

  pub end_leaves : LeavesOn Q text_end
  unfolding text_end pure
  end_leaves = either_gives (λ ms. is_end (token_of ms)) (pure-gives tt tt) (stop-gives 5) (λ ms o. rw (o, text_end)) (λ ms o. rw (o, text_end))

  pub closed-gives : {A : Type 0} {P : A → Type 0} {r : Reader A} → GivesOn Q P r → GivesOn Q P (closed r)
  unfolding closed
  closed-gives h = bind-gives h (λ a p. then_gives close_leaves (pure-gives a p))

  -- ---- the head

  version-at : (v : List ℕ) (t : Token) → LeavesOn Q (version_at v t)
  unfolding version_at
  version-at v opening = stop-gives 5
  version-at v closing = stop-gives 5
  version-at v ending = stop-gives 5
  version-at v (quoted bs) = stop-gives 5
  version-at v (plain bs) = either_gives (λ _. same bs v) (next_gives tt tt) (stop-gives 7) (λ ms o. rw (o, version_at)) (λ ms o. rw (o, version_at))

  version_leaves : (v : List ℕ) → LeavesOn Q (version v)
  unfolding version
  version_leaves v = record { each = λ ms. (version-at v (token_of ms)).each ms }

  pub head_leaves : (k v : String) → LeavesOn Q (head k v)
  unfolding head head_of
  head_leaves k v = then_gives (then_gives (opened_leaves "Head") (opened_of_leaves (bytes k))) (closed-gives (closed-gives (version_leaves (bytes v))))

  -- ---- lists

  module _ {A : Type 0} {P : A → Type 0} {r : Reader A} (h : GivesOn Q P r) where
    -- one more
    pub more_give : {s : Reader (List A)} → GivesOn Q (Every P) s → GivesOn Q (Every P) (r >>= λ a. s >>= λ l. pure (a ∷ l))
    more_give k = bind-gives h (λ a p. bind-gives k (λ l q. pure-gives {P = Every P} (a ∷ l) (p, q)))

    many_in-gives : (n : ℕ) → GivesOn Q (Every P) (many_in n r)
    unfolding many_in
    many_in-gives zero = stop-gives 5
    many_in-gives (suc n) = either_gives (λ ms. is_closing (token_of ms)) (next_gives {P = Every P} [] tt) (more_give (many_in-gives n)) (many_in_end n r) (many_in_more n r)

    pub many-gives : GivesOn Q (Every P) (many r)
    unfolding many
    many-gives = record { each = λ ms. (many_in-gives (length ms)).each ms }

    pub some_give : GivesOn Q (Every P) (many⁺ r)
    unfolding many⁺
    some_give = more_give many-gives

  -- ---- what may be left out

  module _ {A : Type 0} {P : A → Type 0} (k : String) (a : A) (p : P a) {r : Reader A} (h : GivesOn Q P r) where
    pub optional-gives : GivesOn Q P (optional k a r)
    unfolding optional pure
    optional-gives = either_gives (starts (bytes k)) (later_gives (later_gives h)) (pure-gives a p) (λ ms o. rw (o, optional)) (λ ms o. rw (o, optional))

    pub trailing-gives : GivesOn Q P (trailing k a r)
    unfolding trailing pure
    trailing-gives = either_gives (λ ms. is_opening (token_of ms)) (then_gives (opened_leaves k) h) (pure-gives a p) (λ ms o. rw (o, trailing)) (λ ms o. rw (o, trailing))

  -- ---- a name

  name-at : (P : Name → Type 0) → Naming Q P → (t : Token) (ms : List Lexeme) → token_of ms ≡ t → (n : Name) (l : List Lexeme) → Every Q ms → name_at t ms ≡ got n l → P n × Every Q l
  unfolding name_at token_of
  name-at P h opening ms o n l w e = absurd (stop-not 5 ms n l e)
  name-at P h closing ms o n l w e = absurd (stop-not 5 ms n l e)
  name-at P h ending ms o n l w e = absurd (stop-not 5 ms n l e)
  name-at P h (quoted bs) [] o n l w e = absurd (not-got 5 0 n l e)
  name-at P h (quoted bs) (m ∷ ms) o n l w e = got-gives Q P _ n ms l (h m bs o w.0) w.1 e
  name-at P h (plain bs) ms o n l w e = absurd (stop-not 5 ms n l e)

  pub string-gives : {P : Name → Type 0} → Naming Q P → GivesOn Q P string
  unfolding string
  string-gives {P} h = record { each = λ ms. name-at P h (token_of ms) ms refl }

  -- a chunk of a name that may be left out
  pub name-gives : {P : Name → Type 0} → P absent → Naming Q P → GivesOn Q P (optional "name" absent (closed string))
  name-gives p h = optional-gives "name" absent p (closed-gives (string-gives h))
