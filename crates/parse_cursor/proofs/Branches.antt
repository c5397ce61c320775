-- Laws of the choices that a shape leaves: what the code finds next, and what that makes of the reader.
use mathlib.Core.Path.{◌≡◌, refl, ap, sym, ◌∙◌}
use mathlib.Core.List.{List, [], ◌∷◌}
use mathlib.Core.Bool.{Bool, true, false}
use Prim.Native.Nat.{ℕ, suc, ◌≤◌, ◌<◌}
use lib.ListN.{length}
use Prim.Native.String.{String}
use native.Mathlib.Omega.{arith}
use Rattle.text_bytes.specs.Bytes.{bytes}
use Rattle.text_tokens.specs.Tokens.{Lexeme, lex_at, lexeme, is_keyword}
use Rattle.text_tokens.specs.declared.token.Span.{Span}
use Rattle.text_tokens.specs.Internal.Answers.{Next, lexeme_of}
use Rattle.std.proofs.Common.{Ok}
use Rattle.parse_spec.specs.Readers.{Got, got, refused, Reader, after, ◌>>=◌, ◌>>◌, pure, token_of, rest, open_bracket, take_if, word_of, opened_of, opened, starts, optional, trailing, many}
use Rattle.text_kinds.specs.Kinds.{is_opening, is_closing}
use Rattle.parse_cursor.specs.Internal.Cursors.{Cursor, reads, from}
use Rattle.parse_spec.specs.Internal.Branches.{item_of, start_of, last_of}
use Rattle.parse_cursor.proofs.Steps.{next_token, next_rest, live, took, balked, from-same, onto, halt}
use Rattle.parse_spec.proofs.Binds.{after-after, after_same}
use Rattle.parse_spec.proofs.Many.{Keeps, Takes, not-got, got-rest, takes_keeps, pure_keeps, then_keeps, then_takes, open_takes, opened_of_takes, many_end, many_more}

-- one reader or another
unfoldable pub pick : {A : Type 0} → Bool → Reader A → Reader A → Reader A
pick true r s = r
pick false r s = s

-- a choice from cursor c to d, and then what it picks
module _ {A : Type 0} (text : List ℕ) (c d : Cursor) (b : Reader Bool) (v : Bool) (p : reads text d v ≡ from text c b) (r s : Reader A) where
  chosen : from text c (b >>= λ x. pick x r s) ≡ from text d (pick v r s)
  chosen = onto text c d v b (λ x. pick x r s) p

  pub chosen_yes : v ≡ true → from text c (b >>= λ x. pick x r s) ≡ from text d r
  unfolding pick
  chosen_yes e = chosen ∙ ap (λ (x : Bool). from text d (pick x r s)) e

  pub chosen_no : v ≡ false → from text c (b >>= λ x. pick x r s) ≡ from text d s
  unfolding pick
  chosen_no e = chosen ∙ ap (λ (x : Bool). from text d (pick x r s)) e

-- ---- the items of a list

item_closed : (ms : List Lexeme) → is_closing (token_of ms) ≡ true → item_of ms ≡ got true (rest ms)
unfolding item_of
item_closed ms e = rw (e, item_of)

item_open : (ms : List Lexeme) → is_closing (token_of ms) ≡ false → item_of ms ≡ after (open_bracket ms) (λ _. pure false)
unfolding item_of ◌>>◌
item_open ms e = rw (e, item_of)

module _ (text : List ℕ) (at : ℕ) (t : Span) (n : Next text at t) where
  pub item_ends : is_closing (lexeme_of text t).token ≡ true → reads text (Ok t.end) true ≡ from text (Ok at) item_of
  unfolding from lexeme_of lexeme is_closing pure
  item_ends e = sym (item_closed _ (rw (next_token text at t n) e) ∙ ap (got true) (next_rest text at t n (live is_closing refl t.kind _ e)))

  pub item_opens : is_closing (lexeme_of text t).token ≡ false → is_opening (lexeme_of text t).token ≡ true → reads text (Ok t.end) false ≡ from text (Ok at) item_of
  unfolding from open_bracket after pure is_opening
  item_opens e f = sym (item_open _ (rw (next_token text at t n) e) ∙ ap (λ (g : Got (Unit {0})). after g (λ _. pure false)) (sym (took text at t n is_opening refl f)))

  pub item_stops : is_closing (lexeme_of text t).token ≡ false → is_opening (lexeme_of text t).token ≡ false → refused 5 t.start ≡ from text (Ok at) item_of
  unfolding from open_bracket after is_opening
  item_stops e f = sym (item_open _ (rw (next_token text at t n) e) ∙ ap (λ (g : Got (Unit {0})). after g (λ _. pure false)) (sym (balked text at t n is_opening refl f)))

-- a list of items that begin with (, where s reads what stands after that: each by one choice
module _ {A B : Type 0} (r s : Reader A) (t : Takes r) (opens : (ms : List Lexeme) → r ms ≡ (open_bracket >> s) ms) (h : List A → Reader B) where
  items : (ms : List Lexeme) → (many r >>= h) ms ≡ (item_of >>= λ ended. pick ended (h []) (s >>= λ a. many r >>= λ l. h (a ∷ l))) ms
  unfolding ◌>>=◌ ◌>>◌ after pick pure
  items ms = go (is_closing (token_of ms)) refl
    where
      go : (v : Bool) → is_closing (token_of ms) ≡ v → (many r >>= h) ms ≡ (item_of >>= λ ended. pick ended (h []) (s >>= λ a. many r >>= λ l. h (a ∷ l))) ms
      go true e = rw (many_end r ms e, item_closed ms e)
      go false e =
          rw (many_more r t ms e, item_open ms e, opens ms)
          (after-after (after (open_bracket ms) (λ _. s)) _ h
          ∙ after-after (open_bracket ms) (λ _. s) _
          ∙ after_same (open_bracket ms) _ _ (λ _ l. after_same (s l) _ _ (λ a k. after-after (many r k) _ h))
          ∙ sym (after-after (open_bracket ms) (λ _. pure false) _))

  module _ (text : List ℕ) (c : Cursor) where
    module _ (d : Cursor) (v : Bool) (p : reads text d v ≡ from text c item_of) where
      pub items_end : v ≡ true → from text c (many r >>= h) ≡ from text d (h [])
      items_end e = from-same text c _ _ items ∙ chosen_yes text c d item_of v p (h []) (s >>= λ a. many r >>= λ l. h (a ∷ l)) e

      pub items_more : v ≡ false → from text c (many r >>= h) ≡ from text d (s >>= λ a. many r >>= λ l. h (a ∷ l))
      items_more e = from-same text c _ _ items ∙ chosen_no text c d item_of v p (h []) (s >>= λ a. many r >>= λ l. h (a ∷ l)) e

    -- a token that is neither the list's end nor an item's begin
    pub items_off : {n p : ℕ} → from text c item_of ≡ refused n p → from text c (many r >>= h) ≡ refused n p
    items_off e = from-same text c _ _ items ∙ halt text c item_of e _

pub item_takes : Takes item_of
unfolding item_of is_closing token_of rest
item_takes = record { less = less; none = none }
  where
    none : item_of [] ≡ refused 5 0
    none = (then_takes open_takes (pure_keeps false)).none

    less : (ms : List Lexeme) (a : Bool) (l : List Lexeme) → item_of ms ≡ got a l → length l < length ms
    less [] a l e = absurd (not-got 5 0 a l (sym none ∙ e))
    less (m ∷ ms) a l e = go (is_closing m.token) refl
      where
        go : (v : Bool) → is_closing m.token ≡ v → length l < suc (length ms)
        go true p = let h : got true ms ≡ got a l = sym (item_closed (m ∷ ms) p) ∙ e in omega (arith, got-rest true a ms l h)
        go false p = (then_takes open_takes (pure_keeps false)).less (m ∷ ms) a l (rw (p, item_of) at e)

-- ---- chunks that may be left out

bracket_yes : (ms : List Lexeme) → is_opening (token_of ms) ≡ true → open_bracket ms ≡ got tt (rest ms)
unfolding open_bracket take_if
bracket_yes ms e = rw (e, take_if)

module _ (w : List ℕ) where
  start_yes : (ms : List Lexeme) → is_opening (token_of ms) ≡ true → is_keyword w (token_of (rest ms)) ≡ true → start_of w ms ≡ got true (rest (rest ms))
  unfolding start_of starts
  start_yes ms e f = rw (e, f, start_of)

  start_none : (ms : List Lexeme) → is_opening (token_of ms) ≡ false → start_of w ms ≡ got false ms
  unfolding start_of starts
  start_none ms e = rw (e, start_of)

  start-other : (ms : List Lexeme) → is_opening (token_of ms) ≡ true → is_keyword w (token_of (rest ms)) ≡ false → start_of w ms ≡ got false ms
  unfolding start_of starts
  start-other ms e f = rw (e, f, start_of)

  last_yes : (ms : List Lexeme) → is_opening (token_of ms) ≡ true → last_of w ms ≡ after (word_of w (rest ms)) (λ _. pure true)
  unfolding last_of opened_of ◌>>◌ after
  last_yes ms e = rw (e, last_of) (rw (bracket_yes ms e))

  last_none : (ms : List Lexeme) → is_opening (token_of ms) ≡ false → last_of w ms ≡ got false ms
  unfolding last_of
  last_none ms e = rw (e, last_of)

  module _ (text : List ℕ) (at : ℕ) (t : Span) (n : Next text at t) where
    pub start_no_bracket : is_opening (lexeme_of text t).token ≡ false → reads text (Ok at) false ≡ from text (Ok at) (start_of w)
    unfolding from pure
    start_no_bracket e = sym (start_none _ (rw (next_token text at t n) e))

    pub last_no_bracket : is_opening (lexeme_of text t).token ≡ false → reads text (Ok at) false ≡ from text (Ok at) (last_of w)
    unfolding from pure
    last_no_bracket e = sym (last_none _ (rw (next_token text at t n) e))

    module _ (e : is_opening (lexeme_of text t).token ≡ true) where
      inside : rest (lex_at text at) ≡ lex_at text t.end
      unfolding lexeme_of lexeme is_opening
      inside = next_rest text at t n (live is_opening refl t.kind _ e)

      module _ (k : Span) (m : Next text t.end k) where
        pub start_no_word : is_keyword w (lexeme_of text k).token ≡ false → reads text (Ok at) false ≡ from text (Ok at) (start_of w)
        unfolding from pure
        start_no_word f = sym (start-other _ (rw (next_token text at t n) e) (rw (inside, next_token text t.end k m) f))

        pub start_word : is_keyword w (lexeme_of text k).token ≡ true → reads text (Ok k.end) true ≡ from text (Ok at) (start_of w)
        unfolding from lexeme_of lexeme is_keyword pure
        start_word f =
            sym (start_yes _ (rw (next_token text at t n) e) (rw (inside, next_token text t.end k m) f)
            ∙ rw inside (ap (got true) (next_rest text t.end k m (live (is_keyword w) refl k.kind _ f))))

      -- what stands after the bracket decides
      pub last_bracket : from text (Ok t.end) (word_of w >> pure true) ≡ from text (Ok at) (last_of w)
      unfolding from ◌>>◌
      last_bracket = sym (last_yes _ (rw (next_token text at t n) e) ∙ rw inside)

-- what a chunk that may be left out gives: where it stands, what its reader does after ( and keyword
module _ {A : Type 0} (k : String) (a : A) (r : Reader A) where
  optional_pick : (ms : List Lexeme) → optional k a r ms ≡ (start_of (bytes k) >>= λ x. pick x r (pure a)) ms
  unfolding optional start_of ◌>>=◌ after pick pure
  optional_pick ms = go (starts (bytes k) ms) refl
    where
      go : (v : Bool) → starts (bytes k) ms ≡ v → optional k a r ms ≡ (start_of (bytes k) >>= λ x. pick x r (pure a)) ms
      go true e = rw (e, optional, start_of)
      go false e = rw (e, optional, start_of)

  trailing_pick : (ms : List Lexeme) → trailing k a r ms ≡ (last_of (bytes k) >>= λ x. pick x r (pure a)) ms
  unfolding trailing last_of opened ◌>>=◌ ◌>>◌ after pick pure
  trailing_pick ms = go (is_opening (token_of ms)) refl
    where
      go : (v : Bool) → is_opening (token_of ms) ≡ v → trailing k a r ms ≡ (last_of (bytes k) >>= λ x. pick x r (pure a)) ms
      go true e = rw (e, trailing, last_of) (sym (after-after (opened_of (bytes k) ms) (λ _. pure true) _))
      go false e = rw (e, trailing, last_of)

  module _ (text : List ℕ) (c : Cursor) where
    module _ (d : Cursor) (v : Bool) where
      module _ (p : reads text d v ≡ from text c (start_of (bytes k))) where
        pub optional_yes : v ≡ true → {g : Got A} → g ≡ from text d r → g ≡ from text c (optional k a r)
        optional_yes h q = q ∙ sym (from-same text c _ _ optional_pick ∙ chosen_yes text c d (start_of (bytes k)) v p r (pure a) h)

        pub optional_no : v ≡ false → reads text d a ≡ from text c (optional k a r)
        optional_no h = sym (from-same text c _ _ optional_pick ∙ chosen_no text c d (start_of (bytes k)) v p r (pure a) h)

      module _ (p : reads text d v ≡ from text c (last_of (bytes k))) where
        pub trailing_yes : v ≡ true → {g : Got A} → g ≡ from text d r → g ≡ from text c (trailing k a r)
        trailing_yes h q = q ∙ sym (from-same text c _ _ trailing_pick ∙ chosen_yes text c d (last_of (bytes k)) v p r (pure a) h)

        pub trailing_no : v ≡ false → reads text d a ≡ from text c (trailing k a r)
        trailing_no h = sym (from-same text c _ _ trailing_pick ∙ chosen_no text c d (last_of (bytes k)) v p r (pure a) h)

    -- a refusal before it is known whether the chunk stands
    pub optional_off : {n p : ℕ} → from text c (start_of (bytes k)) ≡ refused n p → from text c (optional k a r) ≡ refused n p
    optional_off e = from-same text c _ _ optional_pick ∙ halt text c (start_of (bytes k)) e _

    pub trailing_off : {n p : ℕ} → from text c (last_of (bytes k)) ≡ refused n p → from text c (trailing k a r) ≡ refused n p
    trailing_off e = from-same text c _ _ trailing_pick ∙ halt text c (last_of (bytes k)) e _

-- a value that is only put into another form
pub optional-map : {A B : Type 0} (k : String) (a : A) (r : Reader A) (g : A → B) (ms : List Lexeme) → (optional k a r >>= λ x. pure (g x)) ms ≡ optional k (g a) (r >>= λ x. pure (g x)) ms
unfolding optional ◌>>=◌ after pure
optional-map {A} {B} k a r g ms = go (starts (bytes k) ms) refl
  where
    go : (v : Bool) → starts (bytes k) ms ≡ v → (optional k a r >>= λ x. pure (g x)) ms ≡ optional k (g a) (r >>= λ x. pure (g x)) ms
    go true e = rw (e, optional)
    go false e = rw (e, optional)

pub trailing-map : {A B : Type 0} (k : String) (a : A) (r : Reader A) (g : A → B) (ms : List Lexeme) → (trailing k a r >>= λ x. pure (g x)) ms ≡ trailing k (g a) (r >>= λ x. pure (g x)) ms
unfolding trailing ◌>>=◌ ◌>>◌ after pure
trailing-map {A} {B} k a r g ms = go (is_opening (token_of ms)) refl
  where
    go : (v : Bool) → is_opening (token_of ms) ≡ v → (trailing k a r >>= λ x. pure (g x)) ms ≡ trailing k (g a) (r >>= λ x. pure (g x)) ms
    go true e = rw (e, trailing) (after-after (opened k ms) (λ _. r) _)
    go false e = rw (e, trailing)

-- ---- a chunk as the last takes no token back

pub last_keeps : (w : List ℕ) → Keeps (last_of w)
unfolding last_of
last_keeps w ms b l e = go (is_opening (token_of ms)) refl
  where
    go : (x : Bool) → is_opening (token_of ms) ≡ x → length l ≤ length ms
    go true p = let h : (opened_of w >> pure true) ms ≡ got b l = rw (p, last_of) at e in then_keeps (takes_keeps (opened_of_takes w)) (pure_keeps true) ms b l h
    go false p = let h : got false ms ≡ got b l = rw (p, last_of) at e in omega (arith, got-rest false b ms l h)
