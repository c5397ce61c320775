-- Laws of chunks in a free order: which kind a token picks, and what its chunk does to the fields.
use mathlib.Core.Path.{◌≡◌, refl, ap, sym}
use mathlib.Core.List.{List, [], ◌∷◌}
use mathlib.Core.Bool.{Bool, true, false, false≢true}
use mathlib.Core.Option.{Option, none, some}
use Prim.Native.Nat.{ℕ, zero, suc, ◌≤◌, ◌<◌}
use Prim.Native.String.{String}
use native.Mathlib.Omega.{arith}
use lib.ListN.{length, get_or, set}
use Rattle.text_bytes.specs.Bytes.{bytes}
use Rattle.text_tokens.specs.Tokens.{Token, opening, closing, ending, quoted, plain, Lexeme, is_keyword}
use Rattle.text_runs.proofs.Parts.{same_true}
use Rattle.parse_spec.specs.Readers.{Got, got, refused, Reader, after, ◌>>=◌, ◌>>◌, pure, stop, token_of, rest, take_if, open_bracket, one_from}
use Rattle.text_kinds.specs.Kinds.{is_opening, is_closing}
use Rattle.parse_spec.specs.Fields.{Kind, complete, kind_from, fields_in}
use Rattle.parse_spec.specs.Internal.Fields.{hits, single, inside_at}

-- a refusal stays one
pub after_stop : {A B : Type 0} (n : ℕ) (ms : List Lexeme) (f : A → Reader B) → after (stop n ms) f ≡ stop n ms
unfolding after stop
after_stop n [] f = refl
after_stop n (m ∷ ms) f = refl

pub after-after : {A B C : Type 0} (g : Got A) (f : A → Reader B) (h : B → Reader C) → after (after g f) h ≡ after g (λ a ms. after (f a ms) h)
unfolding after
after-after (got a ms) f h = refl
after-after (refused n p) f h = refl

-- a token that is a keyword
pub keyword-is : (w : List ℕ) (t : Token) → is_keyword w t ≡ true → t ≡ plain w
unfolding is_keyword
keyword-is w opening e = absurd (false≢true e)
keyword-is w closing e = absurd (false≢true e)
keyword-is w ending e = absurd (false≢true e)
keyword-is w (quoted bs) e = absurd (false≢true e)
keyword-is w (plain bs) e = ap plain (same_true bs w e)

-- a list of choices by its head and its tail
head_of : (b c : Bool) (l m : List Bool) → b ∷ l ≡ c ∷ m → b ≡ c
head_of b c l m e = cc

tail_of : (b c : Bool) (l m : List Bool) → b ∷ l ≡ c ∷ m → l ≡ m
tail_of b c l m e = cc

no_cons : (b : Bool) (l : List Bool) → b ∷ l ≡ [] → ⊥
no_cons b l e = let z : ◌≡◌ {A = ℕ} 0 1 = cc in omega arith

module _ {A : Type 0} (ms : List Lexeme) where
  -- no kind's keyword comes next
  pub kind_miss : (ks : List (Kind A)) (fs : List (Option A)) (n k : ℕ) → n ≤ k → hits ks (token_of ms) ≡ single n k → kind_from ks fs ms ≡ stop 5 ms
  unfolding kind_from hits single ◌>>=◌
  kind_miss [] fs n k h e = refl
  kind_miss (kd ∷ ks) [] n k h e = refl
  kind_miss (kd ∷ ks) (f ∷ fs) zero k h e = absurd (no_cons _ _ e)
  kind_miss (kd ∷ ks) (f ∷ fs) (suc n) zero h e = absurd (omega arith)
  kind_miss (kd ∷ ks) (none ∷ fs) (suc n) (suc k) h e = rw (head_of _ _ _ _ e, kind_from, kind_miss ks fs n k (omega arith) (tail_of _ _ _ _ e)) (after_stop 5 ms _)
  kind_miss (kd ∷ ks) (some a ∷ fs) (suc n) (suc k) h e = rw (kind_miss ks fs n k (omega arith) (tail_of _ _ _ _ e)) (after_stop 5 ms _)

  -- the keyword of a kind that has stood comes next
  pub kind-again : (ks : List (Kind A)) (fs : List (Option A)) (n k : ℕ) (a : A) → get_or fs k none ≡ some a → hits ks (token_of ms) ≡ single n k → kind_from ks fs ms ≡ stop 5 ms
  unfolding kind_from hits single ◌>>=◌
  kind-again [] fs n k a g e = refl
  kind-again (kd ∷ ks) [] n k a g e = refl
  kind-again (kd ∷ ks) (f ∷ fs) zero k a g e = absurd (no_cons _ _ e)
  kind-again (kd ∷ ks) (none ∷ fs) (suc n) zero a g e = absurd (let z : ◌≡◌ {A = ℕ} 0 1 = cc in omega arith)
  kind-again (kd ∷ ks) (some b ∷ fs) (suc n) zero a g e = rw (kind_miss ks fs n n (omega arith) (tail_of _ _ _ _ e)) (after_stop 5 ms _)
  kind-again (kd ∷ ks) (none ∷ fs) (suc n) (suc k) a g e = rw (head_of _ _ _ _ e, kind_from, kind-again ks fs n k a g (tail_of _ _ _ _ e)) (after_stop 5 ms _)
  kind-again (kd ∷ ks) (some b ∷ fs) (suc n) (suc k) a g e = rw (kind-again ks fs n k a g (tail_of _ _ _ _ e)) (after_stop 5 ms _)

  -- the keyword of a kind that has not stood comes next
  pub kind_hit : (ks : List (Kind A)) (fs : List (Option A)) (n k : ℕ) → k < n → length fs ≡ length ks → get_or fs k none ≡ none → hits ks (token_of ms) ≡ single n k → kind_from ks fs ms ≡ (inside_at ks k >>= λ a. pure (set fs k (some a))) (rest ms)
  unfolding kind_from hits single inside_at ◌>>=◌ pure after
  kind_hit [] fs zero k h l g e = absurd (omega arith)
  kind_hit [] fs (suc n) zero h l g e = absurd (no_cons _ _ (sym e))
  kind_hit [] fs (suc n) (suc k) h l g e = absurd (no_cons _ _ (sym e))
  kind_hit (kd ∷ ks) [] n k h l g e = absurd (omega arith)
  kind_hit (kd ∷ ks) (f ∷ fs) zero k h l g e = absurd (omega arith)
  kind_hit (kd ∷ ks) (none ∷ fs) (suc n) zero h l g e = rw (head_of _ _ _ _ e, kind_from)
  kind_hit (kd ∷ ks) (some b ∷ fs) (suc n) zero h l g e = absurd (let z : ◌≡◌ {A = ℕ} 0 1 = cc in omega arith)
  kind_hit (kd ∷ ks) (none ∷ fs) (suc n) (suc k) h l g e = rw (head_of _ _ _ _ e, kind_from, kind_hit ks fs n k (omega arith) (omega arith) g (tail_of _ _ _ _ e)) (after-after (inside_at ks k (rest ms)) _ _)
  kind_hit (kd ∷ ks) (some b ∷ fs) (suc n) (suc k) h l g e = rw (kind_hit ks fs n k (omega arith) (omega arith) g (tail_of _ _ _ _ e)) (after-after (inside_at ks k (rest ms)) _ _)

-- ---- chunks up to the closing bracket

module _ {A : Type 0} (ks : List (Kind A)) (fs : List (Option A)) (ms : List Lexeme) where
  pub fields_close : (n : ℕ) → is_closing (token_of ms) ≡ true → complete ks fs ≡ true → fields_in n ks fs ms ≡ got fs (rest ms)
  unfolding fields_in
  fields_close zero e f = rw (e, f, fields_in)
  fields_close (suc n) e f = rw (e, f, fields_in)

  pub fields_early : (n : ℕ) → is_closing (token_of ms) ≡ true → complete ks fs ≡ false → fields_in n ks fs ms ≡ stop 5 ms
  unfolding fields_in
  fields_early zero e f = rw (e, f, fields_in)
  fields_early (suc n) e f = rw (e, f, fields_in)

  -- no chunk may open any more
  pub fields_full : is_closing (token_of ms) ≡ false → fields_in 0 ks fs ms ≡ stop 5 ms
  unfolding fields_in
  fields_full e = rw (e, fields_in)

  pub fields-other : (n : ℕ) → is_closing (token_of ms) ≡ false → is_opening (token_of ms) ≡ false → fields_in n ks fs ms ≡ stop 5 ms
  unfolding fields_in open_bracket take_if ◌>>◌ ◌>>=◌
  fields-other zero e f = rw (e, fields_in)
  fields-other (suc n) e f = rw (e, fields_in, f, take_if, after_stop 5 ms (λ _. kind_from ks fs)) (after_stop 5 ms _)

  pub fields_chunk : (n : ℕ) → is_closing (token_of ms) ≡ false → is_opening (token_of ms) ≡ true → fields_in (suc n) ks fs ms ≡ after (kind_from ks fs (rest ms)) (λ gs. fields_in n ks gs)
  unfolding fields_in open_bracket take_if ◌>>◌ ◌>>=◌ after
  fields_chunk n e f = rw (e, fields_in, f, take_if)

-- ---- one of some words

pub one_yes : (n : ℕ) (k : String) (ks : List String) (ms : List Lexeme) → is_keyword (bytes k) (token_of ms) ≡ true → one_from n (k ∷ ks) ms ≡ got n (rest ms)
unfolding one_from
one_yes n k ks ms e = rw (e, one_from)

pub one_no : (n : ℕ) (k : String) (ks : List String) (ms : List Lexeme) → is_keyword (bytes k) (token_of ms) ≡ false → one_from n (k ∷ ks) ms ≡ one_from (suc n) ks ms
unfolding one_from
one_no n k ks ms e = rw (e, one_from)
