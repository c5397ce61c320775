-- Chunks of one keyword, worked off one by one: each turn of a loop is one choice by ( and keyword, and one chunk.
use mathlib.Core.Path.{◌≡◌, refl, ap, sym, ◌∙◌}
use mathlib.Core.List.{List, [], ◌∷◌}
use mathlib.Core.Bool.{Bool, true, false, false≢true}
use Prim.Native.Nat.{ℕ, suc, ◌<◌}
use Prim.Native.String.{String}
use native.Mathlib.Omega.{arith}
use lib.ListN.{length}
use Rattle.text_bytes.specs.Bytes.{bytes}
use Rattle.text_tokens.specs.Tokens.{Lexeme, lex_at}
use Rattle.std.proofs.Common.{Ok}
use Rattle.parse_spec.specs.Readers.{got, refused, Reader, after, ◌>>=◌, pure, token_of, rest, starts}
use Rattle.text_kinds.specs.Kinds.{is_opening}
use Rattle.parse_cursor.specs.Internal.Cursors.{Cursor, from, reads}
use Rattle.parse_spec.specs.Internal.Branches.{start_of}
use Rattle.parse_rows.specs.Internal.Folds.{fold, stepped}
use Rattle.parse_cursor.proofs.Steps.{from-same, onto, halt}
use Rattle.parse_spec.proofs.Binds.{after-after, after_same}
use Rattle.parse_cursor.proofs.Counts.{short}
use Rattle.parse_spec.proofs.Many.{Keeps, rest-short, got-rest, pure_keeps, bind_keeps}
use Rattle.parse_cursor.proofs.Branches.{pick, chosen_yes, chosen_no}
use Rattle.tra4_text.specs.Grammar.{repeated}
use Rattle.tra4_text.proofs.Repeated.{repeated_end, repeated_more}

-- ( and a keyword are two tokens
start_less : (w : List ℕ) (ms l : List Lexeme) → start_of w ms ≡ got true l → length l < length ms
unfolding start_of starts token_of is_opening rest
start_less w [] l e = let z : ◌≡◌ {A = Bool} false true = cc in absurd (false≢true z)
start_less w (m ∷ ms) l e = go (starts w (m ∷ ms)) refl
  where
    go : (v : Bool) → starts w (m ∷ ms) ≡ v → length l < suc (length ms)
    go true p = let h : got true (rest ms) ≡ got true l = rw (p, start_of) at e in omega (arith, got-rest true true (rest ms) l h, rest-short ms)
    go false p = let h : got false (m ∷ ms) ≡ got true l = rw (p, start_of) at e in let z : ◌≡◌ {A = Bool} false true = cc in absurd (false≢true z)

module _ {A S : Type 0} (k : String) (step : S → A → S) (r : Reader A) (t : Keeps r) where
  abbrev pub rest_of : S → Reader S
  rest_of s = repeated k r >>= λ l. pure (fold step s l)

  repeated_pick : (s : S) (ms : List Lexeme) → rest_of s ms ≡ (start_of (bytes k) >>= λ x. pick x (stepped step r s >>= λ y. rest_of y) (pure s)) ms
  unfolding start_of ◌>>=◌ after pick pure fold stepped
  repeated_pick s ms = go (starts (bytes k) ms) refl
    where
      go : (v : Bool) → starts (bytes k) ms ≡ v → rest_of s ms ≡ (start_of (bytes k) >>= λ x. pick x (stepped step r s >>= λ y. rest_of y) (pure s)) ms
      go true e =
          rw (e, start_of, repeated_more k r t ms e)
          (after-after (r (rest (rest ms))) _ _
          ∙ after_same (r (rest (rest ms))) _ _ (λ a l. after-after (repeated k r l) _ _)
          ∙ sym (after-after (r (rest (rest ms))) _ _))
      go false e = rw (e, start_of, repeated_end k r ms e)

  -- refused before it is known whether a chunk stands
  pub repeats_off : (text : List ℕ) (c : Cursor) (s : S) {n q : ℕ} → from text c (start_of (bytes k)) ≡ refused n q → from text c (rest_of s) ≡ refused n q
  repeats_off text c s h = from-same text c _ _ (repeated_pick s) ∙ halt text c (start_of (bytes k)) h _

  module _ (text : List ℕ) (c d : Cursor) (v : Bool) (p : reads text d v ≡ from text c (start_of (bytes k))) (s : S) where
    pub repeats_end : v ≡ false → from text c (rest_of s) ≡ reads text d s
    repeats_end e = from-same text c _ _ (repeated_pick s) ∙ chosen_no text c d (start_of (bytes k)) v p (stepped step r s >>= λ y. rest_of y) (pure s) e

    module _ (o : v ≡ true) where
      repeats_into : from text c (rest_of s) ≡ from text d (stepped step r s >>= λ y. rest_of y)
      repeats_into = from-same text c _ _ (repeated_pick s) ∙ chosen_yes text c d (start_of (bytes k)) v p (stepped step r s >>= λ y. rest_of y) (pure s) o

      pub repeats_more : (e : Cursor) (x : S) → reads text e x ≡ from text d (stepped step r s) → from text c (rest_of s) ≡ from text e (rest_of x)
      repeats_more e x q = repeats_into ∙ onto text d e x (stepped step r s) (λ y. rest_of y) q

      -- refused in a chunk
      pub repeats_stop : {n q : ℕ} → from text d (stepped step r s) ≡ refused n q → from text c (rest_of s) ≡ refused n q
      repeats_stop h = repeats_into ∙ halt text d (stepped step r s) h (λ y. rest_of y)

  module _ (text : List ℕ) (at to : ℕ) (v : Bool) (p : reads text (Ok to) v ≡ from text (Ok at) (start_of (bytes k))) (o : v ≡ true) where
    pub start_falls : length (lex_at text to) < length (lex_at text at)
    unfolding from pure
    start_falls = start_less (bytes k) (lex_at text at) (lex_at text to) (sym p ∙ ap (λ (b : Bool). got b (lex_at text to)) o)

    -- fewer tokens are left
    pub repeats_fall : (s x : S) (end : ℕ) → reads text (Ok end) x ≡ from text (Ok to) (stepped step r s) → length (lex_at text end) < length (lex_at text at)
    unfolding stepped
    repeats_fall s x end q = omega (arith, start_falls, short text to end (stepped step r s) x (bind_keeps t (λ a. pure_keeps (step s a))) q)
