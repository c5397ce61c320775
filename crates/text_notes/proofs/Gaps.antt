-- Blanks, or a comment with its line feed, are passed over by any walk over bytes that passes a blank and a comment: by induction on them.
use mathlib.Core.Path.{◌≡◌, refl, ap, ◌∙◌}
use mathlib.Core.List.{List, [], ◌∷◌, ◌++◌}
use mathlib.Core.Bool.{Bool, true, false, not, false≢true}
use Prim.Native.Nat.{ℕ, suc, ◌+◌}
use native.Mathlib.Omega.{arith}
use borrow.Author.Tests.{eqb-true}
use lib.Dec.{eqb}
use lib.ListN.{length}
use Rattle.text_bytes.specs.Bytes.{blank, semicolon, class_of, is_blank, between, is_letter, in_line}
use Rattle.text_runs.specs.Runs.{run}
use Rattle.text_runs.proofs.Runs.{run_yes, run_no}
use Rattle.text_tokens.specs.Tokens.{tokens}
use Rattle.refusal.specs.FirstBad.{all}
use Rattle.text_numerals.proofs.Numerals.{and_true}
use Rattle.text_notes.specs.Notes.{is_line, is_comment, is_gap}
use Rattle.text_notes.specs.Internal.Cuts.{taken, fine, sound}
use Rattle.text_notes.proofs.Classes.{blank_class, blank-letter}

pub none_in : (l : List ℕ) → length l ≡ 0 → l ≡ []
none_in [] e = refl
none_in (b ∷ l) e = absurd (omega arith)

-- the last byte of a line, and any other
module _ (b : ℕ) (l : List ℕ) (h : is_line (b ∷ l) ≡ true) where
  line-last : eqb b 10 ≡ true → (b ≡ 10) × (l ≡ [])
  unfolding is_line
  line-last e = (eqb-true b 10 e, none_in l (eqb-true (length l) 0 (rw e at h)))

  line_more : eqb b 10 ≡ false → is_line l ≡ true
  unfolding is_line
  line_more e = rw e at h

-- ---- a walk over bytes

-- what is made of the bytes that stand at an offset, of which the first so many belong to what stands before them
record Walk {A : Type 0} (F : ℕ → ℕ → List ℕ → A) : Type 0 where
  held : (k p b : ℕ) (bs : List ℕ) → F (suc k) p (b ∷ bs) ≡ F k (suc p) bs
  at_blank : (p b : ℕ) (bs : List ℕ) → class_of b ≡ blank → F 0 p (b ∷ bs) ≡ F 0 (suc p) bs
  at_comment : (p b : ℕ) (bs : List ℕ) → class_of b ≡ semicolon → F 0 p (b ∷ bs) ≡ F (length (run in_line bs)) (suc p) bs

module _ {A : Type 0} (F : ℕ → ℕ → List ℕ → A) (w : Walk F) where
  from : (p q : ℕ) (bs : List ℕ) → p ≡ q → F 0 p bs ≡ F 0 q bs
  from p q bs e = ap (λ (x : ℕ). F 0 x bs) e

  blanks_passed : (gap : List ℕ) (p : ℕ) (bs : List ℕ) → all is_blank gap ≡ true → F 0 p (gap ++ bs) ≡ F 0 (p + length gap) bs
  unfolding all
  blanks_passed [] p bs h = from p (p + 0) bs (omega arith)
  blanks_passed (b ∷ gap) p bs h =
      let e = and_true (is_blank b) (all is_blank gap) h in
      w.at_blank p b (gap ++ bs) (blank_class b e.0) ∙ blanks_passed gap (suc p) bs e.1 ∙ from (suc p + length gap) (p + suc (length gap)) bs (omega arith)

  -- the last byte of a line is a blank
  line_passed : (l : List ℕ) (p : ℕ) (bs : List ℕ) → is_line l ≡ true → F (length (run in_line (l ++ bs))) p (l ++ bs) ≡ F 0 (p + length l) bs
  unfolding is_line class_of is_blank in_line
  line_passed [] p bs h = absurd (false≢true h)
  line_passed (b ∷ l) p bs h = go (eqb b 10) refl (line_passed l (suc p) bs)
    where
      go : (v : Bool) → eqb b 10 ≡ v → (is_line l ≡ true → F (length (run in_line (l ++ bs))) (suc p) (l ++ bs) ≡ F 0 (suc p + length l) bs) → F (length (run in_line (b ∷ l ++ bs))) p (b ∷ l ++ bs) ≡ F 0 (p + suc (length l)) bs
      go true e ih = let q = line-last b l h e in rw (q.0, q.1, run_no in_line 10 bs refl) (w.at_blank p 10 bs refl ∙ from (suc p) (p + 1) bs (omega arith))
      go false e ih = rw (run_yes in_line b (l ++ bs) (ap not e)) (w.held _ p b (l ++ bs) ∙ ih (line_more b l h e) ∙ from (suc p + length l) (p + suc (length l)) bs (omega arith))

  comment_passed : (gap : List ℕ) (p : ℕ) (bs : List ℕ) → is_comment gap ≡ true → F 0 p (gap ++ bs) ≡ F 0 (p + length gap) bs
  unfolding is_comment class_of is_blank
  comment_passed [] p bs h = absurd (false≢true h)
  comment_passed (b ∷ l) p bs h =
      let q = and_true (eqb b 59) (is_line l) h in
      w.at_comment p b (l ++ bs) (rw (eqb-true b 59 q.0)) ∙ line_passed l (suc p) bs q.1 ∙ from (suc p + length l) (p + suc (length l)) bs (omega arith)

  gap_passed : (gap : List ℕ) (p : ℕ) (bs : List ℕ) → is_gap gap ≡ true → F 0 p (gap ++ bs) ≡ F 0 (p + length gap) bs
  unfolding is_gap
  gap_passed gap p bs h = go (all is_blank gap) refl
    where
      go : (v : Bool) → all is_blank gap ≡ v → F 0 p (gap ++ bs) ≡ F 0 (p + length gap) bs
      go true e = blanks_passed gap p bs e
      go false e = comment_passed gap p bs (rw e at h)

-- ---- tokens and faults

tokens_walk : Walk tokens
unfolding tokens
tokens_walk = record { held = λ k p b bs. refl; at_blank = λ p b bs e. rw (e, tokens); at_comment = λ p b bs e. rw (e, tokens) }

pub gap-tokens : (gap : List ℕ) (p : ℕ) (bs : List ℕ) → is_gap gap ≡ true → tokens 0 p (gap ++ bs) ≡ tokens 0 (p + length gap) bs
gap-tokens = gap_passed tokens tokens_walk

-- `sound` knows no offsets
abbrev sound_at : ℕ → ℕ → List ℕ → Bool
sound_at k p bs = sound k bs

sound_walk : Walk sound_at
unfolding taken fine sound
sound_walk = record { held = λ k p b bs. refl; at_blank = λ p b bs e. rw (e, sound); at_comment = λ p b bs e. rw (e, sound) }

pub gap-sound : (gap bs : List ℕ) → is_gap gap ≡ true → sound 0 (gap ++ bs) ≡ sound 0 bs
gap-sound gap = gap_passed sound_at sound_walk gap 0

-- it begins with no letter
pub gap-letter : (b : ℕ) (gap : List ℕ) → is_gap (b ∷ gap) ≡ true → is_letter b ≡ false
unfolding is_gap all is_comment is_letter between
gap-letter b gap h = go (is_blank b) refl
  where
    go : (v : Bool) → is_blank b ≡ v → is_letter b ≡ false
    go true e = blank-letter b e
    go false e = let q = and_true (eqb b 59) (is_line gap) (rw e at h) in rw (eqb-true b 59 q.0)
