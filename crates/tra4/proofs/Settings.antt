-- The answer and the table by whether the table is long enough, and the numbers that stand first.
use mathlib.Core.Path.{◌≡◌, refl, ap, ◌∙◌}
use mathlib.Core.List.{List, [], ◌∷◌}
use mathlib.Core.Bool.{Bool, true, false}
use Prim.Native.Nat.{ℕ, ◌^◌, ◌≤◌, ◌<◌}
use borrow.Author.Tests.{le-leb, lt-leb, leb-true, leb-false}
use mir.Syntax.{w64}
use mir.Val.{to_z}
use lib.Dec.{leb}
use lib.IntN.{ℤ, pos}
use native.Mathlib.Omega.{arith}
use lib.ListN.{length, take, length-take}
use Rattle.signed.proofs.Signed.{bits_pos}
use Rattle.table_rows.specs.Internal.Overlay.{overlay_at}
use Rattle.refusal.specs.Outcomes.{Outcome, rejected, accepted, fitted, laid}
use Rattle.parse_text.proofs.Answers.{refused-answer, answer-parts}
use Rattle.parse_text.proofs.Outcomes.{fitted-room, fitted_short, laid-rejected, laid-accepted}
use Rattle.tra4_text.specs.Movement.{Movement}
use Rattle.tra4_text.specs.Layout.{layout_of}
use Rattle.tra4_text.specs.Answer.{movement_outcome, movement_answer, movement_table}
use Rattle.tra4_parse.specs.declared.shape.Shape.{Shape}
use Rattle.tra4.specs.declared.setting.MovementAnswer.{MovementAnswer}
use Rattle.tra4.specs.Answers.{refused_with, answer_of}
use Rattle.tra4.specs.Internal.Answers.{Answered, total_of, counts_answer, down_answer, down_table}

-- a part that is lent
pub part_length : (n : ℕ) (l : List ℤ) → n ≤ length l → n ≡ length (take n l)
part_length n l h = rw (length-take n l) (omega arith)

-- ---- by the counts

module _ (p : Shape) where
  pub short-answer : (room : ℕ) → room < total_of p → down_answer p room ≡ refused_with 17 (total_of p)
  unfolding down_answer
  short-answer room h = rw (lt-leb (total_of p) room h, down_answer)

  pub long_answer : (room : ℕ) → total_of p ≤ room → down_answer p room ≡ counts_answer p
  unfolding down_answer
  long_answer room h = rw (le-leb (total_of p) room h, down_answer)

  pub short-table : (numbers table : List ℤ) → length table < total_of p → table ≡ down_table p numbers table
  unfolding down_table
  short-table numbers table h = rw (lt-leb (total_of p) (length table) h, down_table)

  pub long_table : (numbers table exit : List ℤ) → total_of p ≤ length table → exit ≡ overlay_at 0 numbers table → exit ≡ down_table p numbers table
  unfolding down_table
  long_table numbers table exit h e = e ∙ rw (le-leb (total_of p) (length table) h, down_table)

-- ---- the ways to answer

-- a refusal leaves the table
pub refused_answered : {o : Outcome Movement} {n p : ℕ} {r : MovementAnswer} → o ≡ rejected n p → r ≡ refused_with n p → (table : List ℤ) → Answered o table table r
unfolding answer_of
refused_answered e a table = refused-answer answer_of layout_of e a table

-- the answer that `read` promises
pub outcome_answered : (text : List ℕ) {o : Outcome Movement} {table exit : List ℤ} {r : MovementAnswer} → movement_outcome text ≡ o → Answered o table exit r → (r ≡ answer_of (movement_answer text (length table))) × (exit ≡ movement_table text table)
unfolding movement_answer movement_table
outcome_answered text e a = answer-parts answer_of layout_of e a

-- ---- a movement that is taken

module _ (m : Movement) (p : Shape) (t : total_of p ≡ length (layout_of m)) where
  pub answer-is : counts_answer p ≡ answer_of (accepted m) → (room : ℕ) → down_answer p room ≡ answer_of (fitted layout_of room (accepted m))
  unfolding down_answer answer_of
  answer-is e room = go (leb (length (layout_of m)) room) refl
    where
      go : (v : Bool) → leb (length (layout_of m)) room ≡ v → down_answer p room ≡ answer_of (fitted layout_of room (accepted m))
      go true o = rw (fitted-room layout_of m room (leb-true _ _ o)) (rw (t, o, down_answer) e)
      go false o = rw (fitted_short layout_of m room (leb-false _ _ o)) (rw (t, o, down_answer) (ap (refused_with 17) t))

  pub table_is : (table : List ℤ) → down_table p (layout_of m) table ≡ laid layout_of table (fitted layout_of (length table) (accepted m))
  unfolding down_table
  table_is table = go (leb (length (layout_of m)) (length table)) refl
    where
      go : (v : Bool) → leb (length (layout_of m)) (length table) ≡ v → down_table p (layout_of m) table ≡ laid layout_of table (fitted layout_of (length table) (accepted m))
      go true o = rw (fitted-room layout_of m (length table) (leb-true _ _ o)) (rw (t, o, down_table) (laid-accepted layout_of m table (leb-true _ _ o)))
      go false o = rw (t, o, down_table) (laid-rejected layout_of (fitted_short layout_of m (length table) (leb-false _ _ o)) table)

-- ---- the numbers that stand first are themselves in 64 bits

pub first-numbers : (z z' : ℤ) (a b : ℕ) → z' ≡ z → a < 2 ^ 63 → b < 2 ^ 63 → ◌≡◌ {A = List ℤ} (z' ∷ to_z w64 a ∷ to_z w64 b ∷ []) (z ∷ pos a ∷ pos b ∷ [])
first-numbers z z' a b e h k = rw (e, bits_pos a h, bits_pos b k)
