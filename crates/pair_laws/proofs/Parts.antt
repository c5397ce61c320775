-- The two texts of a loaded pair, each taken alone, and the tables that loading leaves are those that reading each alone leaves.
use mathlib.Core.Path.{◌≡◌, refl, sym}
use mathlib.Core.List.{List}
use mathlib.Core.Bool.{Bool, true, false}
use Prim.Native.Nat.{ℕ}
use lib.Dec.{leb}
use lib.IntN.{ℤ}
use lib.ListN.{length}
use Rattle.refusal.specs.Outcomes.{Outcome, rejected, accepted, fitted}
use Rattle.parse_text.proofs.Outcomes.{rejected_no}
use Rattle.bac6_text.specs.Figure.{Figure}
use Rattle.bac6_text.specs.Layout as figures
use Rattle.bac6_text.specs.Answer.{figure_outcome, figure_answer, table_after}
use Rattle.tra4_text.specs.Movement.{Movement}
use Rattle.tra4_text.specs.Layout as movements
use Rattle.tra4_text.specs.Answer.{movement_outcome, movement_answer, movement_table}
use Rattle.movement_bridge.proofs.Tables.{table-read}
use Rattle.figure_bridge.proofs.Texts.{figure-table}
use Rattle.pair_text.specs.Answer.{loaded, pair_answer, figure_left, movement_of, movement_left}
use Rattle.pair_text.proofs.Taken.{PairTaken, pair-taken}

-- whatever the table, the text alone is taken
module _ {A : Type 0} (layout : A → List ℤ) (room : ℕ) (a : A) where
  alone : (o : Outcome A) → fitted layout room o ≡ accepted a → o ≡ accepted a
  unfolding fitted
  alone (rejected n p) e = absurd (rejected_no n p a e)
  alone (accepted b) e = go (leb (length (layout b)) room) refl
    where
      go : (v : Bool) → leb (length (layout b)) room ≡ v → accepted b ≡ accepted a
      go true q = rw (q, fitted) at e
      go false q = absurd (rejected_no 17 (length (layout b)) a (rw (q, fitted) at e))

pub figure_alone : (text : List ℕ) (room : ℕ) (f : Figure) → figure_answer text room ≡ accepted f → figure_outcome text ≡ accepted f
unfolding figure_answer
figure_alone text room f e = alone figures.layout_of room f (figure_outcome text) e

pub movement_alone : (text : List ℕ) (room : ℕ) (m : Movement) → movement_answer text room ≡ accepted m → movement_outcome text ≡ accepted m
unfolding movement_answer
movement_alone text room m e = alone movements.layout_of room m (movement_outcome text) e

pub parts_taken : (F : List ℕ) (room : ℕ) (M : List ℕ) (space : ℕ) (f : Figure) (m : Movement) → pair_answer F room M space ≡ loaded (f, m) → PairTaken (figure_answer F room) (movement_answer M space) f m
unfolding pair_answer
parts_taken F room M space f m e = pair-taken _ _ f m e

module _ (F : List ℕ) (table : List ℤ) (M : List ℕ) (moves : List ℤ) (f : Figure) (m : Movement) (e : pair_answer F (length table) M (length moves) ≡ loaded (f, m)) where
  pub figure-left : figure_left table (loaded (f, m)) ≡ table_after F table
  unfolding figure_left
  figure-left = sym (figure-table F table f (parts_taken F (length table) M (length moves) f m e).figure)

  pub moves-left : movement_left moves (movement_of (loaded (f, m))) ≡ movement_table M moves
  unfolding movement_left movement_of
  moves-left = sym (table-read M moves m (parts_taken F (length table) M (length moves) f m e).movement)
