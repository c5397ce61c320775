-- Label on the tables of taken texts, whatever bone is asked: the texts' own answer, and 21 exactly for a bone that is not in both; by cases on what exists.
use mathlib.Core.Path.{◌≡◌, refl}
use mathlib.Core.List.{List, ◌++◌}
use mathlib.Core.Bool.{Bool, true, false}
use Prim.Native.Nat.{ℕ, ◌<◌}
use borrow.Author.Tests.{ltb-true}
use lib.Dec.{ltb}
use lib.IntN.{ℤ}
use lib.ListN.{length}
use Rattle.refusal.specs.Faults.{clear}
use Rattle.text_check.specs.Internal.Strings.{StringAt}
use Rattle.bac6_text.specs.Figure.{Figure}
use Rattle.bac6_text.specs.Rules.{figure_fault}
use Rattle.bac6_text.specs.Layout as figures
use Rattle.bac6_text.proofs.Whole.{WholeFigure}
use Rattle.tra4_text.specs.Movement.{Movement}
use Rattle.tra4_text.specs.Layout as movements
use Rattle.tra4_text.proofs.Whole.{WholeMovement}
use Rattle.table_movement.specs.Sections.{holds_movement}
use Rattle.player_spec.specs.Lookups.{only_if}
use Rattle.player_names.specs.Names.{if_true}
use Rattle.player_label.specs.Labels.{label_from, label_in}
use Rattle.movement_bridge.proofs.Tables.{counts_read}
use Rattle.movement_bridge.proofs.Names as movement
use Rattle.figure_bridge.proofs.Parts.{counts}
use Rattle.figure_bridge.proofs.Corners.{figure_holds}
use Rattle.figure_bridge.proofs.Names as figure
use Rattle.pair_bridge.specs.Playing.{label_asked}
use Rattle.pair_bridge.proofs.Names.{figure-named, movement-named}
use Rattle.tra4_text.specs.Rules.{movement_counts}

module _ (F : List ℕ) (f : Figure) (w : WholeFigure f) (c : figure_fault f ≡ clear) (rest : List ℤ) (F-stands : (i : ℕ) → i < length f.bones → StringAt F (figure.bone_name f.bones i).at (figure.bone_name f.bones i).bytes) (M : List ℕ) (m : Movement) (v : WholeMovement m) (t beyond : List ℤ) (e : t ≡ movements.layout_of m ++ beyond) (held : holds_movement (counts_read m) t ≡ true) (M-stands : (i : ℕ) → i < length m.bones → StringAt M (movement.bone_name m.bones i).at (movement.bone_name m.bones i).bytes) where
  pub label-read : (bone : ℕ) → label_in F (counts f) (figures.layout_of f ++ rest) M (counts_read m) t bone ≡ label_asked f m bone
  unfolding label_in label_asked only_if if_true label_from movement_counts
  label-read bone = go (ltb bone (length f.bones)) (ltb bone (length m.bones)) refl refl
    where
      go : (a b : Bool) → ltb bone (length f.bones) ≡ a → ltb bone (length m.bones) ≡ b → label_in F (counts f) (figures.layout_of f ++ rest) M (counts_read m) t bone ≡ label_asked f m bone
      go true true p q = rw (figure_holds f w c rest, held, p, q, figure-named F f w c rest F-stands bone (ltb-true _ _ p), movement-named M m v t beyond e M-stands bone (ltb-true _ _ q))
      go true false p q = rw (figure_holds f w c rest, held, p, q)
      go false b p q = rw (figure_holds f w c rest, held, p)
