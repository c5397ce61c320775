-- Label, and the names that loading a movement compares, on the tables of two taken texts that differ in name places alone: each name is read by its bytes, wherever they stand.
use mathlib.Core.Path.{◌≡◌, refl}
use mathlib.Core.List.{List, []}
use mathlib.Core.Bool.{Bool, true, false, and-false, ◌&&◌}
use mathlib.Core.Option.{some}
use Prim.Native.Nat.{ℕ, ◌<◌}
use borrow.Author.Tests.{ltb-true}
use lib.Dec.{ltb}
use lib.IntN.{ℤ}
use lib.ListN.{length, get_or, drop}
use Rattle.refusal.specs.Outcomes.{accepted}
use Rattle.table_counts.specs.declared.counts.FigureCounts.{FigureCounts}
use Rattle.table_counts.specs.declared.counts.MovementCounts.{MovementCounts}
use Rattle.table_figure.specs.Sections.{holds_figure}
use Rattle.table_movement.specs.Sections.{holds_movement}
use Rattle.bac6_text.specs.Figure.{Figure}
use Rattle.bac6_text.specs.Rules.{figure_counts}
use Rattle.bac6_text.specs.Layout as figures
use Rattle.bac6_text.specs.Answer.{figure_answer, table_after}
use Rattle.tra4_text.specs.Movement.{Movement}
use Rattle.tra4_text.specs.Rules.{movement_counts}
use Rattle.tra4_text.specs.Answer.{movement_answer, movement_table}
use Rattle.pair_text.specs.Rules.{figure_names, movement_names}
use Rattle.player_names.specs.Names.{figure_name, movement_name, if_true}
use Rattle.player_label.specs.Labels.{label_in}
use Rattle.player_label.specs.BoneNames.{names_in}
use Rattle.figure_bridge.proofs.Texts.{figure-taken, whole-figure, figure-table}
use Rattle.movement_bridge.proofs.Tables.{whole-read, table-read}
use Rattle.pair_bridge.proofs.Names.{figure-named, figure_names_in, movement-named}
use Rattle.pair_movement.proofs.Standing.{figure_stands, movement_stands}
use Rattle.pair_laws.proofs.Parts.{figure_alone, movement_alone}

-- ---- by the names alone

pub label-figure : (F G : List ℕ) (n : FigureCounts) (t u : List ℤ) (M : List ℕ) (k : MovementCounts) (moves : List ℤ) (bone : ℕ) → holds_figure n u ≡ holds_figure n t → (bone < n.bones → figure_name G n u bone ≡ figure_name F n t bone) → label_in G n u M k moves bone ≡ label_in F n t M k moves bone
unfolding label_in if_true
label-figure F G n t u M k moves bone held name = go (ltb bone n.bones) refl
  where
    go : (v : Bool) → ltb bone n.bones ≡ v → label_in G n u M k moves bone ≡ label_in F n t M k moves bone
    go true e = rw (held, name (ltb-true _ _ e))
    go false e = rw (e, held, and-false (holds_figure n t && holds_movement k moves))

pub label-movement : (F : List ℕ) (n : FigureCounts) (t : List ℤ) (M N : List ℕ) (k : MovementCounts) (moves nexts : List ℤ) (bone : ℕ) → holds_movement k nexts ≡ holds_movement k moves → (bone < k.bones → movement_name N nexts bone ≡ movement_name M moves bone) → label_in F n t N k nexts bone ≡ label_in F n t M k moves bone
unfolding label_in if_true
label-movement F n t M N k moves nexts bone held name = go (ltb bone k.bones) refl
  where
    go : (v : Bool) → ltb bone k.bones ≡ v → label_in F n t N k nexts bone ≡ label_in F n t M k moves bone
    go true e = rw (held, name (ltb-true _ _ e))
    go false e = rw (e, held, and-false (holds_figure n t && holds_movement k moves && ltb bone n.bones))

-- ---- the names of a taken text

module _ (text : List ℕ) (table : List ℤ) (f : Figure) (e : figure_answer text (length table) ≡ accepted f) where
  pub figure-name : (bone : ℕ) → bone < (figure_counts f).bones → figure_name text (figure_counts f) (table_after text table) bone ≡ some (get_or (figure_names f) bone [])
  unfolding figure_counts
  figure-name bone h = rw (figure-table text table f e) (figure-named text f (whole-figure text table f e) (figure-taken text table f e).shape.clean (drop (length (figures.layout_of f)) table) (figure_stands text f (figure_alone text _ f e)) bone h)

  pub figure-all-names : names_in text (figure_counts f) (table_after text table) ≡ some (figure_names f)
  unfolding figure_counts
  figure-all-names = rw (figure-table text table f e) (figure_names_in text f (whole-figure text table f e) (figure-taken text table f e).shape.clean (drop (length (figures.layout_of f)) table) (figure_stands text f (figure_alone text _ f e)))

module _ (text : List ℕ) (table : List ℤ) (m : Movement) (e : movement_answer text (length table) ≡ accepted m) where
  pub movement-name : (bone : ℕ) → bone < (movement_counts m).bones → movement_name text (movement_table text table) bone ≡ some (get_or (movement_names m) bone [])
  unfolding movement_counts
  movement-name bone h = movement-named text m (whole-read text table m e) (movement_table text table) _ (table-read text table m e) (movement_stands text m (movement_alone text _ m e)) bone h
