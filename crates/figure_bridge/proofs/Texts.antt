-- Corner and why a face is shown or hidden, from the texts: on the tables that reading leaves they are what the texts' lists say. A text that is taken gives its lists, and no rule is broken.
use mathlib.Core.Path.{◌≡◌, refl, ap, ◌∙◌}
use mathlib.Core.List.{List, ◌++◌}
use mathlib.Core.Bool.{Bool, ◌||◌}
use mathlib.Core.Option.{some}
use Prim.Native.Nat.{ℕ, ◌<◌}
use lib.IntN.{ℤ, nat_abs}
use lib.ListN.{length, drop}
use Rattle.text_check.specs.Faults.{bac}
use Rattle.refusal.specs.Faults.{clear, is_clear}
use Rattle.text_tokens.specs.Tokens.{lex}
use Rattle.refusal.specs.Outcomes.{Outcome, accepted, laid}
use Rattle.bac6_text.specs.Figure.{Figure}
use Rattle.bac6_text.specs.Grammar.{figure}
use Rattle.bac6_text.specs.Rules.{faces_of, figure_fault, figure_counts}
use Rattle.bac6_text.specs.Layout.{layout_of}
use Rattle.bac6_text.specs.Answer.{figure_outcome, figure_answer, table_after}
use Rattle.bac6_text.proofs.Whole.{WholeFigure, figure-whole}
use Rattle.tra4_text.specs.Movement.{Movement}
use Rattle.tra4_text.specs.Answer.{movement_answer, movement_table}
use Rattle.player_spec.specs.Faces.{corner_of}
use Rattle.player_spec.specs.Reasons.{why_of}
use Rattle.player_spec.specs.Lookups.{only_if, pattern_rows, corner_in, why_in}
use Rattle.movement_bridge.proofs.Taken.{Taken, taken}
use Rattle.movement_bridge.proofs.Tables.{movement_holds, total_stands, frame_asked, patterns_stand, patterns-clear, flags_fine}
use Rattle.pair_text.specs.Rules.{groups_fault}
use Rattle.figure_bridge.specs.Rows.{face_of, grouped_face_of, has_no_group}
use Rattle.figure_bridge.proofs.Parts.{counts}
use Rattle.figure_bridge.proofs.Tests.{or_yes}
use Rattle.figure_bridge.proofs.Corners.{corner_stands}
use Rattle.figure_bridge.proofs.Showing.{why_stands}
use Rattle.tra4_text.specs.Rules.{movement_counts}

pub counts_are : (f : Figure) → figure_counts f ≡ counts f
unfolding figure_counts
counts_are f = refl

module _ (text : List ℕ) (table : List ℤ) (f : Figure) (e : figure_answer text (length table) ≡ accepted f) where
  pub figure-taken : Taken figure figure_fault layout_of text (length table) f
  unfolding figure_answer figure_outcome
  figure-taken = taken bac figure figure_fault layout_of text (length table) f e

  pub whole-figure : WholeFigure f
  whole-figure = figure-whole (lex text) f figure-taken.shape.left figure-taken.shape.gives

  pub figure-table : table_after text table ≡ layout_of f ++ drop (length (layout_of f)) table
  unfolding table_after laid
  figure-table = ap (λ (o : Outcome Figure). laid layout_of table o) e

  -- ---- Corner

  pub corner-from-text : (face k : ℕ) → face < length (faces_of f) → k < (face_of f face).size → corner_in (figure_counts f) (table_after text table) face k ≡ some (corner_of f (face_of f face) k)
  corner-from-text face k below used = rw (counts_are f, figure-table) (corner_stands f whole-figure figure-taken.shape.clean (drop (length (layout_of f)) table) face k below used)

  -- ---- why a face is shown or hidden

  module _ (movement_text : List ℕ) (moves : List ℤ) (m : Movement) (d : movement_answer movement_text (length moves) ≡ accepted m) (face at : ℕ) (below : face < length (faces_of f)) (frame : at < nat_abs m.total_frames) where
    -- whether there is an answer: 21 exactly where a group face meets a pattern whose group is no row, which is where rule 20 refuses the pair
    abbrev answered : Bool
    answered = has_no_group (grouped_face_of f face) || is_clear (groups_fault (length f.groups) m.patterns)

    pub why-or-refused : why_in (figure_counts f) (table_after text table) (movement_counts m) (movement_table movement_text moves) face at ≡ only_if answered (why_of f.bones m.patterns (grouped_face_of f face) at)
    why-or-refused =
        rw (counts_are f, figure-table)
        (why_stands f whole-figure figure-taken.shape.clean (drop (length (layout_of f)) table) face below _ _ m at
        (movement_holds movement_text moves m d)
        (rw (total_stands movement_text moves m d) (frame_asked movement_text moves m d at frame))
        (unfold pattern_rows in patterns_stand movement_text moves m d)
        (rw (total_stands movement_text moves m d) (patterns-clear movement_text moves m d))
        (flags_fine movement_text moves m d))

    pub why-from-text : groups_fault (length f.groups) m.patterns ≡ clear → why_in (figure_counts f) (table_after text table) (movement_counts m) (movement_table movement_text moves) face at ≡ some (why_of f.bones m.patterns (grouped_face_of f face) at)
    unfolding only_if is_clear
    why-from-text h = why-or-refused ∙ rw h (ap (λ (b : Bool). only_if b (why_of f.bones m.patterns (grouped_face_of f face) at)) (or_yes (has_no_group (grouped_face_of f face))))
