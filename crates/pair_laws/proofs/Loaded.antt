-- On what loading leaves, each lookup is what the two texts' lists say, whatever is asked; by the theorems on each taken text, joined by rule 20 for Shown and by the names for Label.
use mathlib.Core.Path.{◌≡◌, ap, ap₂, ◌∙◌}
use mathlib.Core.List.{List}
use Prim.Native.Nat.{ℕ}
use lib.IntN.{ℤ}
use lib.ListN.{length, drop}
use Rattle.bac6_text.specs.Figure.{Figure}
use Rattle.bac6_text.specs.Layout as figures
use Rattle.bac6_text.specs.Answer.{figure_answer, table_after}
use Rattle.tra4_text.specs.Movement.{Movement}
use Rattle.tra4_text.specs.Answer.{movement_answer, movement_table}
use Rattle.table_counts.specs.declared.counts.FigureCounts.{FigureCounts}
use Rattle.table_counts.specs.declared.counts.MovementCounts.{MovementCounts}
use Rattle.player_spec.specs.Lookups.{sample_in, corner_in, shown_in, why_in}
use Rattle.player_label.specs.Labels.{label_in}
use Rattle.movement_bridge.proofs.Tables.{movement_holds, whole-read, table-read}
use Rattle.figure_bridge.proofs.Texts.{counts_are, figure-taken, whole-figure, figure-table}
use Rattle.refusal.specs.Faults.{clear}
use Rattle.pair_text.specs.Rules.{figure_names, groups_fault}
use Rattle.pair_text.specs.Answer.{Loaded, loaded, pair_answer, figure_left, movement_of, movement_left}
use Rattle.pair_text.proofs.Taken as pairs
use Rattle.pair_bridge.specs.Playing.{sample_asked, corner_asked, shown_asked, why_asked, label_asked}
use Rattle.pair_bridge.proofs.Lookups.{sample_asked_lem, corner_asked_lem, shown_asked_lem, why_asked_lem}
use Rattle.pair_bridge.proofs.Labels.{label-read}
use Rattle.pair_load.specs.Answers.{pair_reply}
use Rattle.pair_movement.proofs.Standing.{figure_stands, movement_stands}
use Rattle.pair_load.specs.Answers.{reply}
use Rattle.pair_text.specs.Answer.{table_left, moves_left}
use Rattle.pair_laws.proofs.Parts.{figure_alone, movement_alone, parts_taken, figure-left, moves-left}
use Rattle.bac6_text.specs.Rules.{figure_counts}
use Rattle.tra4_text.specs.Rules.{movement_counts}

module _ (F : List ℕ) (table : List ℤ) (M : List ℕ) (moves : List ℤ) (f : Figure) (m : Movement) (e : pair_answer F (length table) M (length moves) ≡ loaded (f, m)) where
  abbrev parts : pairs.PairTaken (figure_answer F (length table)) (movement_answer M (length moves)) f m
  parts = parts_taken F (length table) M (length moves) f m e

  -- ---- what loading answers and leaves, in terms of the texts read alone

  table_is : table_left F table M moves ≡ table_after F table
  table_is = ap (figure_left table) e ∙ figure-left F table M moves f m e

  moves-is : moves_left F table M moves ≡ movement_table M moves
  moves-is = ap (λ (l : Loaded (Figure × Movement)). movement_left moves (movement_of l)) e ∙ moves-left F table M moves f m e

  figure-counts : (reply F table M moves).figure ≡ figure_counts f
  unfolding pair_reply
  figure-counts = ap (λ (l : Loaded (Figure × Movement)). (pair_reply l).figure) e

  movement-counts : (reply F table M moves).movement ≡ movement_counts m
  unfolding pair_reply
  movement-counts = ap (λ (l : Loaded (Figure × Movement)). (pair_reply l).movement) e

  -- ---- whatever is asked

  pub every_sample : (bone channel at : ℕ) → sample_in (reply F table M moves).movement (moves_left F table M moves) bone channel at ≡ sample_asked m bone channel at
  every_sample bone channel at =
      ap₂ (λ (n : MovementCounts) (t : List ℤ). sample_in n t bone channel at) movement-counts moves-is
      ∙ sample_asked_lem M moves m parts.movement bone channel at

  pub every_corner : (face k : ℕ) → corner_in (reply F table M moves).figure (table_left F table M moves) face k ≡ corner_asked f face k
  every_corner face k =
      ap₂ (λ (n : FigureCounts) (t : List ℤ). corner_in n t face k) figure-counts table_is
      ∙ corner_asked_lem F table f parts.figure face k

  -- a lookup on both tables
  on_both : {A : Type 0} (look : FigureCounts → List ℤ → MovementCounts → List ℤ → A) → look (reply F table M moves).figure (table_left F table M moves) (reply F table M moves).movement (moves_left F table M moves) ≡ look (figure_counts f) (table_after F table) (movement_counts m) (movement_table M moves)
  on_both look =
      ap₂ (λ (n : FigureCounts) (t : List ℤ). look n t (reply F table M moves).movement (moves_left F table M moves)) figure-counts table_is
      ∙ ap₂ (λ (k : MovementCounts) (u : List ℤ). look (figure_counts f) (table_after F table) k u) movement-counts moves-is

  known : groups_fault (length f.groups) m.patterns ≡ clear
  known = pairs.groups-kept (figure_names f) (length f.groups) m parts.rules

  pub every_shown : (face at : ℕ) → shown_in (reply F table M moves).figure (table_left F table M moves) (reply F table M moves).movement (moves_left F table M moves) face at ≡ shown_asked f m face at
  every_shown face at = on_both (λ n t k u. shown_in n t k u face at) ∙ shown_asked_lem F table f parts.figure M moves m parts.movement known face at

  pub every_why : (face at : ℕ) → why_in (reply F table M moves).figure (table_left F table M moves) (reply F table M moves).movement (moves_left F table M moves) face at ≡ why_asked f m face at
  every_why face at = on_both (λ n t k u. why_in n t k u face at) ∙ why_asked_lem F table f parts.figure M moves m parts.movement known face at

  label_alone : (bone : ℕ) → label_in F (figure_counts f) (table_after F table) M (movement_counts m) (movement_table M moves) bone ≡ label_asked f m bone
  label_alone bone =
      rw (counts_are f, figure-table F table f parts.figure)
      (label-read F f (whole-figure F table f parts.figure) (figure-taken F table f parts.figure).shape.clean (drop (length (figures.layout_of f)) table) (figure_stands F f (figure_alone F _ f parts.figure)) M m (whole-read M moves m parts.movement) (movement_table M moves) _ (table-read M moves m parts.movement) (movement_holds M moves m parts.movement) (movement_stands M m (movement_alone M _ m parts.movement)) bone)

  pub every_label : (bone : ℕ) → label_in F (reply F table M moves).figure (table_left F table M moves) M (reply F table M moves).movement (moves_left F table M moves) bone ≡ label_asked f m bone
  every_label bone = on_both (λ n t k u. label_in F n t M k u bone) ∙ label_alone bone

  -- ---- the same of counts and tables that are those of loading

  module _ (n : FigureCounts) (t : List ℤ) (k : MovementCounts) (u : List ℤ) (a : n ≡ (reply F table M moves).figure) (b : t ≡ table_left F table M moves) (c : k ≡ (reply F table M moves).movement) (d : u ≡ moves_left F table M moves) where
    pub shown_of_lem : (face at : ℕ) → shown_in n t k u face at ≡ shown_asked f m face at
    shown_of_lem face at = rw (a, b, c, d) (every_shown face at)

    pub why_of_lem : (face at : ℕ) → why_in n t k u face at ≡ why_asked f m face at
    why_of_lem face at = rw (a, b, c, d) (every_why face at)

    pub label_of : (bone : ℕ) → label_in F n t M k u bone ≡ label_asked f m bone
    label_of bone = rw (a, b, c, d) (every_label bone)
