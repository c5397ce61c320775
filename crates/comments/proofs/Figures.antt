-- A figure's text and the same with notes are answered alike, and where they are taken nothing but name places is another: the format's case of `outcome-same`, and the laws of what differs in name places alone.
use mathlib.Core.Path.{◌≡◌, refl, ap, sym, ◌∙◌}
use mathlib.Core.List.{List, []}
use mathlib.Core.Option.{some}
use Prim.Native.Nat.{ℕ, ◌<◌}
use lib.IntN.{ℤ}
use lib.ListN.{length, get_or}
use Rattle.text_bytes.specs.Bytes.{between}
use Rattle.text_check.specs.Faults.{bac}
use Rattle.refusal.specs.Outcomes.{accepted}
use Rattle.text_notes.specs.Notes.{Annotates}
use Rattle.table_counts.specs.declared.counts.FigureCounts.{FigureCounts}
use Rattle.table_counts.specs.declared.counts.MovementCounts.{MovementCounts}
use Rattle.table_figure.specs.Sections.{holds_figure}
use Rattle.bac6_text.specs.Figure.{Figure}
use Rattle.bac6_text.specs.Grammar.{figure}
use Rattle.bac6_text.specs.Rules.{figure_fault, figure_counts}
use Rattle.bac6_text.specs.Layout.{layout_of}
use Rattle.bac6_text.specs.Answer.{figure_outcome, figure_answer, table_after}
use Rattle.bac6_alike.specs.Internal.Placeless.{placeless}
use Rattle.bac6_alike.proofs.Shape.{FigureAlike, figure_alike}
use Rattle.pair_text.specs.Rules.{figure_names}
use Rattle.player_names.specs.Names.{figure_name}
use Rattle.player_label.specs.Labels.{label_in}
use Rattle.player_label.specs.BoneNames.{names_in}
use Rattle.pair_bridge.proofs.Lookups.{figure_holds_read}
use Rattle.pair_movement.specs.Moved.{moved_answer}
use Rattle.bac6.specs.Answers.{answer_of}
use Rattle.refusal_laws.proofs.Rules.{figure_faulty}
use Rattle.contents_laws.proofs.Through.{through}
use Rattle.contents_laws.proofs.FigureLists.{fault-placeless, names-placeless, long_placeless}
use Rattle.contents_laws.proofs.FigureContents.{figure-contents, figure-beyond}
use Rattle.contents_laws.proofs.FigureLookups.{counts_same, corner-same, why-same, shown-same}
use Rattle.comments.specs.Same.{SameOutcome, SameFigure}
use Rattle.comments.proofs.Outcomes.{Late, outcome-same, outcome_as}
use Rattle.comments.proofs.Labels.{label-figure, figure-name, figure-all-names}

pub long_same : (f g : Figure) → FigureAlike f g → length (layout_of g) ≡ length (layout_of f)
long_same f g = through placeless (λ (x : Figure). length (layout_of x)) long_placeless f g

pub figure-read : {text text' : List ℕ} → Annotates bac text text' → (room : ℕ) → SameOutcome text text' FigureAlike (figure_answer text room) (figure_answer text' room)
unfolding figure_answer figure_outcome between
figure-read a room =
    outcome-same a FigureAlike figure figure_fault layout_of room figure_alike (through placeless figure_fault fault-placeless) (λ f. figure_faulty Late f (λ p. refl) (λ p. refl) (λ p. refl) (λ p. refl) (λ p. refl) (λ p. refl)) long_same

module _ (text text' : List ℕ) (table : List ℤ) (f g : Figure) (e : figure_answer text (length table) ≡ accepted f) (e' : figure_answer text' (length table) ≡ accepted g) (same : FigureAlike f g) where
  counted : figure_counts g ≡ figure_counts f
  counted = counts_same text text' table f g e e' same

  answer-same : answer_of (accepted g) ≡ answer_of (accepted f)
  unfolding answer_of
  answer-same = rw (long_same f g same, counted)

  names_same : figure_names g ≡ figure_names f
  names_same = through placeless figure_names names-placeless f g same

  name-same : (bone : ℕ) → bone < (figure_counts f).bones → figure_name text' (figure_counts f) (table_after text' table) bone ≡ figure_name text (figure_counts f) (table_after text table) bone
  name-same bone h =
      ap (λ (n : FigureCounts). figure_name text' n (table_after text' table) bone) (sym counted)
      ∙ figure-name text' table g e' bone (rw counted h)
      ∙ ap (λ (l : List (List ℕ)). some (get_or l bone [])) names_same
      ∙ sym (figure-name text table f e bone h)

  label_same : (M : List ℕ) (k : MovementCounts) (moves : List ℤ) (bone : ℕ) → label_in text' (figure_counts g) (table_after text' table) M k moves bone ≡ label_in text (figure_counts f) (table_after text table) M k moves bone
  label_same M k moves bone =
      ap (λ (n : FigureCounts). label_in text' n (table_after text' table) M k moves bone) counted
      ∙ label-figure text text' (figure_counts f) (table_after text table) (table_after text' table) M k moves bone
      (ap (λ (n : FigureCounts). holds_figure n (table_after text' table)) (sym counted) ∙ figure_holds_read text' table g e' ∙ sym (figure_holds_read text table f e))
      (name-same bone)

  all-names : names_in text' (figure_counts g) (table_after text' table) ≡ names_in text (figure_counts f) (table_after text table)
  all-names = figure-all-names text' table g e' ∙ ap some names_same ∙ sym (figure-all-names text table f e)

  moved_same : (M : List ℕ) (space : ℕ) → moved_answer text' (figure_counts g) (table_after text' table) M space ≡ moved_answer text (figure_counts f) (table_after text table) M space
  unfolding moved_answer
  moved_same M space = rw (all-names, counted)

  pub same-figure : SameFigure text text' table f g
  same-figure =
      record {
        answer = answer-same;
        contents = figure-contents text text' table f g e e' same;
        beyond = figure-beyond text text' table f g e e' same;
        corner = corner-same text text' table f g e e' same;
        shown = shown-same text text' table f g e e' same;
        why = why-same text text' table f g e e' same;
        label = label_same;
        movement = moved_same;
      }

pub figure-same : (text text' : List ℕ) → Annotates bac text text' → (table : List ℤ) → SameOutcome text text' (SameFigure text text' table) (figure_answer text (length table)) (figure_answer text' (length table))
figure-same text text' a table = outcome_as text text' FigureAlike (SameFigure text text' table) (figure_answer text (length table)) (figure_answer text' (length table)) (λ f g e e' h. same-figure text text' table f g e e' h) (figure-read a (length table))
