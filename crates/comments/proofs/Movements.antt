-- A movement's text and the same with notes are answered alike, and where they are taken nothing but name places is another: the format's case of `outcome-same`, and the laws of what differs in name places alone.
use mathlib.Core.Path.{◌≡◌, refl, ap, sym, ◌∙◌}
use mathlib.Core.List.{List, []}
use mathlib.Core.Option.{some}
use Prim.Native.Nat.{ℕ, ◌<◌}
use lib.IntN.{ℤ}
use lib.ListN.{length, get_or}
use Rattle.text_bytes.specs.Bytes.{between}
use Rattle.text_check.specs.Faults.{tra}
use Rattle.refusal.specs.Outcomes.{accepted}
use Rattle.text_notes.specs.Notes.{Annotates}
use Rattle.table_counts.specs.declared.counts.FigureCounts.{FigureCounts}
use Rattle.table_counts.specs.declared.counts.MovementCounts.{MovementCounts}
use Rattle.table_movement.specs.Sections.{holds_movement}
use Rattle.tra4_text.specs.Movement.{Movement}
use Rattle.tra4_text.specs.Grammar.{movement}
use Rattle.tra4_text.specs.Rules.{movement_fault, movement_counts}
use Rattle.tra4_text.specs.Layout.{layout_of}
use Rattle.tra4_text.specs.Answer.{movement_outcome, movement_answer, movement_table}
use Rattle.tra4_alike.specs.Internal.Placeless.{placeless}
use Rattle.tra4_alike.proofs.Shape.{MovementAlike, movement_alike}
use Rattle.pair_text.specs.Rules.{movement_names}
use Rattle.player_names.specs.Names.{movement_name}
use Rattle.player_label.specs.Labels.{label_in}
use Rattle.movement_bridge.proofs.Tables.{movement_holds}
use Rattle.tra4.specs.Answers.{answer_of}
use Rattle.refusal_laws.proofs.Rules.{movement_faulty}
use Rattle.contents_laws.proofs.Through.{through}
use Rattle.contents_laws.proofs.MovementLists.{fault-placeless, names-placeless, long_placeless, counts-placeless}
use Rattle.contents_laws.proofs.MovementContents.{movement-contents, movement-beyond}
use Rattle.contents_laws.proofs.MovementLookups.{counts_same, sample-same, why-same, shown-same}
use Rattle.comments.specs.Same.{SameOutcome, SameMovement}
use Rattle.comments.proofs.Outcomes.{Late, outcome-same, outcome_as}
use Rattle.comments.proofs.Labels.{label-movement, movement-name}

pub long_same : (m o : Movement) → MovementAlike m o → length (layout_of o) ≡ length (layout_of m)
long_same m o = through placeless (λ (x : Movement). length (layout_of x)) long_placeless m o

answer-same : (m o : Movement) → MovementAlike m o → answer_of (accepted o) ≡ answer_of (accepted m)
unfolding answer_of
answer-same m o same = rw (long_same m o same, through placeless movement_counts counts-placeless m o same)

pub movement-read : {text text' : List ℕ} → Annotates tra text text' → (room : ℕ) → SameOutcome text text' MovementAlike (movement_answer text room) (movement_answer text' room)
unfolding movement_answer movement_outcome between
movement-read a room =
    outcome-same a MovementAlike movement movement_fault layout_of room movement_alike (through placeless movement_fault fault-placeless) (λ m. movement_faulty Late m (λ p. refl) (λ p. refl) (λ p. refl) (λ p. refl)) long_same

module _ (text text' : List ℕ) (table : List ℤ) (m o : Movement) (e : movement_answer text (length table) ≡ accepted m) (e' : movement_answer text' (length table) ≡ accepted o) (same : MovementAlike m o) where
  counted : movement_counts o ≡ movement_counts m
  counted = counts_same text text' table m o e e' same

  name-same : (bone : ℕ) → bone < (movement_counts m).bones → movement_name text' (movement_table text' table) bone ≡ movement_name text (movement_table text table) bone
  name-same bone h =
      movement-name text' table o e' bone (rw counted h)
      ∙ ap (λ (l : List (List ℕ)). some (get_or l bone [])) (through placeless movement_names names-placeless m o same)
      ∙ sym (movement-name text table m e bone h)

  label_same : (F : List ℕ) (n : FigureCounts) (t : List ℤ) (bone : ℕ) → label_in F n t text' (movement_counts o) (movement_table text' table) bone ≡ label_in F n t text (movement_counts m) (movement_table text table) bone
  label_same F n t bone =
      ap (λ (k : MovementCounts). label_in F n t text' k (movement_table text' table) bone) counted
      ∙ label-movement F n t text text' (movement_counts m) (movement_table text table) (movement_table text' table) bone
      (ap (λ (k : MovementCounts). holds_movement k (movement_table text' table)) (sym counted) ∙ movement_holds text' table o e' ∙ sym (movement_holds text table m e))
      (name-same bone)

  pub same-movement : SameMovement text text' table m o
  same-movement =
      record {
        answer = answer-same m o same;
        contents = movement-contents text text' table m o e e' same;
        beyond = movement-beyond text text' table m o e e' same;
        sample = sample-same text text' table m o e e' same;
        shown = shown-same text text' table m o e e' same;
        why = why-same text text' table m o e e' same;
        label = label_same;
      }

pub movement-same : (text text' : List ℕ) → Annotates tra text text' → (table : List ℤ) → SameOutcome text text' (SameMovement text text' table) (movement_answer text (length table)) (movement_answer text' (length table))
movement-same text text' a table = outcome_as text text' MovementAlike (SameMovement text text' table) (movement_answer text (length table)) (movement_answer text' (length table)) (λ f g e e' h. same-movement text text' table f g e e' h) (movement-read a (length table))
