-- Sample, Shown and the reason for it on the tables of two taken texts whose movements differ in name places alone, whatever is asked and whatever the figure's table holds: they are equal, since no name place is read.
use mathlib.Core.Path.{◌≡◌, refl, ap, sym, ◌∙◌}
use mathlib.Core.List.{List}
use mathlib.Core.Option.{map}
use Prim.Native.Nat.{ℕ}
use lib.IntN.{ℤ}
use lib.ListN.{length}
use Rattle.refusal.specs.Outcomes.{accepted}
use Rattle.table_counts.specs.declared.counts.FigureCounts.{FigureCounts}
use Rattle.table_counts.specs.declared.counts.MovementCounts.{MovementCounts}
use Rattle.table_movement.specs.Sections.{holds_movement}
use Rattle.tra4_text.specs.Movement.{Movement}
use Rattle.tra4_text.specs.Rules.{movement_counts}
use Rattle.tra4_text.specs.Answer.{movement_answer, movement_table}
use Rattle.tra4_alike.specs.Renamed.{renamed}
use Rattle.tra4_alike.specs.Internal.Placeless.{placeless}
use Rattle.player_spec.specs.Lookups.{pattern_rows, sample_in, shown_in, why_in}
use Rattle.player_spec.proofs.WhyShown.{is_shown, shown_in_lem}
use Rattle.movement_bridge.proofs.Tables.{movement_holds, total_stands, patterns_stand}
use Rattle.pair_bridge.specs.Playing.{sample_asked}
use Rattle.pair_bridge.proofs.Lookups.{sample_asked_lem}
use Rattle.contents_laws.proofs.Through.{through}
use Rattle.contents_laws.proofs.MovementLists.{counts-placeless, sample-placeless}
use Rattle.contents_laws.proofs.Tables.{why-movement}

lines_read : (n : FigureCounts) (t : List ℤ) (text : List ℕ) (table : List ℤ) (m : Movement) → movement_answer text (length table) ≡ accepted m → pattern_rows n t (movement_counts m) (movement_table text table) ≡ m.patterns
unfolding pattern_rows
lines_read n t text table m e = patterns_stand text table m e

module _ (text text' : List ℕ) (table : List ℤ) (m o : Movement) (e : movement_answer text (length table) ≡ accepted m) (e' : movement_answer text' (length table) ≡ accepted o) (same : placeless o ≡ placeless m) where
  pub counts_same : movement_counts o ≡ movement_counts m
  counts_same = through placeless movement_counts counts-placeless m o same

  pub sample-same : (bone channel at : ℕ) → sample_in (movement_counts o) (movement_table text' table) bone channel at ≡ sample_in (movement_counts m) (movement_table text table) bone channel at
  sample-same bone channel at =
      sample_asked_lem text' table o e' bone channel at
      ∙ through placeless (λ (x : Movement). sample_asked x bone channel at) (λ x. sample-placeless x bone channel at) m o same
      ∙ sym (sample_asked_lem text table m e bone channel at)

  -- a part of the movement that has no name
  abbrev Part : {A : Type 0} → (Movement → A) → Type 0
  Part part = part o ≡ part m

  total-same : Part (λ (x : Movement). x.total_frames)
  unfolding renamed
  total-same = through placeless (λ (x : Movement). x.total_frames) (λ x. refl) m o same

  lines_same : Part (λ (x : Movement). x.patterns)
  unfolding renamed
  lines_same = through placeless (λ (x : Movement). x.patterns) (λ x. refl) m o same

  pub why-same : (n : FigureCounts) (t : List ℤ) (face at : ℕ) → why_in n t (movement_counts o) (movement_table text' table) face at ≡ why_in n t (movement_counts m) (movement_table text table) face at
  why-same n t face at =
      ap (λ (k : MovementCounts). why_in n t k (movement_table text' table) face at) counts_same
      ∙ why-movement n t (movement_counts m) (movement_table text table) (movement_table text' table) face at
      (ap (λ (k : MovementCounts). holds_movement k (movement_table text' table)) (sym counts_same) ∙ movement_holds text' table o e' ∙ sym (movement_holds text table m e))
      (total_stands text' table o e' ∙ total-same ∙ sym (total_stands text table m e))
      (ap (λ (k : MovementCounts). pattern_rows n t k (movement_table text' table)) (sym counts_same) ∙ lines_read n t text' table o e' ∙ lines_same ∙ sym (lines_read n t text table m e))

  pub shown-same : (n : FigureCounts) (t : List ℤ) (face at : ℕ) → shown_in n t (movement_counts o) (movement_table text' table) face at ≡ shown_in n t (movement_counts m) (movement_table text table) face at
  shown-same n t face at = shown_in_lem _ _ _ _ face at ∙ ap (map is_shown) (why-same n t face at) ∙ sym (shown_in_lem _ _ _ _ face at)
