-- One pass over the pattern lines is the definition: none where the lines are not sound, else what decides; by induction on the lines left.
use mathlib.Core.Path.{◌≡◌, refl, ap, sym, ◌∙◌}
use mathlib.Core.List.{List, [], ◌∷◌}
use mathlib.Core.Bool.{Bool, true, false, ◌&&◌, ◌||◌}
use mathlib.Core.Option.{Option, none, some}
use Prim.Native.Nat.{ℕ, suc}
use lib.Dec.{eqb}
use lib.IntN.{ℤ}
use lib.ListN.{length}
use Rattle.signed.proofs.Tests.{and3}
use Rattle.table_references.specs.References.{is_row}
use Rattle.table_columns.specs.Columns.{pattern_flag}
use Rattle.refusal.specs.Faults.{is_clear}
use Rattle.refusal.specs.FirstBad.{all}
use Rattle.tra4_text.specs.Movement.{Pattern, frame_of, group_of}
use Rattle.tra4_text.specs.Rules.{is_zero, pattern_fine, has_start, patterns_fault}
use Rattle.tra4_text.proofs.Patterns.{patterns_told}
use Rattle.player_spec.specs.Deciding.{Line, better, deciding_from, deciding}
use Rattle.player_spec.specs.Lookups.{only_if, lines_fine}
use Rattle.player_patterns.specs.Internal.Pass.{line_fine, lines_from, lines_over}
use Rattle.player_patterns.specs.Internal.Answers.{row_and_flag, decided_in}

-- what a pass says, by the row and the flag
unfoldable pub answer_by : Option (Option Line) → Option (Option (ℕ × Bool))
answer_by none = none
answer_by (some best) = some (row_and_flag best)

answer_if : (v : Bool) (best : Option Line) → only_if v (row_and_flag best) ≡ answer_by (only_if v best)
unfolding only_if answer_by
answer_if true best = refl
answer_if false best = refl

regrouped : (u v w a l : Bool) → ((u && a) && ((v && w) && l)) ≡ ((u && v && w) && (a && l))
regrouped true true true a l = refl
regrouped true true false true l = refl
regrouped true true false false l = refl
regrouped true false w true l = refl
regrouped true false w false l = refl
regrouped false v w a l = refl

either_on : (s z h l : Bool) → ((s || z || h) && l) ≡ ((s || (z || h)) && l)
either_on true z h l = refl
either_on false z h l = refl

module _ (total : ℤ) (groups g at : ℕ) where
  -- lines without a fault of their own
  abbrev sound : List Pattern → Bool
  sound ps = all (pattern_fine total) ps && lines_fine groups ps

  sound_split : (p : Pattern) (ps : List Pattern) → sound (p ∷ ps) ≡ (line_fine total groups p && sound ps)
  unfolding all lines_fine line_fine
  sound_split p ps = regrouped (pattern_fine total p) (is_row groups (group_of p)) (is_row 2 (pattern_flag p)) (all (pattern_fine total) ps) (lines_fine groups ps)

  pub pass_fault : (row : ℕ) (started : Bool) (best : Option Line) (p : Pattern) (ps : List Pattern) → line_fine total groups p ≡ false → lines_from total groups g at row started best (p ∷ ps) ≡ none
  unfolding lines_from
  pass_fault row started best p ps e = rw (e, lines_from)

  pub pass_on : (row : ℕ) (started : Bool) (best : Option Line) (p : Pattern) (ps : List Pattern) → line_fine total groups p ≡ true → lines_from total groups g at row started best (p ∷ ps) ≡ lines_from total groups g at (suc row) (started || is_zero (frame_of p)) (better g at row best p) ps
  unfolding lines_from
  pass_on row started best p ps e = rw (e, lines_from)

  pass_from_lem : (row : ℕ) (started : Bool) (best : Option Line) (ps : List Pattern) → lines_from total groups g at row started best ps ≡ only_if ((started || has_start ps) && sound ps) (deciding_from g at row best ps)
  unfolding lines_from has_start all lines_fine deciding_from
  pass_from_lem row true best [] = refl
  pass_from_lem row false best [] = refl
  pass_from_lem row started best (p ∷ ps) = go (line_fine total groups p) refl (pass_from_lem (suc row) (started || is_zero (frame_of p)) (better g at row best p) ps)
    where
      go : (v : Bool) → line_fine total groups p ≡ v → lines_from total groups g at (suc row) (started || is_zero (frame_of p)) (better g at row best p) ps ≡ only_if ((started || is_zero (frame_of p) || has_start ps) && sound ps) (deciding_from g at (suc row) (better g at row best p) ps) → lines_from total groups g at row started best (p ∷ ps) ≡ only_if ((started || (is_zero (frame_of p) || has_start ps)) && sound (p ∷ ps)) (deciding_from g at (suc row) (better g at row best p) ps)
      go true e ih =
          pass_on row started best p ps e ∙ ih
          ∙ rw (sound_split p ps, e) (ap (λ (v : Bool). only_if v (deciding_from g at (suc row) (better g at row best p) ps)) (either_on started (is_zero (frame_of p)) (has_start ps) (sound ps)))
      go false e ih = pass_fault row started best p ps e ∙ rw (sound_split p ps, e) (refused (started || (is_zero (frame_of p) || has_start ps)))
        where
          refused : (v : Bool) → none ≡ only_if (v && false) (deciding_from g at (suc row) (better g at row best p) ps)
          refused true = unfold only_if in refl
          refused false = unfold only_if in refl

  pass_over_lem : (ps : List Pattern) → lines_over total groups g at ps ≡ only_if (is_clear (patterns_fault total ps) && lines_fine groups ps) (deciding g at ps)
  unfolding lines_over deciding
  pass_over_lem ps =
      pass_from_lem 0 (eqb (length ps) 0) none ps
      ∙ ap (λ (v : Bool). only_if v (deciding_from g at 0 none ps)) (sym (ap (λ (v : Bool). v && lines_fine groups ps) (patterns_told total ps) ∙ and3 (eqb (length ps) 0 || has_start ps) (all (pattern_fine total) ps) (lines_fine groups ps)))

  -- the law
  pub pass_is : (ps : List Pattern) → decided_in total groups g at ps ≡ answer_by (lines_over total groups g at ps)
  unfolding decided_in
  pass_is ps = answer_if (is_clear (patterns_fault total ps) && lines_fine groups ps) (deciding g at ps) ∙ ap answer_by (sym (pass_over_lem ps))
