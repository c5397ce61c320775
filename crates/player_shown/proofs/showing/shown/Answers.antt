-- `shown` is its definition, by the reason: only `Shown` is yes, as the definition says.
use Rattle.std.proofs.Common.{◌≡◌, refl, sym, ap, ◌∙◌, ℕ, Bool, false}
use Rattle.std.specs.Prelude.{List, ℤ}
use Rattle.std.proofs.Math.Option.{Option, none, some, map}
use Rattle.table_counts.specs.declared.counts.FigureCounts.{FigureCounts}
use Rattle.table_counts.specs.declared.counts.MovementCounts.{MovementCounts}
use Rattle.player_spec.specs.Reasons.{Reason}
use Rattle.player_spec.specs.Lookups.{why_in, shown_in}
use Rattle.player_spec.specs.Answers.{numbered}
use Rattle.player_spec.proofs.WhyShown.{is_shown, shown_in_lem}
use Rattle.player_why.specs.declared.reason.Reason.{Reason as Named}
use Rattle.player_why.specs.declared.reason.Reason.TheVariants as reasons
use Rattle.player_why.specs.Answers.{reason_named}
use Rattle.player_shown.specs.Answers.{showed}
use Rattle.player_shown.proofs.showing.shown.Goals as goal

value_of : (w : Option Reason) → w ≡ (numbered w).3
unfolding numbered
value_of none = refl
value_of (some r) = refl

-- what Shown is by the answer of the call
module _ (n : FigureCounts) (table : List ℤ) (m : MovementCounts) (moves : List ℤ) (face at : ℕ) where
  answered : (t : ℕ × ℕ × ℕ × Option Reason) → t ≡ numbered (why_in n table m moves face at) → numbered (map is_shown t.3) ≡ numbered (shown_in n table m moves face at)
  answered t e = sym (ap numbered (shown_in_lem _ _ _ _ _ _ ∙ ap (map is_shown) (value_of _ ∙ sym (ap (λ (u : ℕ × ℕ × ℕ × Option Reason). u.3) e))))

hidden : (r : Named) → (r ≡ reasons.Shown → ⊥) → is_shown (reason_named r) ≡ false
unfolding is_shown
hidden reasons.Shown h = absurd (h refl)
hidden (reasons.Corner k) h = refl
hidden reasons.Unset h = refl
hidden (reasons.Line row) h = refl

pub returns-in_err-reason : goal.returns-in_err-reason
unfolding numbered
returns-in_err-reason c = ap showed c.from_residual.ensures ∙ answered _ _ _ _ _ _ (21, 0, 0, none) c.in_err-reason.ensures

pub returns-in-Shown : goal.returns-in-Shown
unfolding numbered is_shown
returns-in-Shown c = answered _ _ _ _ _ _ _ (ap (λ (r : Named). (0, 0, 0, some (reason_named r))) (sym c.in-Shown.is) ∙ c.in_ok-reason.ensures)

pub returns-in_default : goal.returns-in_default
unfolding numbered
returns-in_default c = ap (λ (b : Bool). (0, 0, 0, some b)) (sym (hidden _ c.in_default.not-Shown)) ∙ answered _ _ _ _ _ _ _ c.in_ok-reason.ensures
