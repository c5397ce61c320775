-- What a movement's answer says, and how it follows from what was parsed.
use Rattle.std.specs.Prelude.{ℕ, length}
use Rattle.refusal.specs.Outcomes.{Outcome, rejected, accepted}
use Rattle.tra4_text.specs.Movement.{Movement}
use Rattle.tra4_text.specs.Rules.{movement_counts}
use Rattle.tra4_text.specs.Layout.{layout_of}
use Rattle.tra4.specs.declared.setting.MovementAnswer.{MovementAnswer}
use Rattle.table_counts.specs.Counts.{no_movement}

-- a refusal's number and place, file 1 and zeros
unfoldable pub refused_with : ℕ → ℕ → MovementAnswer
refused_with n p = record { refusal = n; place = p; file = 1; total = 0; counts = no_movement }

-- that, or the total and the three counts
unfoldable pub answer_of : Outcome Movement → MovementAnswer
answer_of (rejected n p) = refused_with n p
answer_of (accepted m) = record { refusal = 0; place = 0; file = 0; total = length (layout_of m); counts = movement_counts m }
