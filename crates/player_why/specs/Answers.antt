-- What the code answers on why a face is shown or hidden.
use Rattle.std.proofs.Math.Option.{Option, none, some}
use Rattle.std.specs.Prelude.{ℕ, Option as Answer, Some, None}
use Rattle.player_spec.specs.Reasons.{Reason, shown, by_corner, unset, by_line}
use Rattle.player_why.specs.declared.reason.Reason.{Reason as Named}
use Rattle.player_why.specs.declared.reason.Reason.TheVariants as reasons

abbrev pub reason_named : Named → Reason
reason_named reasons.Shown = shown
reason_named (reasons.Corner k) = by_corner k
reason_named reasons.Unset = unset
reason_named (reasons.Line row) = by_line row

abbrev pub explained : Answer Named → ℕ × ℕ × ℕ × Option Reason
explained None = (21, 0, 0, none)
explained (Some r) = (0, 0, 0, some (reason_named r))
