-- What the code answers on whether a face is shown.
use Rattle.std.proofs.Math.Option.{Option, none, some}
use Rattle.std.specs.Prelude.{Bool, ℕ, Option as Answer, Some, None}

abbrev pub showed : Answer Bool → ℕ × ℕ × ℕ × Option Bool
showed None = (21, 0, 0, none)
showed (Some shown) = (0, 0, 0, some shown)
