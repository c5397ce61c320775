-- The frame before a key, as the code keeps it.
use Rattle.std.specs.Prelude.{Option, Some, None, ℤ}
use Rattle.std.proofs.Math.Option as of_specs

-- none before the first
unfoldable pub before_of : Option ℤ → of_specs.Option ℤ
before_of None = of_specs.none
before_of (Some f) = of_specs.some f
