-- Lines of one thing after another.
use Rattle.std.specs.Prelude.{List, [], ◌++◌, ℕ, zero, suc}

-- the lines of so many things from a number on
unfoldable pub lines_from : (ℕ → List (List ℕ)) → ℕ → ℕ → List (List ℕ)
lines_from f at zero = []
lines_from f at (suc k) = f at ++ lines_from f (suc at) k
