-- A buffer that is filled from the front.
use Rattle.std.specs.Prelude.{List, ◌++◌, true, false, ℕ, ◌+◌, leb, length, take, drop}

-- how many bytes of a buffer are filled, and the buffer
pub data Output : Type 0 where
  output : ℕ → List ℕ → Output

-- bytes put after those that are filled; where they do not all fit, nothing changes
unfoldable pub appended : Output → List ℕ → Output
appended (output n buf) bs = elim (leb (n + length bs) (length buf)) [ true ↦ output (n + length bs) (take n buf ++ bs ++ drop (n + length bs) buf) | false ↦ output n buf ]
