-- Readers of numbers, with a table that they are written over. What a table holds from that index on after a refusal is not said.
use Rattle.std.specs.Prelude.{List, ℕ, ℤ}
use Rattle.text_numerals.specs.Numbers.{Form}
use Rattle.parse_spec.specs.Readers.{Reader, ◌>>=◌, ◌>>◌, pure, numbers, cells, word_of, closed, row_of}
use Rattle.table_rows.specs.Internal.Overlay.{overlay_at}

-- so many numbers, over a table's from index i on
unfoldable pub numbers_into : Form → ℕ → ℕ → List ℤ → Reader (List ℤ)
numbers_into f w i table = numbers f w >>= λ zs. pure (overlay_at i zs table)

-- a row's numbers, likewise
unfoldable pub cells_into : ℕ → Form → ℕ → ℕ → List ℤ → Reader (List ℤ)
cells_into lead f w i table = cells lead f w >>= λ zs. pure (overlay_at i zs table)

-- a row, over a table's numbers from index i on
unfoldable pub row_into : List ℕ → ℕ → Form → ℕ → ℕ → List ℤ → Reader (List ℤ)
row_into k lead f w i table = row_of k lead f w >>= λ zs. pure (overlay_at i zs table)

-- what stands in a row after its (
unfoldable pub row_tail : List ℕ → ℕ → Form → ℕ → ℕ → List ℤ → Reader (List ℤ)
row_tail k lead f w i table = word_of k >> closed (cells_into lead f w i table)
