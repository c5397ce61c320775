-- Readers of lists of rows, with a table that they are written over. What a table holds from that index on after a refusal is not said.
use Rattle.std.specs.Prelude.{List, ℕ, ℤ, length}
use Rattle.text_numerals.specs.Numbers.{Form}
use Rattle.parse_spec.specs.Readers.{Reader, ◌>>=◌, pure, row_of, many, many⁺}
use Rattle.table_rows.specs.Internal.Overlay.{overlay_at}
use Rattle.table_rows.specs.Flat.{flat}

-- rows up to ), one after the other over a table's numbers from index i on, and how many they are
unfoldable pub rows_into : List ℕ → ℕ → Form → ℕ → ℕ → List ℤ → Reader (ℕ × List ℤ)
rows_into k lead f w i table = many (row_of k lead f w) >>= λ rs. pure (length rs, overlay_at i (flat rs) table)

-- the same for one row or more
unfoldable pub some_into : List ℕ → ℕ → Form → ℕ → ℕ → List ℤ → Reader (ℕ × List ℤ)
some_into k lead f w i table = many⁺ (row_of k lead f w) >>= λ rs. pure (length rs, overlay_at i (flat rs) table)
