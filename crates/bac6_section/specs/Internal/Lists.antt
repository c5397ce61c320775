-- Lists of rows, laid over a table one after the other.
use Rattle.std.specs.Prelude.{List, [], Bool, true, false, ℕ, ◌+◌, ◌*◌, min, ℤ, length}
use Rattle.text_numerals.specs.Numbers.{Form}
use Rattle.parse_spec.specs.Readers.{Reader, ◌>>=◌, pure, many, row_of}
use Rattle.parse_spec.specs.Internal.Branches.{start_of}
use Rattle.table_rows.specs.Flat.{flat}
use Rattle.table_rows.specs.Internal.Overlay.{overlay_at}

-- an index of a table, and the table: rows of w numbers laid from the index on give the index after them, or the table's end, and the table with them
unfoldable pub rows_laid : ℕ → ℕ × List ℤ → List (List ℤ) → ℕ × List ℤ
rows_laid w s rs = (min (s.0 + length rs * w) (length s.1), overlay_at s.0 (flat rs) s.1)

-- the rows that a reader gives, laid: how many they are, and the table
unfoldable pub list_into : ℕ → Reader (List (List ℤ)) → ℕ × List ℤ → Reader (ℕ × (ℕ × List ℤ))
list_into w r s = r >>= λ rs. pure (length rs, rows_laid w s rs)

-- a chunk of rows that may be left out, by its keyword's bytes
unfoldable pub rows_if : Bool → List ℕ → Form → ℕ → Reader (List (List ℤ))
rows_if true k f w = many (row_of k 0 f w)
rows_if false k f w = pure []

unfoldable pub section_of : List ℕ → List ℕ → Form → ℕ → Reader (List (List ℤ))
section_of name k f w = start_of name >>= λ present. rows_if present k f w
