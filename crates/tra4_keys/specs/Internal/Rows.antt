-- A table's rows.
use Rattle.std.specs.Prelude.{List, ℕ, length, ℤ}
use Rattle.table_columns.specs.Parts.{rows_of}

-- every whole row of a width, of one number or more
unfoldable pub whole_rows : ℕ → List ℤ → List (List ℤ)
whole_rows w t = rows_of w (length t) t
