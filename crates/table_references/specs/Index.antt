-- A number that refers to a row of a list, or to none.
use Rattle.std.specs.Prelude.{Bool, ◌||◌, ℕ, ℤ}
use Rattle.table_references.specs.References.{is_row, is_none}

-- none, or a row of a list of n rows
unfoldable pub is_index : ℕ → ℤ → Bool
is_index n z = is_none z || is_row n z
