-- A name as the code holds it: the offset of its first byte, and how many bytes it has.
use Rattle.std.specs.Prelude.{List, [], ◌∷◌, ℤ, pos, length}
use Rattle.parse_spec.specs.Readers.{Name}

-- the same, as numbers of a table
unfoldable pub name_numbers : Name → List ℤ
name_numbers n = pos n.at ∷ pos (length n.bytes) ∷ []
