-- A name as the code holds it: the offset of its first byte, and how many bytes it has.
use Rattle.std.specs.Prelude.{ℕ, length}
use Rattle.parse_spec.specs.Readers.{Reader, ◌>>=◌, pure, closed, Name, absent, string, optional}

unfoldable pub place_of : Name → ℕ × ℕ
place_of n = (n.at, length n.bytes)

unfoldable pub string_of : Reader (ℕ × ℕ)
string_of = string >>= λ n. pure (place_of n)

-- a name up to its chunk's )
unfoldable pub name_of : Reader (ℕ × ℕ)
name_of = closed string >>= λ n. pure (place_of n)

-- a chunk of a name that may be left out: an absent one is 0 and 0
unfoldable pub optional_name : Reader (ℕ × ℕ)
optional_name = optional "name" absent (closed string) >>= λ n. pure (place_of n)
