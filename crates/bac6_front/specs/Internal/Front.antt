-- The front of a figure's text, its lists laid over a table one after the other.
use Rattle.std.specs.Prelude.{List, ℕ, ℤ}
use Rattle.parse_spec.specs.Readers.{Reader, ◌>>=◌, pure}
use Rattle.parse_spec.specs.Internal.Places.{place_of}
use Rattle.bac6_text.specs.Grammar.{name_section, texture_section, colour_section, material_section, point_section, normal_section}
use Rattle.bac6_section.specs.Internal.Lists.{list_into}

-- the name's place and length, how many rows each list has, and the table with the index after them
pub record FrontValue : Type 0 where
  pub name : ℕ × ℕ
  pub textures : ℕ
  pub colours : ℕ
  pub materials : ℕ
  pub points : ℕ
  pub normals : ℕ
  pub table : ℕ × List ℤ

-- the name's place and length
unfoldable pub name_into : Reader (ℕ × ℕ)
name_into = name_section >>= λ n. pure (place_of n)

unfoldable pub front_into : ℕ × List ℤ → Reader FrontValue
front_into s = do
  n ← name_into
  t ← list_into 2 texture_section s
  c ← list_into 3 colour_section t.1
  m ← list_into 9 material_section c.1
  p ← list_into 3 point_section m.1
  v ← list_into 3 normal_section p.1
  pure (record { name = n; textures = t.0; colours = c.0; materials = m.0; points = p.0; normals = v.0; table = v.1 })
