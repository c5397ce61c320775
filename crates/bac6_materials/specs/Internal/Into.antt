-- Readers of rows that write to a table.
use Rattle.std.specs.Prelude.{List, map, ℕ, ℤ, length}
use Rattle.parse_spec.specs.Readers.{Reader, ◌>>=◌, ◌>>◌, pure, keyword, many⁺}
use Rattle.parse_spec.specs.Fields.{fields}
use Rattle.table_rows.specs.Flat.{flat}
use Rattle.table_rows.specs.Internal.Overlay.{overlay_at}
use Rattle.bac6_text.specs.Grammar.{or_zero, material_kinds, material}

-- the chunks of a material up to its ), as its row
unfoldable pub material_row : Reader (List ℤ)
material_row = fields material_kinds >>= λ fs. pure (map or_zero fs)

-- what stands in a material after its (
unfoldable pub material_tail : Reader (List ℤ)
material_tail = keyword "material" >> fields material_kinds >>= λ fs. pure (map or_zero fs)

-- its numbers, to a table from an index on
unfoldable pub material_into : ℕ → List ℤ → Reader (List ℤ)
material_into i table = material_tail >>= λ row. pure (overlay_at i row table)

-- one material or more up to ), over a table's first numbers, and how many they are
unfoldable pub materials_into : List ℤ → Reader (ℕ × List ℤ)
materials_into table = many⁺ material >>= λ rs. pure (length rs, overlay_at 0 (flat rs) table)
