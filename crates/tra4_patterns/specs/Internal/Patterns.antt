-- Pattern lines, written to a table.
use Rattle.std.specs.Prelude.{List, [], ◌∷◌, ◌++◌, ℕ, ℤ, length}
use Rattle.text_bytes.specs.Bytes.{bytes}
use Rattle.text_numerals.specs.Numbers.{INT}
use Rattle.parse_spec.specs.Readers.{Reader, ◌>>=◌, ◌>>◌, pure, word_of, closed, numbers, trailing, many}
use Rattle.table_rows.specs.Flat.{flat}
use Rattle.table_rows.specs.Internal.Overlay.{overlay_at}
use Rattle.tra4_text.specs.Movement.{Pattern}
use Rattle.tra4_text.specs.Grammar.{truth, pattern}

-- what stands in a pattern line after its (
unfoldable pub pattern_tail : Reader Pattern
pattern_tail = word_of (bytes "kgf") >> closed (numbers INT 2 >>= λ zs. truth >>= λ z. pure (zs ++ (z ∷ [])))

-- its numbers to a table from an index on
unfoldable pub pattern_into : ℕ → List ℤ → Reader (List ℤ)
pattern_into i table = pattern_tail >>= λ row. pure (overlay_at i row table)

-- how many lines there are, and the table with them at its start
unfoldable pub patterns_into : List ℤ → Reader (ℕ × List ℤ)
patterns_into table = trailing "DynamicPolygons" [] (many pattern) >>= λ ps. pure (length ps, overlay_at 0 (flat ps) table)
