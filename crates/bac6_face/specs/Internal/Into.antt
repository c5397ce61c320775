-- Readers of one face that write its row to a table.
use Rattle.std.specs.Prelude.{List, [], ◌∷◌, ℕ, ℤ}
use Rattle.text_numerals.specs.Numbers.{INT}
use Rattle.parse_spec.specs.Readers.{Reader, ◌>>=◌, ◌>>◌, pure, open_bracket, close_bracket, keyword, closed, number, numbers, one_of, row_of}
use Rattle.table_rows.specs.Internal.Overlay.{overlay_at}
use Rattle.bac6_text.specs.Figure.{Face}
use Rattle.bac6_text.specs.Grammar.{face_by}
use Rattle.bac6_text.specs.Layout.{face_row}

-- a face after its first i3 or i4, by that word's bytes
unfoldable pub corners_of : ℤ → List ℕ → ℕ → Reader Face
corners_of m k n =
    closed (numbers INT n) >>= λ vs. row_of k 0 INT n >>= λ ts. close_bracket >> pure (record { material = m; size = n; vertices = vs; uvs = ts })

-- its row, to a table from index i on
unfoldable pub corners_into : ℤ → List ℕ → ℕ → ℤ → ℕ → List ℤ → Reader (List ℤ)
corners_into m k n g i table = corners_of m k n >>= λ f. pure (overlay_at i (face_row g f) table)

-- what stands in a face after its (
unfoldable pub face_tail : Reader Face
face_tail = keyword "face" >> number INT >>= λ m. open_bracket >> one_of ("i3" ∷ "i4" ∷ []) >>= λ k. face_by m k

unfoldable pub face_into : ℤ → ℕ → List ℤ → Reader (List ℤ)
face_into g i table = face_tail >>= λ f. pure (overlay_at i (face_row g f) table)
