-- Readers of faces and groups that write rows to tables.
use Rattle.std.specs.Prelude.{List, [], ◌++◌, map, ℕ, length, ℤ, pos, negsuc}
use Rattle.parse_spec.specs.Readers.{Reader, ◌>>=◌, ◌>>◌, pure, keyword, opened, closed, absent, string, optional, trailing, many}
use Rattle.table_rows.specs.Internal.Overlay.{overlay_at}
use Rattle.table_rows.specs.Flat.{flat}
use Rattle.parse_rows.specs.Internal.Folds.{fold, row_step}
use Rattle.bac6_text.specs.Figure.{Face, Group}
use Rattle.bac6_text.specs.Grammar.{face, group}
use Rattle.bac6_text.specs.Layout.{face_row, group_rows, group_names, name_numbers}

-- a face more, after n rows
unfoldable pub face_step : ℤ → ℕ × List ℤ → Face → ℕ × List ℤ
face_step g s f = row_step 11 s (face_row g f)

-- what stands in a group after its (
unfoldable pub group_tail : Reader Group
group_tail = keyword "group" >> optional "name" absent (closed string) >>= λ n. many face >>= λ fs. pure (record { name = n; faces = fs })

-- a group more: a row of the names, and its faces after those that stand
unfoldable pub group_step : (ℕ × List ℤ) × (ℕ × List ℤ) → Group → (ℕ × List ℤ) × (ℕ × List ℤ)
group_step s g = (row_step 2 s.0 (name_numbers g.name), fold (face_step (pos s.0.0)) s.1 g.faces)

-- the rows of faces that have no group, and of groups' faces
unfoldable pub all_rows : List Face → List Group → List (List ℤ)
all_rows ps gs = map (face_row (negsuc 0)) ps ++ group_rows 0 gs

-- how many faces there are, their table, how many groups, and the table of their names
unfoldable pub tables_of : List ℤ → List ℤ → List Face → List Group → ℕ × List ℤ × ℕ × List ℤ
tables_of faces names ps gs = (length (all_rows ps gs), overlay_at 0 (flat (all_rows ps gs)) faces, length gs, overlay_at 0 (flat (group_names gs)) names)

-- the end of a figure: its faces and groups, to two tables
unfoldable pub polygons_into : List ℤ → List ℤ → Reader (ℕ × List ℤ × ℕ × List ℤ)
polygons_into faces names = opened "Polygons" >> many face >>= λ ps. trailing "DynamicPolygons" [] (many group) >>= λ gs. pure (tables_of faces names ps gs)
