-- What a face's row says of rule 13.
use Rattle.std.specs.Prelude.{List, Bool, true, false, ◌&&◌, ◌||◌, ℕ, take, drop, ℤ, pos}
use Rattle.refusal.specs.FirstBad.{all}
use Rattle.table_references.specs.References.{is_row, is_none, same_number}
use Rattle.table_columns.specs.Columns.{face_material, face_size}

-- how many corners a face has: 4, or else 3
unfoldable pub corner_count : List ℤ → ℕ
corner_count f = elim (same_number (face_size f) (pos 4)) [ true ↦ 4 | false ↦ 3 ]

-- so many corners: each names a vertex, and all name a texture coordinate or none does
unfoldable pub corners_known : ℕ → ℕ → ℕ → List ℤ → Bool
corners_known used points uvs f =
    all (is_row points) (take used (drop 2 f)) && (all is_none (take used (drop 6 f)) || all (is_row uvs) (take used (drop 6 f)))

-- rule 13 on a row
unfoldable pub face_row_fine : ℕ → ℕ → ℕ → List ℤ → Bool
face_row_fine materials points uvs f = is_row materials (face_material f) && corners_known (corner_count f) points uvs f
