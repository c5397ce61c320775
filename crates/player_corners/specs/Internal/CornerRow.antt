-- A corner by its face's row, in a table that holds what its counts say.
use Rattle.std.specs.Prelude.{List, [], ◌∷◌, ◌&&◌, ℕ, ltb, ℤ, nat_abs, Option as Answer, Some, None}
use Rattle.std.proofs.Math.Option.{Option, none, some}
use Rattle.table_references.specs.Index.{is_index}
use Rattle.table_counts.specs.declared.counts.FigureCounts.{FigureCounts}
use Rattle.player_spec.specs.Faces.{CornerOf}
use Rattle.player_spec.specs.Lookups.{only_if, all_float, face_sound, owner_at, point_at, uv_row, uv_fine, uv_in}
use Rattle.player_corners.specs.declared.point.Point.{Point}
use Rattle.player_corners.specs.declared.corners.FaceCorner.{FaceCorner}
use Rattle.player_corners.specs.Answers.{corner_named}
use Rattle.table_columns.specs.Columns.{face_material, face_size, face_vertex, face_uv}

-- what the code answers, without number, place and file
abbrev pub corner_told : Answer FaceCorner → Option CornerOf
corner_told None = none
corner_told (Some c) = some (corner_named c)

-- a vertex's position and owner
abbrev pub point_told : Answer Point → Option (List ℤ × ℤ)
point_told None = none
point_told (Some p) = some (p.x ∷ p.y ∷ p.z ∷ [], p.owner)

module _ (n : FigureCounts) (table : List ℤ) where
  -- the position and owner of a vertex, where they may be so
  unfoldable pub point_of : ℤ → Option (List ℤ × ℤ)
  point_of v = only_if (all_float (point_at n table v) && is_index n.bones (owner_at n table v)) (point_at n table v, owner_at n table v)

  unfoldable pub uv_of : ℤ → Option (List ℤ)
  uv_of t = only_if (all_float (uv_row n table t)) (uv_row n table t)

  unfoldable pub row_corner : List ℤ → ℕ → Option CornerOf
  row_corner row k =
      only_if
      (face_sound n row
      && ltb k (nat_abs (face_size row))
      && all_float (point_at n table (face_vertex row k))
      && is_index n.bones (owner_at n table (face_vertex row k))
      && uv_fine n table (face_uv row k))
      (record {
        position = point_at n table (face_vertex row k);
        owner = owner_at n table (face_vertex row k);
        uv = uv_in n table (face_uv row k);
        material = face_material row;
      })
