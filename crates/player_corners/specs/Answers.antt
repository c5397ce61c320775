-- What a corner that the code answers means.
use Rattle.std.specs.Prelude.{List, [], ◌∷◌, ℕ, ℤ, Option as Answer, Some, None}
use Rattle.std.proofs.Math.Option.{Option, none, some}
use Rattle.player_spec.specs.Faces.{CornerOf}
use Rattle.player_corners.specs.declared.point.Uv.{Uv}
use Rattle.player_corners.specs.declared.corners.FaceCorner.{FaceCorner}

-- a texture coordinate's two numbers, if there is one
abbrev pub uv_told : Answer Uv → Option (List ℤ)
uv_told None = none
uv_told (Some t) = some (t.u ∷ t.v ∷ [])

abbrev pub corner_named : FaceCorner → CornerOf
corner_named c = record { position = c.x ∷ c.y ∷ c.z ∷ []; owner = c.owner; uv = uv_told c.uv; material = c.material }

abbrev pub cornered : Answer FaceCorner → ℕ × ℕ × ℕ × Option CornerOf
cornered None = (21, 0, 0, none)
cornered (Some c) = (0, 0, 0, some (corner_named c))
