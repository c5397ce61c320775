-- A figure's faces by row.
use Rattle.std.specs.Prelude.{[], Bool, true, false, ℕ, negsuc, get_or}
use Rattle.std.proofs.Math.Option.{Option, none, some}
use Rattle.bac6_text.specs.Figure.{Face, Figure}
use Rattle.bac6_text.specs.Rules.{faces_of}
use Rattle.player_spec.specs.Faces.{grouped_faces}

-- past the last row
unfoldable pub no_face : Face
no_face = record { material = negsuc 0; size = 0; vertices = []; uvs = [] }

-- the face of a row, and the same with its group
unfoldable pub face_of : Figure → ℕ → Face
face_of f face = get_or (faces_of f) face no_face

unfoldable pub grouped_face_of : Figure → ℕ → Face × Option ℕ
grouped_face_of f face = get_or (grouped_faces f) face (no_face, none)

unfoldable pub has_no_group : Face × Option ℕ → Bool
has_no_group (f, none) = true
has_no_group (f, some g) = false
