-- Whether a face is shown at a frame, and a face's corner, from the two texts' lists (document 01, "Playing").
use Rattle.std.specs.Prelude.{List, [], ◌∷◌, ◌++◌, Bool, true, false, ◌&&◌, ℕ, suc, ℤ, negsuc, nat_abs, get_or}
use Rattle.std.proofs.Math.Option.{Option, none, some}
use Rattle.bac6_text.specs.Figure.{Bone, Face, Group, Figure}
use Rattle.bac6_text.specs.Rules.{owner_of}
use Rattle.table_references.specs.References.{is_none}
use Rattle.tra4_text.specs.Movement.{Pattern}
use Rattle.player_spec.specs.Deciding.{deciding, state_by}

-- ---- faces with their groups, in row order: those of `Polygons` have none

unfoldable pub in_group : Option ℕ → List Face → List (Face × Option ℕ)
in_group g [] = []
in_group g (f ∷ fs) = (f, g) ∷ in_group g fs

unfoldable pub in_groups : ℕ → List Group → List (Face × Option ℕ)
in_groups i [] = []
in_groups i (g ∷ gs) = in_group (some i) g.faces ++ in_groups (suc i) gs

unfoldable pub grouped_faces : Figure → List (Face × Option ℕ)
grouped_faces f = in_group none f.polygons ++ in_groups 0 f.groups

-- ---- Shown

-- every corner has a bone
unfoldable pub all_owned : List Bone → List ℤ → Bool
all_owned bs [] = true
all_owned bs (v ∷ vs) = elim (is_none (owner_of bs v)) [ true ↦ false | false ↦ all_owned bs vs ]

-- a face of `Polygons`, or one whose group is shown at a frame
unfoldable pub group_shown : Option ℕ → ℕ → List Pattern → Bool
group_shown none at ps = true
group_shown (some g) at ps = state_by (deciding g at ps)

unfoldable pub shown_of : List Bone → List Pattern → Face × Option ℕ → ℕ → Bool
shown_of bs ps f at = all_owned bs f.0.vertices && group_shown f.1 at ps

-- ---- Corner

-- a point's three numbers, its bone or -1, the texture coordinate's two numbers or none, and the material's row
pub record CornerOf : Type 0 where
  pub position : List ℤ
  pub owner : ℤ
  pub uv : Option (List ℤ)
  pub material : ℤ

-- the row that a number names
unfoldable pub row_at : List (List ℤ) → ℤ → List ℤ
row_at rows z = get_or rows (nat_abs z) []

unfoldable pub uv_at : List (List ℤ) → ℤ → Option (List ℤ)
uv_at uvs u = elim (is_none u) [ true ↦ none | false ↦ some (row_at uvs u) ]

unfoldable pub corner_of : Figure → Face → ℕ → CornerOf
corner_of f face k =
    let v = get_or face.vertices k (negsuc 0) in
    record { position = row_at f.points v; owner = owner_of f.bones v; uv = uv_at f.uvs (get_or face.uvs k (negsuc 0)); material = face.material }
