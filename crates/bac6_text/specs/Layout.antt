-- A figure's numbers in document 01's columns, lists without gaps.
use Rattle.std.specs.Prelude.{List, [], ◌∷◌, ◌++◌, map, ℕ, zero, suc, length, ℤ, pos, negsuc}
unfoldable pub use Rattle.parse_spec.specs.Places.{name_numbers}
use Rattle.table_rows.specs.Flat.{flat}
use Rattle.bac6_text.specs.Figure.{Bone, Face, Group, Figure}
use Rattle.bac6_text.specs.Rules.{flags_of, whole_list, parents_in, owner_of}

unfoldable pub bone_row : Bone → ℤ → List ℤ
bone_row b parent = b.translate ++ b.rotate ++ b.handle ++ (b.child ∷ b.brother ∷ parent ∷ name_numbers b.name)

unfoldable pub bone_rows : List Bone → List ℤ → List (List ℤ)
bone_rows [] ps = []
bone_rows (b ∷ bs) [] = []
bone_rows (b ∷ bs) (p ∷ ps) = bone_row b p ∷ bone_rows bs ps

-- the owners of the vertices from row i on, n of them
unfoldable pub owners_from : List Bone → ℕ → ℕ → List ℤ
owners_from bs i zero = []
owners_from bs i (suc n) = owner_of bs (pos i) ∷ owners_from bs (suc i) n

-- four corners, an unused one -1
unfoldable pub corners : ℕ → List ℤ → List ℤ
corners zero zs = []
corners (suc n) [] = negsuc 0 ∷ corners n []
corners (suc n) (z ∷ zs) = z ∷ corners n zs

unfoldable pub face_row : ℤ → Face → List ℤ
face_row g f = f.material ∷ pos f.size ∷ (corners 4 f.vertices ++ corners 4 f.uvs ++ (g ∷ []))

unfoldable pub group_rows : ℕ → List Group → List (List ℤ)
group_rows i [] = []
group_rows i (g ∷ gs) = map (face_row (pos i)) g.faces ++ group_rows (suc i) gs

-- the faces of `Polygons` have no group
unfoldable pub face_rows : Figure → List (List ℤ)
face_rows f = map (face_row (negsuc 0)) f.polygons ++ group_rows 0 f.groups

unfoldable pub group_names : List Group → List (List ℤ)
group_names [] = []
group_names (g ∷ gs) = name_numbers g.name ∷ group_names gs

unfoldable pub layout_of : Figure → List ℤ
layout_of f =
    name_numbers f.name
    ++ flat f.textures
    ++ flat f.colours
    ++ flat f.materials
    ++ flat f.points
    ++ flat f.normals
    ++ flat (bone_rows f.bones (parents_in (whole_list (flags_of f.bones))))
    ++ owners_from f.bones 0 (length f.points)
    ++ flat f.uvs
    ++ flat (face_rows f)
    ++ flat (group_names f.groups)
