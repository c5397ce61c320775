-- The rows of faces and bones: each as wide as its columns, and as many as there are faces and bones.
use mathlib.Core.Path.{◌≡◌, refl, ap, sym, ◌∙◌}
use mathlib.Core.List.{List, [], ◌∷◌, ◌++◌, map}
use Prim.Native.Nat.{ℕ, zero, suc}
use native.Mathlib.Omega.{arith}
use lib.ListN.{length, length-append, length-map}
use lib.IntN.{ℤ, pos, negsuc}
use Rattle.parse_rows.proofs.Widths.{Wide, wide_append}
use Rattle.bac6_text.specs.Figure.{Bone, Face, Group, Figure}
use Rattle.bac6_text.specs.Layout.{name_numbers, bone_row, bone_rows, corners, face_row, group_rows, face_rows}
use Rattle.bac6_text.specs.Rules.{group_faces, faces_of, flags_of}
use Rattle.bac6_text.proofs.Whole.{WholeBone, WholeBones}

-- ---- faces

pub length-corners : (n : ℕ) (zs : List ℤ) → length (corners n zs) ≡ n
unfolding corners
length-corners zero zs = refl
length-corners (suc n) [] = ap suc (length-corners n [])
length-corners (suc n) (z ∷ zs) = ap suc (length-corners n zs)

pub face_wide : (g : ℤ) (f : Face) → length (face_row g f) ≡ 11
unfolding face_row
face_wide g f = rw (length-append, length-append, length-corners 4 f.vertices, length-corners 4 f.uvs)

faces_wide : (g : ℤ) (fs : List Face) → Wide 11 (map (face_row g) fs)
faces_wide g [] = tt
faces_wide g (f ∷ fs) = (face_wide g f, faces_wide g fs)

groups_wide : (i : ℕ) (gs : List Group) → Wide 11 (group_rows i gs)
unfolding group_rows
groups_wide i [] = tt
groups_wide i (g ∷ gs) = wide_append 11 (map (face_row (pos i)) g.faces) (group_rows (suc i) gs) (faces_wide (pos i) g.faces) (groups_wide (suc i) gs)

groups-length : (i : ℕ) (gs : List Group) → length (group_rows i gs) ≡ length (group_faces gs)
unfolding group_rows group_faces
groups-length i [] = refl
groups-length i (g ∷ gs) = length-append (map (face_row (pos i)) g.faces) (group_rows (suc i) gs) ∙ rw (length-map, groups-length (suc i) gs) (sym (length-append g.faces (group_faces gs)))

pub face_rows_wide : (f : Figure) → Wide 11 (face_rows f)
unfolding face_rows
face_rows_wide f = wide_append 11 (map (face_row (negsuc 0)) f.polygons) (group_rows 0 f.groups) (faces_wide (negsuc 0) f.polygons) (groups_wide 0 f.groups)

pub face_rows-length : (f : Figure) → length (face_rows f) ≡ length (faces_of f)
unfolding face_rows faces_of
face_rows-length f = length-append (map (face_row (negsuc 0)) f.polygons) (group_rows 0 f.groups) ∙ rw (length-map, groups-length 0 f.groups) (sym (length-append f.polygons (group_faces f.groups)))

-- ---- bones

-- the numbers of a bone's place, turn and handle
abbrev pub nine : Bone → List ℤ
nine b = b.translate ++ b.rotate ++ b.handle

pub nine_length : (b : Bone) → WholeBone b → length (nine b) ≡ 9
nine_length b w = rw (length-append (b.translate ++ b.rotate) b.handle, length-append b.translate b.rotate, w.translate, w.rotate, w.handle)

-- a row: nine numbers, two flags, the parent, the name
pub bone_wide : (b : Bone) → WholeBone b → (p : ℤ) → length (bone_row b p) ≡ 14
unfolding bone_row name_numbers
bone_wide b w p = rw (length-append (nine b) (b.child ∷ b.brother ∷ p ∷ name_numbers b.name), nine_length b w)

pub bones_wide : (bs : List Bone) (ps : List ℤ) → WholeBones bs → Wide 14 (bone_rows bs ps)
unfolding bone_rows
bones_wide [] ps w = tt
bones_wide (b ∷ bs) [] w = tt
bones_wide (b ∷ bs) (p ∷ ps) w = (bone_wide b w.0 p, bones_wide bs ps w.1)

pub bones_count : (bs : List Bone) (ps : List ℤ) → length ps ≡ length bs → length (bone_rows bs ps) ≡ length bs
unfolding bone_rows
bones_count [] ps e = refl
bones_count (b ∷ bs) [] e = absurd (omega arith)
bones_count (b ∷ bs) (p ∷ ps) e = ap suc (bones_count bs ps (omega arith))

pub flags_count : (bs : List Bone) → length (flags_of bs) ≡ length bs
unfolding flags_of
flags_count [] = refl
flags_count (b ∷ bs) = ap suc (flags_count bs)
