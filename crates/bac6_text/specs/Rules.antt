-- The rules 8 to 13 of a figure, each with its place (document 01, "Refusal numbers").
use Rattle.std.specs.Prelude.{List, [], ◌∷◌, ◌++◌, Bool, true, false, not, cond, ◌&&◌, ◌||◌, ℕ, zero, suc, leb, eqb, length, ℤ, pos, negsuc}
use Rattle.refusal.specs.Faults.{Fault, clear, fault}
use Rattle.refusal.specs.Rules.{or_else, too_many}
use Rattle.bac6_text.specs.Figure.{Bone, Face, Group, Figure}
use Rattle.table_references.specs.References.{is_none, is_row, member}
use Rattle.refusal.specs.FirstBad.{all, first_bad}
use Rattle.table_counts.specs.declared.counts.FigureCounts.{FigureCounts}
use Rattle.table_counts.specs.Counts.{figure_lists, figure_mosts}
use Rattle.table_columns.specs.Columns.{material_texture, material_colour, material_specular, material_alpha, material_shininess}

-- the faces of `Polygons`, then group by group
unfoldable pub group_faces : List Group → List Face
group_faces [] = []
group_faces (g ∷ gs) = g.faces ++ group_faces gs

unfoldable pub faces_of : Figure → List Face
faces_of f = f.polygons ++ group_faces f.groups

-- how many rows each list has
unfoldable pub figure_counts : Figure → FigureCounts
figure_counts f =
    record {
      textures = length f.textures;
      colours = length f.colours;
      materials = length f.materials;
      points = length f.points;
      normals = length f.normals;
      bones = length f.bones;
      uvs = length f.uvs;
      faces = length (faces_of f);
      groups = length f.groups;
    }

unfoldable pub counts_of : Figure → List ℕ
counts_of f = figure_lists (figure_counts f)

-- 9: normals not as many as points
unfoldable pub normals_fault : ℕ → ℕ → Fault
normals_fault points normals = cond (eqb points normals) clear (fault 9 normals)

-- ---- 10: the bones as one list

-- a bone's flags
abbrev pub Flags : Type 0
Flags = ℤ × ℤ

unfoldable pub flags_of : List Bone → List Flags
flags_of [] = []
flags_of (b ∷ bs) = (b.child, b.brother) ∷ flags_of bs

-- the parents of the rows that a list of bones takes, the next row and the flags left; or the rows run out
pub data Placed : Type 0 where
  placed : List ℤ → ℕ → List Flags → Placed
  short : Placed

unfoldable pub is_set : ℤ → Bool
is_set (pos zero) = false
is_set (pos (suc n)) = true
is_set (negsuc n) = true

-- the parents of more rows, after those of some
unfoldable pub joined : List ℤ → Placed → Placed
joined ps (placed qs row flags) = placed (ps ++ qs) row flags
joined ps short = short

-- and then, where a bone has a brother, the rest of its list
unfoldable pub then_if : Bool → Placed → (ℕ → List Flags → Placed) → Placed
then_if b short list = short
then_if false (placed ps row flags) list = placed ps row flags
then_if true (placed ps row flags) list = joined ps (list row flags)

-- a list of bones under a parent: one bone, then its children's list if it has a child, then the rest of the list if it has a brother.
-- Each bone takes a row, so `n` turns are enough for n rows
unfoldable pub bone_list : ℕ → ℤ → ℕ → List Flags → Placed
bone_list zero parent row flags = short
bone_list (suc n) parent row [] = short
bone_list (suc n) parent row (f ∷ flags) =
    joined (parent ∷ [])
    (then_if (is_set f.1)
    (elim (is_set f.0) [ true ↦ bone_list n (pos row) (suc row) flags | false ↦ placed [] (suc row) flags ])
    (λ r fs. bone_list n parent r fs))

-- the whole list, under no parent
unfoldable pub whole_list : List Flags → Placed
whole_list flags = bone_list (length flags) (negsuc 0) 0 flags

unfoldable pub placed_fault : ℕ → Placed → Fault
placed_fault n short = fault 10 n
placed_fault n (placed ps row []) = clear
placed_fault n (placed ps row (f ∷ flags)) = fault 10 row

unfoldable pub parents_in : Placed → List ℤ
parents_in short = []
parents_in (placed ps row flags) = ps

unfoldable pub bones_fault : List Flags → Fault
bones_fault flags = placed_fault (length flags) (whole_list flags)

-- ---- references

-- ---- 11: a vertex entry names a vertex that no earlier entry has named, in this bone or another

unfoldable pub entries_fine : ℕ → List ℤ → List ℤ → Bool
entries_fine n earlier [] = true
entries_fine n earlier (z ∷ zs) = is_row n z && not (member z earlier) && entries_fine n (z ∷ earlier) zs

unfoldable pub vertices_fault : ℕ → List ℤ → ℕ → List Bone → Fault
vertices_fault n earlier row [] = clear
vertices_fault n earlier row (b ∷ bs) =
    elim (entries_fine n earlier b.vertices) [ true ↦ vertices_fault n (b.vertices ++ earlier) (suc row) bs | false ↦ fault 11 row ]

-- the bone whose entries name a vertex, or -1
unfoldable pub owner_from : ℕ → ℤ → List Bone → ℤ
owner_from row z [] = negsuc 0
owner_from row z (b ∷ bs) = elim (member z b.vertices) [ true ↦ pos row | false ↦ owner_from (suc row) z bs ]

unfoldable pub owner_of : List Bone → ℤ → ℤ
owner_of bs z = owner_from 0 z bs

-- ---- 12: a material's indices and levels, by 01's columns

unfoldable pub is_level : ℤ → Bool
is_level (pos n) = leb n 1000000
is_level (negsuc n) = false

unfoldable pub material_fine : ℕ → ℕ → List ℤ → Bool
material_fine textures colours m =
    (is_none (material_texture m) || is_row textures (material_texture m))
    && (is_none (material_colour m) || is_row colours (material_colour m))
    && is_level (material_specular m)
    && is_level (material_alpha m)
    && is_level (material_shininess m)

-- ---- 13: a face's material and vertices are rows, and its uvs are all -1 or all rows

unfoldable pub face_fine : ℕ → ℕ → ℕ → Face → Bool
face_fine materials points uvs f =
    is_row materials f.material && all (is_row points) f.vertices && (all is_none f.uvs || all (is_row uvs) f.uvs)

-- ---- of 8 to 13 the lowest number, with its lowest row

unfoldable pub figure_fault : Figure → Fault
figure_fault f =
    or_else (too_many 0 (counts_of f) figure_mosts)
    (or_else (normals_fault (length f.points) (length f.normals))
    (or_else (bones_fault (flags_of f.bones))
    (or_else (vertices_fault (length f.points) [] 0 f.bones)
    (or_else (first_bad 12 (material_fine (length f.textures) (length f.colours)) 0 f.materials)
    (first_bad 13 (face_fine (length f.materials) (length f.points) (length f.uvs)) 0 (faces_of f))))))
