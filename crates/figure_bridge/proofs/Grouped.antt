-- Faces with their groups, row by row: a face's row in the table is made of the face and its group's number, and a group is a row of the groups. By induction on faces and groups.
use mathlib.Core.Path.{◌≡◌, refl, ap, ap₂, sym, ◌∙◌}
use mathlib.Core.List.{List, [], ◌∷◌, ◌++◌, map}
use mathlib.Core.Bool.{true}
use mathlib.Core.Option.{Option, none, some}
use Prim.Native.Nat.{ℕ, zero, suc, ◌+◌, ◌<◌, ◌≤◌}
use native.Mathlib.Omega.{arith}
use borrow.Author.Tests.{lt-ltb}
use lib.IntN.{ℤ, pos, negsuc}
use lib.ListN.{length, get_or, length-map, get_or-map}
use Rattle.parse_spec.proofs.Given.{Every}
use Rattle.bac6_text.specs.Figure.{Face, Group, Figure}
use Rattle.bac6_text.specs.Rules.{group_faces, faces_of}
use Rattle.table_references.specs.References.{is_row, is_none}
use Rattle.bac6_text.specs.Layout.{face_row, group_rows, face_rows}
use Rattle.player_spec.specs.Faces.{in_group, in_groups, grouped_faces}
use Rattle.table_references.specs.Index.{is_index}
use Rattle.figure_bridge.specs.Rows.{no_face, face_of, grouped_face_of}
use Rattle.figure_bridge.proofs.Sound.{every_at}

-- a group's number in a table
unfoldable pub group_number : Option ℕ → ℤ
group_number none = negsuc 0
group_number (some g) = pos g

abbrev Grouped : Type 0
Grouped = Face × Option ℕ

abbrev pub row_of : Grouped → List ℤ
row_of p = face_row (group_number p.1) p.0

abbrev alone : Grouped → Face
alone p = p.0

map-append : {B : Type 0} (h : Grouped → B) (a b : List Grouped) → map h (a ++ b) ≡ map h a ++ map h b
map-append h [] b = refl
map-append h (x ∷ a) b = ap (◌∷◌ (h x)) (map-append h a b)

-- ---- faces without their groups

in-group-faces : (g : Option ℕ) (fs : List Face) → map alone (in_group g fs) ≡ fs
unfolding in_group
in-group-faces g [] = refl
in-group-faces g (f ∷ fs) = ap (◌∷◌ f) (in-group-faces g fs)

in-groups-faces : (i : ℕ) (gs : List Group) → map alone (in_groups i gs) ≡ group_faces gs
unfolding in_groups group_faces
in-groups-faces i [] = refl
in-groups-faces i (g ∷ gs) = map-append alone (in_group (some i) g.faces) (in_groups (suc i) gs) ∙ ap₂ ◌++◌ (in-group-faces (some i) g.faces) (in-groups-faces (suc i) gs)

grouped_faces_lem : (f : Figure) → map alone (grouped_faces f) ≡ faces_of f
unfolding grouped_faces faces_of
grouped_faces_lem f = map-append alone (in_group none f.polygons) (in_groups 0 f.groups) ∙ ap₂ ◌++◌ (in-group-faces none f.polygons) (in-groups-faces 0 f.groups)

-- ---- their rows

in-group-rows : (g : Option ℕ) (fs : List Face) → map row_of (in_group g fs) ≡ map (face_row (group_number g)) fs
unfolding in_group
in-group-rows g [] = refl
in-group-rows g (f ∷ fs) = ap (◌∷◌ (face_row (group_number g) f)) (in-group-rows g fs)

in-groups-rows : (i : ℕ) (gs : List Group) → map row_of (in_groups i gs) ≡ group_rows i gs
unfolding in_groups group_rows group_number
in-groups-rows i [] = refl
in-groups-rows i (g ∷ gs) = map-append row_of (in_group (some i) g.faces) (in_groups (suc i) gs) ∙ ap₂ ◌++◌ (in-group-rows (some i) g.faces) (in-groups-rows (suc i) gs)

grouped_rows : (f : Figure) → map row_of (grouped_faces f) ≡ face_rows f
unfolding grouped_faces face_rows group_number
grouped_rows f = map-append row_of (in_group none f.polygons) (in_groups 0 f.groups) ∙ ap₂ ◌++◌ (in-group-rows none f.polygons) (in-groups-rows 0 f.groups)

-- ---- their groups are rows

abbrev Known : ℕ → Grouped → Type 0
Known n p = is_index n (group_number p.1) ≡ true

known_append : (n : ℕ) (a b : List Grouped) → Every (Known n) a → Every (Known n) b → Every (Known n) (a ++ b)
known_append n [] b h k = k
known_append n (p ∷ a) b h k = (h.0, known_append n a b h.1 k)

in-group-known : (n : ℕ) (g : Option ℕ) (fs : List Face) → is_index n (group_number g) ≡ true → Every (Known n) (in_group g fs)
unfolding in_group
in-group-known n g [] h = tt
in-group-known n g (f ∷ fs) h = (h, in-group-known n g fs h)

number_known : (n i : ℕ) → i < n → is_index n (group_number (some i)) ≡ true
unfolding is_index group_number is_none is_row
number_known n i h = lt-ltb i n h

in-groups-known : (n i : ℕ) (gs : List Group) → i + length gs ≤ n → Every (Known n) (in_groups i gs)
unfolding in_groups
in-groups-known n i [] h = tt
in-groups-known n i (g ∷ gs) h = known_append n (in_group (some i) g.faces) (in_groups (suc i) gs) (in-group-known n (some i) g.faces (number_known n i (omega arith))) (in-groups-known n (suc i) gs (omega arith))

grouped_known : (f : Figure) → Every (Known (length f.groups)) (grouped_faces f)
unfolding grouped_faces is_index group_number is_none
grouped_known f = known_append (length f.groups) (in_group none f.polygons) (in_groups 0 f.groups) (in-group-known (length f.groups) none f.polygons refl) (in-groups-known (length f.groups) 0 f.groups (omega arith))

-- ---- the row of a face

at_any : {A : Type 0} (l : List A) (i : ℕ) (d e : A) → i < length l → get_or l i d ≡ get_or l i e
at_any [] i d e h = absurd (omega arith)
at_any (a ∷ l) zero d e h = refl
at_any (a ∷ l) (suc i) d e h = at_any l i d e (omega arith)

grouped_length : (f : Figure) → length (grouped_faces f) ≡ length (faces_of f)
grouped_length f = sym (length-map (grouped_faces f) alone) ∙ ap length (grouped_faces_lem f)

-- a face is the one of its row with its group
pub face_grouped : (f : Figure) (face : ℕ) → (grouped_face_of f face).0 ≡ face_of f face
unfolding grouped_face_of face_of
face_grouped f face = sym (get_or-map alone (grouped_faces f) face (no_face, none)) ∙ ap (λ (l : List Face). get_or l face no_face) (grouped_faces_lem f)

module _ (f : Figure) (face : ℕ) (h : face < length (faces_of f)) where
  pub row_grouped : get_or (face_rows f) face [] ≡ row_of (grouped_face_of f face)
  unfolding grouped_face_of
  row_grouped =
      let e = grouped_length f in
      ap (λ (l : List (List ℤ)). get_or l face []) (sym (grouped_rows f))
      ∙ at_any (map row_of (grouped_faces f)) face [] (row_of (no_face, none)) (rw (length-map (grouped_faces f) row_of) (omega arith))
      ∙ get_or-map row_of (grouped_faces f) face (no_face, none)

  pub group_known : is_index (length f.groups) (group_number (grouped_face_of f face).1) ≡ true
  unfolding grouped_face_of
  group_known = let e = grouped_length f in every_at (Known (length f.groups)) (grouped_faces f) face (no_face, none) (grouped_known f) (omega arith)
