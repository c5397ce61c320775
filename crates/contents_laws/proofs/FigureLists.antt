-- Name places make no difference to a figure's rules, counts, names and answers: each reads the lists of `placeless f` as it reads those of f, by induction on bones and groups.
use mathlib.Core.Path.{◌≡◌, refl, ap, ap₂, sym, ◌∙◌}
use mathlib.Core.List.{List, [], ◌∷◌, ◌++◌, map}
use mathlib.Core.Bool.{true, false}
use mathlib.Core.Option
use mathlib.Core.Option.{none, some}
use Prim.Native.Nat.{ℕ, zero, suc, ◌+◌}
use native.Mathlib.Omega.{arith}
use lib.IntN.{ℤ, pos, negsuc}
use lib.ListN.{length, length-append, length-map}
use Rattle.refusal.specs.Faults.{Fault, fault}
use Rattle.parse_alike.specs.Internal.Placeless.{placeless_name}
use Rattle.table_references.specs.References.{member}
use Rattle.table_rows.specs.Flat.{flat}
use Rattle.bac6_text.specs.Figure.{Bone, Group, Figure}
use Rattle.bac6_text.specs.Rules.{flags_of, whole_list, parents_in, vertices_fault, entries_fine, owner_from, owner_of, group_faces, faces_of, figure_counts, counts_of, figure_fault}
use Rattle.bac6_text.specs.Layout.{name_numbers, bone_row, bone_rows, owners_from, face_row, group_rows, face_rows, group_names, layout_of}
use Rattle.bac6_alike.specs.Renamed.{renamed_bone, renamed_group, renamed}
use Rattle.bac6_alike.specs.Internal.Placeless.{placeless_bone, placeless_group, placeless}
use Rattle.tra4_text.specs.Movement.{Movement}
use Rattle.player_spec.specs.Faces.{corner_of, in_group, in_groups, grouped_faces}
use Rattle.player_spec.specs.Reasons.{why_of}
use Rattle.pair_text.specs.Rules.{figure_names}
use Rattle.figure_bridge.specs.Rows.{face_of, grouped_face_of}
use Rattle.player_spec.proofs.WhyShown.{is_shown}
use Rattle.pair_bridge.proofs.Lookups.{asked_shown}
use Rattle.pair_bridge.specs.Playing.{corner_asked, shown_asked, why_asked, label_asked}

-- ---- bones

pub flags_placeless : (bs : List Bone) → flags_of (map placeless_bone bs) ≡ flags_of bs
unfolding flags_of renamed_bone
flags_placeless [] = refl
flags_placeless (b ∷ bs) = ap (◌∷◌ (b.child, b.brother)) (flags_placeless bs)

vertices-placeless : (n : ℕ) (earlier : List ℤ) (row : ℕ) (bs : List Bone) → vertices_fault n earlier row (map placeless_bone bs) ≡ vertices_fault n earlier row bs
unfolding vertices_fault renamed_bone
vertices-placeless n earlier row [] = refl
vertices-placeless n earlier row (b ∷ bs) =
    ap (λ (x : Fault). elim (entries_fine n earlier b.vertices) [ true ↦ x | false ↦ fault 11 row ]) (vertices-placeless n (b.vertices ++ earlier) (suc row) bs)

owner-placeless : (row : ℕ) (z : ℤ) (bs : List Bone) → owner_from row z (map placeless_bone bs) ≡ owner_from row z bs
unfolding owner_from renamed_bone
owner-placeless row z [] = refl
owner-placeless row z (b ∷ bs) = ap (λ (x : ℤ). elim (member z b.vertices) [ true ↦ pos row | false ↦ x ]) (owner-placeless (suc row) z bs)

pub owners_placeless : (bs : List Bone) (z : ℤ) → owner_of (map placeless_bone bs) z ≡ owner_of bs z
unfolding owner_of
owners_placeless bs z = owner-placeless 0 z bs

owned_map : (bs : List Bone) (vs : List ℤ) → map (owner_of (map placeless_bone bs)) vs ≡ map (owner_of bs) vs
owned_map bs [] = refl
owned_map bs (v ∷ vs) = ap₂ ◌∷◌ (owners_placeless bs v) (owned_map bs vs)

pub rows_owned : (bs : List Bone) (i n : ℕ) → owners_from (map placeless_bone bs) i n ≡ owners_from bs i n
unfolding owners_from
rows_owned bs i zero = refl
rows_owned bs i (suc n) = ap₂ ◌∷◌ (owners_placeless bs (pos i)) (rows_owned bs (suc i) n)

bytes-placeless : (bs : List Bone) → map (λ (b : Bone). b.name.bytes) (map placeless_bone bs) ≡ map (λ (b : Bone). b.name.bytes) bs
unfolding renamed_bone placeless_name
bytes-placeless [] = refl
bytes-placeless (b ∷ bs) = ap (◌∷◌ b.name.bytes) (bytes-placeless bs)

-- a bone's row is as long as without its name's place
row_long : (b : Bone) (p : ℤ) → length (bone_row (placeless_bone b) p) ≡ length (bone_row b p)
unfolding bone_row renamed_bone name_numbers
row_long b p = simp length-append

rows_long : (bs : List Bone) (ps : List ℤ) → length (flat (bone_rows (map placeless_bone bs) ps)) ≡ length (flat (bone_rows bs ps))
unfolding bone_rows flat
rows_long [] ps = refl
rows_long (b ∷ bs) [] = refl
rows_long (b ∷ bs) (p ∷ ps) = rw (length-append (bone_row (placeless_bone b) p), length-append (bone_row b p)) (ap₂ ◌+◌ (row_long b p) (rows_long bs ps))

-- ---- groups

faces-placeless : (gs : List Group) → group_faces (map placeless_group gs) ≡ group_faces gs
unfolding group_faces renamed_group
faces-placeless [] = refl
faces-placeless (g ∷ gs) = ap (◌++◌ g.faces) (faces-placeless gs)

in-groups : (i : ℕ) (gs : List Group) → in_groups i (map placeless_group gs) ≡ in_groups i gs
unfolding in_groups renamed_group
in-groups i [] = refl
in-groups i (g ∷ gs) = ap (◌++◌ (in_group (some i) g.faces)) (in-groups (suc i) gs)

group-rows : (i : ℕ) (gs : List Group) → group_rows i (map placeless_group gs) ≡ group_rows i gs
unfolding group_rows renamed_group
group-rows i [] = refl
group-rows i (g ∷ gs) = ap (◌++◌ (map (face_row (pos i)) g.faces)) (group-rows (suc i) gs)

names_long : (gs : List Group) → length (flat (group_names (map placeless_group gs))) ≡ length (flat (group_names gs))
unfolding group_names flat renamed_group name_numbers
names_long [] = refl
names_long (g ∷ gs) = ap (λ (n : ℕ). suc (suc n)) (names_long gs)

-- ---- a figure

-- parts one after the other, of which three may be others of their length
parts_long : (a a' t c m p n b b' o u r g g' : List ℤ) → length a' ≡ length a → length b' ≡ length b → length g' ≡ length g
    → length (a' ++ t ++ c ++ m ++ p ++ n ++ b' ++ o ++ u ++ r ++ g') ≡ length (a ++ t ++ c ++ m ++ p ++ n ++ b ++ o ++ u ++ r ++ g)
parts_long a a' t c m p n b b' o u r g g' ea eb eg = simp length-append (omega arith)

module _ (f : Figure) where
  faces-same : faces_of (placeless f) ≡ faces_of f
  unfolding faces_of renamed
  faces-same = ap (◌++◌ f.polygons) (faces-placeless f.groups)

  pub grouped_same : grouped_faces (placeless f) ≡ grouped_faces f
  unfolding grouped_faces renamed
  grouped_same = ap (◌++◌ (in_group none f.polygons)) (in-groups 0 f.groups)

  pub face_rows-same : face_rows (placeless f) ≡ face_rows f
  unfolding face_rows renamed
  face_rows-same = ap (◌++◌ (map (face_row (negsuc 0)) f.polygons)) (group-rows 0 f.groups)

  pub counts-placeless : figure_counts (placeless f) ≡ figure_counts f
  unfolding figure_counts renamed
  counts-placeless = rw (faces-same, length-map f.bones, length-map f.groups)

  pub fault-placeless : figure_fault (placeless f) ≡ figure_fault f
  unfolding figure_fault counts_of renamed
  fault-placeless = rw (counts-placeless, flags_placeless f.bones, vertices-placeless (length f.points) [] 0 f.bones, faces-same)

  pub names-placeless : figure_names (placeless f) ≡ figure_names f
  unfolding figure_names renamed
  names-placeless = bytes-placeless f.bones

  pub long_placeless : length (layout_of (placeless f)) ≡ length (layout_of f)
  unfolding layout_of renamed placeless_name name_numbers
  long_placeless = rw (flags_placeless f.bones, rows_owned f.bones 0 (length f.points), face_rows-same)
      (parts_long (name_numbers f.name) (name_numbers (placeless_name f.name)) (flat f.textures) (flat f.colours) (flat f.materials) (flat f.points) (flat f.normals) (flat (bone_rows f.bones (parents_in (whole_list (flags_of f.bones))))) (flat (bone_rows (map placeless_bone f.bones) (parents_in (whole_list (flags_of f.bones)))))
      (owners_from f.bones 0 (length f.points)) (flat f.uvs) (flat (face_rows f)) (flat (group_names f.groups)) (flat (group_names (map placeless_group f.groups)))
      refl (rows_long f.bones _) (names_long f.groups))

  -- ---- answers

  pub corner-placeless : (face k : ℕ) → corner_asked (placeless f) face k ≡ corner_asked f face k
  unfolding corner_asked face_of corner_of renamed
  corner-placeless face k = rw faces-same (simp (owners_placeless))

  pub why-placeless : (m : Movement) (face at : ℕ) → why_asked (placeless f) m face at ≡ why_asked f m face at
  unfolding why_asked grouped_face_of why_of renamed
  why-placeless m face at = rw (faces-same, grouped_same) (rw (owned_map f.bones))

  pub shown-placeless : (m : Movement) (face at : ℕ) → shown_asked (placeless f) m face at ≡ shown_asked f m face at
  shown-placeless m face at = asked_shown (placeless f) m face at ∙ ap (Option.map is_shown) (why-placeless m face at) ∙ sym (asked_shown f m face at)

  pub label-placeless : (m : Movement) (bone : ℕ) → label_asked (placeless f) m bone ≡ label_asked f m bone
  unfolding label_asked renamed
  label-placeless m bone = rw (names-placeless, length-map f.bones)
