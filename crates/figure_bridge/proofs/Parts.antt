-- Where points, bones, owners, uvs and faces stand in a figure's table: each part of the layout comes after those before it, which are as long as their rows and columns say.
use mathlib.Core.Path.{◌≡◌, refl, ap, ◌∙◌}
use mathlib.Core.List.{List, [], ◌∷◌, ◌++◌, append_assoc}
use Prim.Native.Nat.{ℕ, zero, suc, ◌+◌, ◌*◌, ◌<◌}
use native.Mathlib.Nat.{zero-add}
use native.Mathlib.Omega.{arith}
use lib.IntN.{ℤ, pos}
use lib.ListN.{length, get_or, length-append, get_or-append}
use lib.Seq.{get_or-append-add}
use Rattle.table_rows.specs.Flat.{flat}
use Rattle.parse_rows.proofs.Widths.{Wide, flat-length}
use Rattle.bac6_text.specs.Figure.{Bone, Group, Figure}
use Rattle.bac6_text.specs.Rules.{faces_of, flags_of, parents_in, whole_list, owner_of}
use Rattle.bac6_text.specs.Layout.{layout_of, name_numbers, bone_rows, owners_from, face_rows, group_names}
use Rattle.bac6_text.proofs.Whole.{WholeFigure}
use Rattle.bac6_text.proofs.Rows.{bones_wide, bones_count, face_rows_wide, face_rows-length}
use Rattle.table_counts.specs.declared.counts.FigureCounts.{FigureCounts}
use Rattle.table_figure.specs.Sections.{points_begin, bones_begin, owners_begin, uvs_begin, faces_begin, groups_begin, figure_end}
use Rattle.table_columns.specs.Parts.{number_at}
use Rattle.movement_bridge.proofs.Laid.{Laid}

-- a figure's counts
abbrev pub counts : Figure → FigureCounts
counts f =
    record { textures = length f.textures; colours = length f.colours; materials = length f.materials; points = length f.points; normals = length f.normals; bones = length f.bones; uvs = length f.uvs; faces = length (faces_of f); groups = length f.groups }

-- ---- lists one after the other, and those before one of them

module _ (a p n h o u f g rest : List ℤ) where
  before-points : (a ++ p ++ n ++ h ++ o ++ u ++ f ++ g) ++ rest ≡ a ++ (p ++ (n ++ h ++ o ++ u ++ f ++ g ++ rest))
  before-points = simp append_assoc

  before-bones : (a ++ p ++ n ++ h ++ o ++ u ++ f ++ g) ++ rest ≡ (a ++ p ++ n) ++ (h ++ (o ++ u ++ f ++ g ++ rest))
  before-bones = simp append_assoc

  before_owners : (a ++ p ++ n ++ h ++ o ++ u ++ f ++ g) ++ rest ≡ (a ++ p ++ n ++ h) ++ (o ++ (u ++ f ++ g ++ rest))
  before_owners = simp append_assoc

  before-uvs : (a ++ p ++ n ++ h ++ o ++ u ++ f ++ g) ++ rest ≡ (a ++ p ++ n ++ h ++ o) ++ (u ++ (f ++ g ++ rest))
  before-uvs = simp append_assoc

  before-faces : (a ++ p ++ n ++ h ++ o ++ u ++ f ++ g) ++ rest ≡ (a ++ p ++ n ++ h ++ o ++ u) ++ (f ++ (g ++ rest))
  before-faces = simp append_assoc

  before-groups : (a ++ p ++ n ++ h ++ o ++ u ++ f ++ g) ++ rest ≡ (a ++ p ++ n ++ h ++ o ++ u ++ f) ++ (g ++ rest)
  before-groups = simp append_assoc

-- ---- owners

owners_length : (bs : List Bone) (i n : ℕ) → length (owners_from bs i n) ≡ n
unfolding owners_from
owners_length bs i zero = refl
owners_length bs i (suc n) = ap suc (owners_length bs (suc i) n)

owner_at_lem : (bs : List Bone) (i n k : ℕ) → k < n → get_or (owners_from bs i n) k (pos 0) ≡ owner_of bs (pos (i + k))
unfolding owners_from
owner_at_lem bs i zero k h = absurd (omega arith)
owner_at_lem bs i (suc n) zero h = let e : i + 0 ≡ i = omega arith in rw e
owner_at_lem bs i (suc n) (suc k) h = let e : i + suc k ≡ suc i + k = omega arith in rw e (owner_at_lem bs (suc i) n k (omega arith))

pub names_wide : (gs : List Group) → Wide 2 (group_names gs)
unfolding group_names name_numbers
names_wide [] = tt
names_wide (g ∷ gs) = (refl, names_wide gs)

pub names_count : (gs : List Group) → length (group_names gs) ≡ length gs
unfolding group_names
names_count [] = refl
names_count (g ∷ gs) = ap suc (names_count gs)

-- ---- the parts

number-after : (front zs rest : List ℤ) (i k : ℕ) → i ≡ length front → k < length zs → number_at (front ++ (zs ++ rest)) (i + k) ≡ get_or zs k (pos 0)
unfolding number_at
number-after front zs rest i k e h = rw e (get_or-append-add front (zs ++ rest) k (pos 0) ∙ get_or-append zs rest (pos 0) k h)

module _ (f : Figure) (w : WholeFigure f) (parents : length (parents_in (whole_list (flags_of f.bones))) ≡ length f.bones) where
  abbrev bones : List ℤ
  bones = flat (bone_rows f.bones (parents_in (whole_list (flags_of f.bones))))

  abbrev owners : List ℤ
  owners = owners_from f.bones 0 (length f.points)

  -- what stands before points, bones, owners, uvs and faces
  abbrev to_points : List ℤ
  to_points = name_numbers f.name ++ flat f.textures ++ flat f.colours ++ flat f.materials

  abbrev to_bones : List ℤ
  to_bones = to_points ++ flat f.points ++ flat f.normals

  abbrev to_owners : List ℤ
  to_owners = to_bones ++ bones

  abbrev to_uvs : List ℤ
  to_uvs = to_owners ++ owners

  abbrev to_faces : List ℤ
  to_faces = to_uvs ++ flat f.uvs

  bones_long : length bones ≡ length f.bones * 14
  bones_long = flat-length 14 _ (bones_wide f.bones _ w.bones) ∙ ap (λ (n : ℕ). n * 14) (bones_count f.bones _ parents)

  faces_long : length (flat (face_rows f)) ≡ length (faces_of f) * 11
  faces_long = flat-length 11 (face_rows f) (face_rows_wide f) ∙ ap (λ (n : ℕ). n * 11) (face_rows-length f)

  points_front : points_begin (counts f) ≡ length to_points
  unfolding points_begin name_numbers
  points_front =
      let t = flat-length 2 f.textures w.textures in
      let c = flat-length 3 f.colours w.colours in
      let m = flat-length 9 f.materials w.materials in
      simp length-append (omega arith)

  pub bones_front : bones_begin (counts f) ≡ length to_bones
  unfolding bones_begin
  bones_front =
      let b = points_front in
      let p = flat-length 3 f.points w.points in
      let n = flat-length 3 f.normals w.normals in
      rw (length-append (to_points ++ flat f.points) (flat f.normals), length-append to_points (flat f.points)) (omega arith)

  owners_front : owners_begin (counts f) ≡ length to_owners
  unfolding owners_begin
  owners_front =
      let b = bones_front in
      let s = bones_long in
      rw (length-append to_bones bones) (omega arith)

  uvs_front : uvs_begin (counts f) ≡ length to_uvs
  unfolding uvs_begin
  uvs_front =
      let b = owners_front in
      let o = owners_length f.bones 0 (length f.points) in
      rw (length-append to_owners owners) (omega arith)

  faces_front : faces_begin (counts f) ≡ length to_faces
  unfolding faces_begin
  faces_front =
      let b = uvs_front in
      let u = flat-length 2 f.uvs w.uvs in
      rw (length-append to_uvs (flat f.uvs)) (omega arith)

  pub groups_front : groups_begin (counts f) ≡ length (to_faces ++ flat (face_rows f))
  unfolding groups_begin
  groups_front =
      let b = faces_front in
      let r = faces_long in
      rw (length-append to_faces (flat (face_rows f))) (omega arith)

  pub figure_long : figure_end (counts f) ≡ length (layout_of f)
  unfolding figure_end layout_of
  figure_long =
      let b = groups_front in
      let g = flat-length 2 (group_names f.groups) (names_wide f.groups) in
      let c = names_count f.groups in
      rw (length-append (to_faces ++ flat (face_rows f)) (flat (group_names f.groups))) (omega arith)

  module _ (rest : List ℤ) where
    pub points_stand : Laid f.points (points_begin (counts f)) (layout_of f ++ rest)
    unfolding layout_of
    points_stand = record { front = to_points; rest = _; here = before-points to_points (flat f.points) (flat f.normals) bones owners (flat f.uvs) (flat (face_rows f)) (flat (group_names f.groups)) rest; begins = points_front }

    pub bones_stand : Laid (bone_rows f.bones (parents_in (whole_list (flags_of f.bones)))) (bones_begin (counts f)) (layout_of f ++ rest)
    unfolding layout_of
    bones_stand = record { front = to_bones; rest = _; here = before-bones to_points (flat f.points) (flat f.normals) bones owners (flat f.uvs) (flat (face_rows f)) (flat (group_names f.groups)) rest; begins = bones_front }

    pub uvs_stand : Laid f.uvs (uvs_begin (counts f)) (layout_of f ++ rest)
    unfolding layout_of
    uvs_stand = record { front = to_uvs; rest = _; here = before-uvs to_points (flat f.points) (flat f.normals) bones owners (flat f.uvs) (flat (face_rows f)) (flat (group_names f.groups)) rest; begins = uvs_front }

    pub faces_stand : Laid (face_rows f) (faces_begin (counts f)) (layout_of f ++ rest)
    unfolding layout_of
    faces_stand = record { front = to_faces; rest = _; here = before-faces to_points (flat f.points) (flat f.normals) bones owners (flat f.uvs) (flat (face_rows f)) (flat (group_names f.groups)) rest; begins = faces_front }

    pub groups_stand : Laid (group_names f.groups) (groups_begin (counts f)) (layout_of f ++ rest)
    unfolding layout_of
    groups_stand = record { front = to_faces ++ flat (face_rows f); rest = rest; here = before-groups to_points (flat f.points) (flat f.normals) bones owners (flat f.uvs) (flat (face_rows f)) (flat (group_names f.groups)) rest; begins = groups_front }

    pub owner_stands : (k : ℕ) → k < length f.points → number_at (layout_of f ++ rest) (owners_begin (counts f) + k) ≡ owner_of f.bones (pos k)
    unfolding layout_of
    owner_stands k h =
        let o = owners_length f.bones 0 (length f.points) in
        ap (λ (t : List ℤ). number_at t (owners_begin (counts f) + k)) (before_owners to_points (flat f.points) (flat f.normals) bones owners (flat f.uvs) (flat (face_rows f)) (flat (group_names f.groups)) rest)
        ∙ number-after to_owners owners (flat f.uvs ++ flat (face_rows f) ++ flat (group_names f.groups) ++ rest) (owners_begin (counts f)) k owners_front (omega arith)
        ∙ owner_at_lem f.bones 0 (length f.points) k h
        ∙ ap (λ (n : ℕ). owner_of f.bones (pos n)) (zero-add k)
