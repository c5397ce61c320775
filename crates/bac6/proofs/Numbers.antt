-- A figure's numbers: how many each list has, and where each stands in the rows.
use mathlib.Core.Path.{◌≡◌, refl, ap, ap₂, ◌∙◌}
use mathlib.Core.List.{List, [], ◌∷◌, ◌++◌, append_assoc}
use Prim.Native.Nat.{ℕ, suc, ◌+◌, ◌*◌}
use native.Mathlib.Omega.{arith}
use lib.ListN.{length, take, drop, replicate, length-append, length-replicate}
use lib.Seq.{take_at, drop_at}
use lib.IntN.{ℤ, pos}
use Rattle.table_rows.specs.Flat.{flat}
use Rattle.parse_rows.proofs.Widths.{Wide, flat-length}
use Rattle.table_counts.specs.declared.counts.FigureCounts.{FigureCounts}
use Rattle.bac6_text.specs.Figure.{Group, Figure}
use Rattle.bac6_text.specs.Rules.{faces_of, figure_counts, flags_of, whole_list, parents_in}
use Rattle.bac6_text.specs.Layout.{layout_of, name_numbers, bone_rows, owners_from, face_rows, group_names}
use Rattle.bac6_text.proofs.Rows.{face_rows_wide, face_rows-length, bones_wide, bones_count}
use Rattle.bac6_text.proofs.Whole.{WholeFigure}
use Rattle.bac6_owners.proofs.Claims.{owners_length}
use Rattle.bac6_shape.specs.Internal.Parse.{row_numbers}
use Rattle.bac6_shape.proofs.Rows.{blank-rows}
use Rattle.bac6_layout.specs.Internal.Places.{materials_from, bones_from, uvs_from, faces_from, rows_end}
use Rattle.bac6.specs.Internal.Places.{total_of}

-- ---- groups

pub groups_wide : (gs : List Group) → Wide 2 (group_names gs)
unfolding group_names name_numbers
groups_wide [] = tt
groups_wide (g ∷ gs) = (refl, groups_wide gs)

pub groups_count : (gs : List Group) → length (group_names gs) ≡ length gs
unfolding group_names
groups_count [] = refl
groups_count (g ∷ gs) = ap suc (groups_count gs)

-- ---- how many numbers

-- a list has so many
record Has (zs : List ℤ) (n : ℕ) : Type 0 where
  long : length zs ≡ n

-- one list more
more : {a b : List ℤ} {m n : ℕ} → Has a m → Has b n → Has (a ++ b) (m + n)
more {a} {b} h k = record { long = length-append a b ∙ ap₂ ◌+◌ h.long k.long }

-- rows of one width
rows : (w n : ℕ) (rs : List (List ℤ)) → Wide w rs → length rs ≡ n → Has (flat rs) (n * w)
rows w n rs h e = record { long = flat-length w rs h ∙ ap (λ (k : ℕ). k * w) e }

module _ (f : Figure) (w : WholeFigure f) where
  abbrev n : FigureCounts
  n = figure_counts f

  -- the rows before the materials, before the bones, and before the faces, by the rows of the bones
  abbrev before : List ℤ
  before = flat f.textures ++ flat f.colours

  abbrev pub front : List ℤ
  front = before ++ flat f.materials ++ flat f.points ++ flat f.normals

  has_before : Has before (materials_from n)
  unfolding figure_counts
  has_before = more (rows 2 (length f.textures) f.textures w.textures refl) (rows 3 (length f.colours) f.colours w.colours refl)

  has_front : Has front (bones_from n)
  unfolding figure_counts
  has_front = more (more (more has_before (rows 9 (length f.materials) f.materials w.materials refl)) (rows 3 (length f.points) f.points w.points refl)) (rows 3 (length f.normals) f.normals w.normals refl)

  module _ (ps : List ℤ) (e : length ps ≡ length f.bones) where
    abbrev boned : List ℤ
    boned = front ++ flat (bone_rows f.bones ps)

    has_boned : Has boned (uvs_from n)
    unfolding figure_counts
    has_boned = more has_front (rows 14 (length f.bones) (bone_rows f.bones ps) (bones_wide f.bones ps w.bones) (bones_count f.bones ps e))

    has_uvs : Has (boned ++ flat f.uvs) (faces_from n)
    unfolding figure_counts
    has_uvs = more has_boned (rows 2 (length f.uvs) f.uvs w.uvs refl)

    has_faces : Has (boned ++ flat f.uvs ++ flat (face_rows f)) (rows_end n)
    unfolding figure_counts
    has_faces = more has_uvs (rows 11 (length (faces_of f)) (face_rows f) (face_rows_wide f) (face_rows-length f))

    -- ---- where they stand

    module _ (rest : List ℤ) where
      abbrev all : List ℤ
      all = (boned ++ flat f.uvs ++ flat (face_rows f)) ++ rest

      -- what stands from the bones on
      abbrev pub after : List ℤ
      after = flat (bone_rows f.bones ps) ++ (flat f.uvs ++ (flat (face_rows f) ++ rest))

      abbrev pub between : List ℤ
      between = flat f.points ++ (flat f.normals ++ after)

      at-materials : all ≡ before ++ (flat f.materials ++ between)
      at-materials = simp append_assoc

      at-bones : all ≡ front ++ after
      at-bones = simp append_assoc

      at-faces : all ≡ (boned ++ flat f.uvs) ++ (flat (face_rows f) ++ rest)
      at-faces = append_assoc (boned ++ flat f.uvs) (flat (face_rows f)) rest

      pub materials-part : drop (materials_from n) all ≡ flat f.materials ++ between
      materials-part = ap (drop (materials_from n)) (at-materials) ∙ drop_at before (flat f.materials ++ between) (materials_from n) has_before.long

      pub bones-part : drop (bones_from n) all ≡ after
      bones-part = ap (drop (bones_from n)) at-bones ∙ drop_at front after (bones_from n) has_front.long

      pub front_part : take (bones_from n) all ≡ front
      front_part = ap (take (bones_from n)) at-bones ∙ take_at front after (bones_from n) has_front.long

      pub faces-part : drop (faces_from n) all ≡ flat (face_rows f) ++ rest
      faces-part = ap (drop (faces_from n)) at-faces ∙ drop_at (boned ++ flat f.uvs) (flat (face_rows f) ++ rest) (faces_from n) has_uvs.long

      -- the two parts that are laid
      at-uvs : front ++ after ≡ boned ++ ((flat f.uvs ++ flat (face_rows f)) ++ rest)
      at-uvs = simp append_assoc

      has_back : Has (flat f.uvs ++ flat (face_rows f)) (n.uvs * 2 + n.faces * 11)
      unfolding figure_counts
      has_back = more (rows 2 (length f.uvs) f.uvs w.uvs refl) (rows 11 (length (faces_of f)) (face_rows f) (face_rows_wide f) (face_rows-length f))

      pub first_part : take (uvs_from n) (front ++ after) ≡ boned
      first_part = ap (take (uvs_from n)) at-uvs ∙ take_at boned _ (uvs_from n) has_boned.long

      pub second_part : take (n.uvs * 2 + n.faces * 11) (drop (uvs_from n) (front ++ after)) ≡ flat f.uvs ++ flat (face_rows f)
      second_part =
          ap (λ (l : List ℤ). take (n.uvs * 2 + n.faces * 11) (drop (uvs_from n) l)) at-uvs
          ∙ ap (take (n.uvs * 2 + n.faces * 11)) (drop_at boned ((flat f.uvs ++ flat (face_rows f)) ++ rest) (uvs_from n) has_boned.long)
          ∙ take_at (flat f.uvs ++ flat (face_rows f)) rest (n.uvs * 2 + n.faces * 11) has_back.long

  -- the rows as parsing has them: each bone's parent is 0
  abbrev pub zeros : List ℤ
  zeros = replicate (length f.bones) (pos 0)

  pub zeros_count : length zeros ≡ length f.bones
  zeros_count = length-replicate (length f.bones) (pos 0)

  pub rows_same : row_numbers f ≡ front ++ flat (bone_rows f.bones zeros) ++ flat f.uvs ++ flat (face_rows f)
  unfolding row_numbers
  rows_same = rw (blank-rows f.bones)

  pub rows-length : length (row_numbers f) ≡ rows_end n
  rows-length = ap length rows_same ∙ (has_faces zeros zeros_count).long

  -- ---- the layout

  abbrev pub parents : List ℤ
  parents = parents_in (whole_list (flags_of f.bones))

  pub layout_parts : layout_of f ≡ name_numbers f.name ++ (front ++ flat (bone_rows f.bones parents)) ++ owners_from f.bones 0 (length f.points) ++ (flat f.uvs ++ flat (face_rows f)) ++ flat (group_names f.groups)
  unfolding layout_of
  layout_parts = simp append_assoc

  pub layout_length : length parents ≡ length f.bones → total_of n ≡ length (layout_of f)
  unfolding figure_counts name_numbers
  layout_length e =
      let name : Has (name_numbers f.name) 2 = record { long = refl } in
      let owners : Has (owners_from f.bones 0 (length f.points)) (length f.points) = record { long = owners_length f.bones 0 (length f.points) } in
      let groups = rows 2 (length f.groups) (group_names f.groups) (groups_wide f.groups) (groups_count f.groups) in
      let total = (more (more (more (more name (has_boned parents e)) owners) (has_back parents e [])) groups).long in
      omega (arith, total, ap length layout_parts)
