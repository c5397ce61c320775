-- A figure's numbers differ from those without name places at places alone: part by part of the layout, and row by row in bones and groups.
use mathlib.Core.Path.{◌≡◌, refl}
use mathlib.Core.List.{List, [], ◌∷◌, ◌++◌, map}
use mathlib.Core.Bool.{true}
use Prim.Native.Nat.{ℕ, ◌+◌}
use native.Mathlib.Nat.{zero-add}
use native.Mathlib.Omega.{arith}
use lib.IntN.{ℤ}
use lib.ListN.{length}
use Rattle.parse_spec.specs.Places.{name_numbers}
use Rattle.parse_alike.specs.Internal.Placeless.{placeless_name}
use Rattle.table_rows.specs.Flat.{flat}
use Rattle.bac6_text.specs.Figure.{Bone, Group, Figure}
use Rattle.bac6_text.specs.Rules.{flags_of, whole_list, parents_in, figure_counts}
use Rattle.bac6_text.specs.Layout.{bone_row, bone_rows, owners_from, face_rows, group_names, layout_of}
use Rattle.bac6_text.proofs.Whole.{WholeBone, WholeBones, WholeFigure}
use Rattle.bac6_text.proofs.Rows.{nine, nine_length, bone_wide}
use Rattle.bac6_alike.specs.Renamed.{renamed_bone, renamed_group, renamed}
use Rattle.bac6_alike.specs.Internal.Placeless.{placeless_bone, placeless_group, placeless}
use Rattle.table_figure.specs.Sections.{bones_begin, groups_begin}
use Rattle.table_contents.specs.Contents.{steps_from, figure_places, is_place}
use Rattle.table_contents.proofs.Places.{AllPlaces, places_before, places_after, own_places}
use Rattle.table_contents.proofs.Numbers.{Same, same_parts, same-before}
use Rattle.figure_bridge.proofs.Parts.{counts, bones_front, groups_front}
use Rattle.contents_laws.proofs.NameNumbers.{name-same}
use Rattle.contents_laws.proofs.FigureLists.{flags_placeless, rows_owned, face_rows-same}

-- ---- rows

module _ (places : List ℕ) where
  row_same : (i : ℕ) (b : Bone) (p : ℤ) → WholeBone b → is_place places (i + 12) ≡ true → Same places i (bone_row (placeless_bone b) p) (bone_row b p)
  unfolding bone_row renamed_bone
  row_same i b p w h =
      let three : List ℤ = b.child ∷ b.brother ∷ p ∷ [] in
      let l = nine_length b w in
      let e : i + length (nine b) + 3 ≡ i + 12 = omega arith in
      same_parts places i (nine b) (nine b) (three ++ name_numbers (placeless_name b.name)) (three ++ name_numbers b.name) refl
      (same_parts places (i + length (nine b)) three three (name_numbers (placeless_name b.name)) (name_numbers b.name) refl
      (name-same places (i + length (nine b) + 3) b.name (rw e h)))

  rows_same : (i : ℕ) (bs : List Bone) (ps : List ℤ) → WholeBones bs → AllPlaces places (steps_from (i + 12) 14 (length bs)) → Same places i (flat (bone_rows (map placeless_bone bs) ps)) (flat (bone_rows bs ps))
  unfolding bone_rows flat steps_from
  rows_same i [] ps w h = refl
  rows_same i (b ∷ bs) [] w h = refl
  rows_same i (b ∷ bs) (p ∷ ps) w h =
      let e : i + 12 + 14 ≡ i + 14 + 12 = omega arith in
      same_parts places i (bone_row (placeless_bone b) p) (bone_row b p) (flat (bone_rows (map placeless_bone bs) ps)) (flat (bone_rows bs ps)) (row_same i b p w.0 h.0)
      (rw (bone_wide b w.0 p) (rows_same (i + 14) bs ps w.1 (rw e at h.1)))

  groups-same : (i : ℕ) (gs : List Group) → AllPlaces places (steps_from i 2 (length gs)) → Same places i (flat (group_names (map placeless_group gs))) (flat (group_names gs))
  unfolding group_names flat steps_from renamed_group name_numbers
  groups-same i [] h = refl
  groups-same i (g ∷ gs) h =
      same_parts places i (name_numbers (placeless_name g.name)) (name_numbers g.name) (flat (group_names (map placeless_group gs))) (flat (group_names gs))
      (name-same places i g.name h.0) (groups-same (i + 2) gs h.1)

-- ---- parts one after the other, of which the names, the bones and the groups may differ

module _ (places : List ℕ) (a a' t c m p n b b' o u r g g' : List ℤ) where
  parts_same : Same places 0 a' a → Same places (length (a ++ t ++ c ++ m ++ p ++ n)) b' b → Same places (length (a ++ t ++ c ++ m ++ p ++ n ++ b ++ o ++ u ++ r)) g' g
      → Same places 0 (a' ++ t ++ c ++ m ++ p ++ n ++ b' ++ o ++ u ++ r ++ g') (a ++ t ++ c ++ m ++ p ++ n ++ b ++ o ++ u ++ r ++ g)
  parts_same ea eb eg =
      let x = zero-add (length (a ++ t ++ c ++ m ++ p ++ n)) in
      let y = zero-add (length (a ++ t ++ c ++ m ++ p ++ n ++ b ++ o ++ u ++ r)) in
      let to_bones : Same places 0 (a' ++ t ++ c ++ m ++ p ++ n) (a ++ t ++ c ++ m ++ p ++ n) =
      same-before places 0 _ _ n (same-before places 0 _ _ p (same-before places 0 _ _ m (same-before places 0 _ _ c (same-before places 0 a' a t ea)))) in
      let to-groups : Same places 0 (a' ++ t ++ c ++ m ++ p ++ n ++ b' ++ o ++ u ++ r) (a ++ t ++ c ++ m ++ p ++ n ++ b ++ o ++ u ++ r) =
      same-before places 0 _ _ r (same-before places 0 _ _ u (same-before places 0 _ _ o (same_parts places 0 _ _ b' b to_bones (rw x eb)))) in
      same_parts places 0 _ _ g' g to-groups (rw y eg)

module _ (f : Figure) (w : WholeFigure f) (parents : length (parents_in (whole_list (flags_of f.bones))) ≡ length f.bones) where
  abbrev places : List ℕ
  places = figure_places (counts f)

  abbrev bone_places : List ℕ
  bone_places = steps_from (bones_begin (counts f) + 12) 14 (length f.bones)

  abbrev group_places : List ℕ
  group_places = steps_from (groups_begin (counts f)) 2 (length f.groups)

  bones-placed : AllPlaces places bone_places
  unfolding figure_places
  bones-placed = places_before (0 ∷ []) (bone_places ++ group_places) bone_places (places_after bone_places group_places bone_places (own_places bone_places))

  groups-placed : AllPlaces places group_places
  unfolding figure_places
  groups-placed = places_before (0 ∷ bone_places) group_places group_places (own_places group_places)

  own-placed : is_place places 0 ≡ true
  unfolding figure_places is_place
  own-placed = refl

  pub numbers-same : Same (figure_places (figure_counts f)) 0 (layout_of (placeless f)) (layout_of f)
  unfolding layout_of renamed figure_counts
  numbers-same =
      rw (flags_placeless f.bones, rows_owned f.bones 0 (length f.points), face_rows-same f)
      (parts_same places (name_numbers f.name) (name_numbers (placeless_name f.name)) (flat f.textures) (flat f.colours) (flat f.materials) (flat f.points) (flat f.normals) (flat (bone_rows f.bones (parents_in (whole_list (flags_of f.bones))))) (flat (bone_rows (map placeless_bone f.bones) (parents_in (whole_list (flags_of f.bones)))))
      (owners_from f.bones 0 (length f.points)) (flat f.uvs) (flat (face_rows f)) (flat (group_names f.groups)) (flat (group_names (map placeless_group f.groups)))
      (name-same places 0 f.name own-placed)
      (rw (← (bones_front f w parents)) (rows_same places (bones_begin (counts f)) f.bones (parents_in (whole_list (flags_of f.bones))) w.bones bones-placed))
      (rw (← (groups_front f w parents)) (groups-same places (groups_begin (counts f)) f.groups groups-placed)))
