-- A movement's numbers differ from those without name places at places alone: part by part of the layout, and row by row in bones.
use mathlib.Core.Path.{◌≡◌, refl}
use mathlib.Core.List.{List, [], ◌∷◌, map}
use mathlib.Core.Bool.{true}
use Prim.Native.Nat.{ℕ, ◌+◌}
use lib.ListN.{length}
use Rattle.text_bytes.specs.Internal.Every.{Every}
use Rattle.parse_spec.specs.Places.{name_numbers}
use Rattle.parse_alike.specs.Internal.Placeless.{placeless_name}
use Rattle.table_rows.specs.Flat.{flat}
use Rattle.tra4_text.specs.Movement.{Bone, Movement}
use Rattle.tra4_text.specs.Rules.{all_keys, key_rows, movement_counts}
use Rattle.tra4_text.specs.Layout.{key_ranges, bone_row, bone_rows, layout_of}
use Rattle.tra4_text.proofs.Whole.{WholeBone, WholeMovement}
use Rattle.tra4_text.proofs.Layouts.{row-length}
use Rattle.tra4_alike.specs.Renamed.{renamed_bone, renamed}
use Rattle.tra4_alike.specs.Internal.Placeless.{placeless_bone, placeless}
use Rattle.table_contents.specs.Contents.{steps_from, movement_places, is_place}
use Rattle.table_contents.proofs.Places.{AllPlaces, places_before, own_places}
use Rattle.table_contents.proofs.Numbers.{Same, same_parts, same-before}
use Rattle.contents_laws.proofs.NameNumbers.{name-same}
use Rattle.contents_laws.proofs.MovementLists.{keys-placeless}

-- ---- rows

module _ (places : List ℕ) where
  row_same : (i row : ℕ) (b : Bone) → is_place places i ≡ true → Same places i (bone_row row (placeless_bone b)) (bone_row row b)
  unfolding bone_row renamed_bone
  row_same i row b h = same-before places i (name_numbers (placeless_name b.name)) (name_numbers b.name) (key_ranges row b.channels) (name-same places i b.name h)

  rows_same : (i row : ℕ) (bs : List Bone) → Every WholeBone bs → AllPlaces places (steps_from i 22 (length bs)) → Same places i (flat (bone_rows row (map placeless_bone bs))) (flat (bone_rows row bs))
  unfolding bone_rows flat steps_from renamed_bone
  rows_same i row [] w h = refl
  rows_same i row (b ∷ bs) w h =
      let n = row + length (all_keys b.channels) in
      same_parts places i (bone_row row (placeless_bone b)) (bone_row row b) (flat (bone_rows n (map placeless_bone bs))) (flat (bone_rows n bs)) (row_same i row b h.0)
      (rw (row-length row b w.0) (rows_same (i + 22) n bs w.1 h.1))

-- ---- a movement

module _ (m : Movement) (w : WholeMovement m) where
  abbrev bone_places : List ℕ
  bone_places = steps_from 3 22 (length m.bones)

  abbrev places : List ℕ
  places = 1 ∷ bone_places

  own-placed : is_place places 1 ≡ true
  unfolding is_place
  own-placed = refl

  bones-placed : AllPlaces places bone_places
  bones-placed = places_before (1 ∷ []) bone_places bone_places (own_places bone_places)

  lead_same : Same places 0 (m.total_frames ∷ name_numbers (placeless_name m.name)) (m.total_frames ∷ name_numbers m.name)
  lead_same = same_parts places 0 (m.total_frames ∷ []) (m.total_frames ∷ []) (name_numbers (placeless_name m.name)) (name_numbers m.name) refl (name-same places 1 m.name own-placed)

  pub numbers-same : Same (movement_places (movement_counts m)) 0 (layout_of (placeless m)) (layout_of m)
  unfolding layout_of renamed renamed_bone movement_places movement_counts name_numbers
  numbers-same =
      rw (keys-placeless m)
      (same-before places 0 _ _ (flat m.patterns)
      (same-before places 0 _ _ (flat (key_rows m))
      (same_parts places 0 (m.total_frames ∷ name_numbers (placeless_name m.name)) (m.total_frames ∷ name_numbers m.name) (flat (bone_rows 0 (map placeless_bone m.bones))) (flat (bone_rows 0 m.bones))
      lead_same (rows_same places 3 0 m.bones w.bones bones-placed))))
