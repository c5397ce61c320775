-- Name places make no difference to a movement's rules, counts, names and answers: each reads the lists of `placeless m` as it reads those of m, by induction on bones.
use mathlib.Core.Path.{◌≡◌, refl, ap}
use mathlib.Core.List.{List, [], ◌∷◌, ◌++◌, map}
use Prim.Native.Nat.{ℕ, ◌+◌}
use native.Mathlib.Omega.{arith}
use lib.IntN.{ℤ}
use lib.ListN.{length, length-append, length-map}
use Rattle.parse_spec.specs.Places.{name_numbers}
use Rattle.parse_alike.specs.Internal.Placeless.{placeless_name}
use Rattle.table_rows.specs.Flat.{flat}
use Rattle.bac6_text.specs.Figure.{Figure}
use Rattle.tra4_text.specs.Movement.{Bone, Movement}
use Rattle.tra4_text.specs.Rules.{channels_of, all_keys, key_rows, movement_counts, counts_of, movement_fault}
use Rattle.tra4_text.specs.Layout.{key_ranges, bone_row, bone_rows, layout_of}
use Rattle.tra4_alike.specs.Renamed.{renamed_bone, renamed}
use Rattle.tra4_alike.specs.Internal.Placeless.{placeless_bone, placeless}
use Rattle.pair_text.specs.Rules.{movement_names, pair_fault}
use Rattle.movement_bridge.specs.Counts.{channel_of}
use Rattle.pair_bridge.specs.Playing.{frames_of, sample_asked, shown_asked, why_asked, label_asked}

-- ---- bones

channels-placeless : (bs : List Bone) → channels_of (map placeless_bone bs) ≡ channels_of bs
unfolding channels_of renamed_bone
channels-placeless [] = refl
channels-placeless (b ∷ bs) = ap (◌++◌ b.channels) (channels-placeless bs)

channels-map : (bs : List Bone) → map (λ (b : Bone). b.channels) (map placeless_bone bs) ≡ map (λ (b : Bone). b.channels) bs
unfolding renamed_bone
channels-map [] = refl
channels-map (b ∷ bs) = ap (◌∷◌ b.channels) (channels-map bs)

bytes-placeless : (bs : List Bone) → map (λ (b : Bone). b.name.bytes) (map placeless_bone bs) ≡ map (λ (b : Bone). b.name.bytes) bs
unfolding renamed_bone placeless_name
bytes-placeless [] = refl
bytes-placeless (b ∷ bs) = ap (◌∷◌ b.name.bytes) (bytes-placeless bs)

rows_long : (row : ℕ) (bs : List Bone) → length (flat (bone_rows row (map placeless_bone bs))) ≡ length (flat (bone_rows row bs))
unfolding bone_rows bone_row flat renamed_bone name_numbers
rows_long row [] = refl
rows_long row (b ∷ bs) =
    let n = row + length (all_keys b.channels) in
    let h = rows_long n bs in
    let x = length-append (key_ranges row b.channels) (flat (bone_rows n (map placeless_bone bs))) in
    let y = length-append (key_ranges row b.channels) (flat (bone_rows n bs)) in
    omega arith

-- ---- a movement

-- parts one after the other, of which two may be others of their length
parts_long : (a a' b b' k p : List ℤ) → length a' ≡ length a → length b' ≡ length b → length (a' ++ b' ++ k ++ p) ≡ length (a ++ b ++ k ++ p)
parts_long a a' b b' k p ea eb = simp length-append (omega arith)

module _ (m : Movement) where
  pub keys-placeless : key_rows (placeless m) ≡ key_rows m
  unfolding key_rows renamed
  keys-placeless = ap all_keys (channels-placeless m.bones)

  pub counts-placeless : movement_counts (placeless m) ≡ movement_counts m
  unfolding movement_counts renamed
  counts-placeless = rw (keys-placeless, length-map m.bones)

  pub fault-placeless : movement_fault (placeless m) ≡ movement_fault m
  unfolding movement_fault counts_of renamed
  fault-placeless = rw (counts-placeless, channels-placeless m.bones)

  pub names-placeless : movement_names (placeless m) ≡ movement_names m
  unfolding movement_names renamed
  names-placeless = bytes-placeless m.bones

  pub pair-placeless : (names : List (List ℕ)) (groups : ℕ) → pair_fault names groups (placeless m) ≡ pair_fault names groups m
  unfolding pair_fault renamed
  pair-placeless names groups = rw (names-placeless, length-map m.bones)

  pub long_placeless : length (layout_of (placeless m)) ≡ length (layout_of m)
  unfolding layout_of renamed name_numbers
  long_placeless =
      rw keys-placeless
      (parts_long (m.total_frames ∷ name_numbers m.name) (m.total_frames ∷ name_numbers (placeless_name m.name)) (flat (bone_rows 0 m.bones)) (flat (bone_rows 0 (map placeless_bone m.bones))) (flat (key_rows m)) (flat m.patterns)
      refl (rows_long 0 m.bones))

  -- ---- answers

  pub sample-placeless : (bone channel at : ℕ) → sample_asked (placeless m) bone channel at ≡ sample_asked m bone channel at
  unfolding sample_asked channel_of frames_of renamed
  sample-placeless bone channel at = rw (channels-map m.bones, length-map m.bones)

  pub why-placeless : (f : Figure) (face at : ℕ) → why_asked f (placeless m) face at ≡ why_asked f m face at
  unfolding why_asked frames_of renamed
  why-placeless f face at = refl

  pub shown-placeless : (f : Figure) (face at : ℕ) → shown_asked f (placeless m) face at ≡ shown_asked f m face at
  unfolding shown_asked frames_of renamed
  shown-placeless f face at = refl

  pub label-placeless : (f : Figure) (bone : ℕ) → label_asked f (placeless m) bone ≡ label_asked f m bone
  unfolding label_asked renamed
  label-placeless f bone = rw (names-placeless, length-map m.bones)
