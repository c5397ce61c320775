-- The rows of a whole movement: how wide and how many they are, and so the numbers of its layout; by induction on bones and channels.
use mathlib.Core.Path.{◌≡◌, refl, ap, sym, ◌∙◌}
use mathlib.Core.List.{List, [], ◌∷◌, ◌++◌, append_assoc}
use Prim.Native.Nat.{ℕ, ◌+◌, ◌*◌}
use native.Mathlib.Omega.{arith}
use lib.ListN.{length, length-append}
use Rattle.table_rows.specs.Flat.{flat}
use Rattle.parse_spec.proofs.Given.{Every}
use Rattle.parse_rows.proofs.Widths.{Wide, wide_append, flat-length}
use Rattle.tra4_text.specs.Movement.{Key, Channel, Bone, Movement}
use Rattle.tra4_text.specs.Rules.{all_keys, channels_of, key_rows}
use Rattle.tra4_text.specs.Layout.{name_numbers, key_ranges, bone_row, bone_rows, layout_of}
use Rattle.tra4_text.proofs.Whole.{WholeBone, WholeMovement}

-- ---- the keys of channels

pub keys-append : (a b : List Channel) → all_keys (a ++ b) ≡ all_keys a ++ all_keys b
unfolding all_keys
keys-append [] b = refl
keys-append (c ∷ a) b = ap (λ (l : List Key). c ++ l) (keys-append a b) ∙ sym (append_assoc c (all_keys a) (all_keys b))

pub keys_wide : (cs : List Channel) → Every (Wide 2) cs → Wide 2 (all_keys cs)
unfolding all_keys
keys_wide [] h = tt
keys_wide (c ∷ cs) h = wide_append 2 c (all_keys cs) h.0 (keys_wide cs h.1)

pub all_wide : (bs : List Bone) → Every WholeBone bs → Wide 2 (all_keys (channels_of bs))
unfolding channels_of all_keys
all_wide [] h = tt
all_wide (b ∷ bs) h = rw (keys-append b.channels (channels_of bs)) (wide_append 2 (all_keys b.channels) (all_keys (channels_of bs)) (keys_wide b.channels h.0.keys) (all_wide bs h.1))

-- ---- the rows of bones

pub ranges_length : (row : ℕ) (cs : List Channel) → length (key_ranges row cs) ≡ length cs * 2
unfolding key_ranges
ranges_length row [] = refl
ranges_length row (c ∷ cs) = omega (arith, ranges_length (row + length c) cs)

pub row-length : (row : ℕ) (b : Bone) → WholeBone b → length (bone_row row b) ≡ 22
unfolding bone_row name_numbers
row-length row b w = omega (arith, ranges_length row b.channels, w.ten)

pub rows_wide : (row : ℕ) (bs : List Bone) → Every WholeBone bs → Wide 22 (bone_rows row bs)
unfolding bone_rows
rows_wide row [] h = tt
rows_wide row (b ∷ bs) h = (row-length row b h.0, rows_wide (row + length (all_keys b.channels)) bs h.1)

pub rows_count : (row : ℕ) (bs : List Bone) → length (bone_rows row bs) ≡ length bs
unfolding bone_rows
rows_count row [] = refl
rows_count row (b ∷ bs) = let h = rows_count (row + length (all_keys b.channels)) bs in omega arith

-- ---- all numbers

pub layout_length : (m : Movement) → WholeMovement m → length (layout_of m) ≡ 3 + length m.bones * 22 + length (key_rows m) * 2 + length m.patterns * 3
unfolding layout_of name_numbers key_rows
layout_length m w =
    rw (length-append ((m.total_frames ∷ name_numbers m.name) ++ flat (bone_rows 0 m.bones) ++ flat (key_rows m)) (flat m.patterns), length-append ((m.total_frames ∷ name_numbers m.name) ++ flat (bone_rows 0 m.bones)) (flat (key_rows m)), length-append (m.total_frames ∷ name_numbers m.name) (flat (bone_rows 0 m.bones)), flat-length 22 (bone_rows 0 m.bones) (rows_wide 0 m.bones w.bones), rows_count 0 m.bones, flat-length 2 (key_rows m) (all_wide m.bones w.bones), flat-length 3 m.patterns w.patterns)
