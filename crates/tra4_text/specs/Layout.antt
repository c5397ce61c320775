-- A movement's numbers in document 01's columns, lists without gaps.
use Rattle.std.specs.Prelude.{List, [], ◌∷◌, ◌++◌, ℕ, zero, suc, ◌+◌, length, ℤ, pos}
unfoldable pub use Rattle.parse_spec.specs.Places.{name_numbers}
use Rattle.table_rows.specs.Flat.{flat}
use Rattle.tra4_text.specs.Movement.{Channel, Bone, Movement}
use Rattle.tra4_text.specs.Rules.{all_keys, key_rows}

-- the first row of so many keys that stand from a row on; of none it is 0
unfoldable pub first_row : ℕ → ℕ → ℕ
first_row row zero = 0
first_row row (suc count) = row

-- each channel's first key row and key count, both 0 of a channel that is left out, where the keys begin at a row and count on from channel to channel
unfoldable pub key_ranges : ℕ → List Channel → List ℤ
key_ranges row [] = []
key_ranges row (c ∷ cs) = pos (first_row row (length c)) ∷ pos (length c) ∷ key_ranges (row + length c) cs

unfoldable pub bone_row : ℕ → Bone → List ℤ
bone_row row b = name_numbers b.name ++ key_ranges row b.channels

unfoldable pub bone_rows : ℕ → List Bone → List (List ℤ)
bone_rows row [] = []
bone_rows row (b ∷ bs) = bone_row row b ∷ bone_rows (row + length (all_keys b.channels)) bs

unfoldable pub layout_of : Movement → List ℤ
layout_of m = (m.total_frames ∷ name_numbers m.name) ++ flat (bone_rows 0 m.bones) ++ flat (key_rows m) ++ flat m.patterns
