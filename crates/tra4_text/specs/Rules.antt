-- The rules 8 and 14 to 16 of a movement, each with its place (document 01, "Refusal numbers").
use Rattle.std.specs.Prelude.{List, [], ◌∷◌, ◌++◌, Bool, true, false, cond, ◌&&◌, ◌||◌, ℕ, suc, ◌+◌, eqb, length, ℤ, pos, negsuc}
use Rattle.std.proofs.Math.Option.{Option, none, some}
use Rattle.std.specs.Int.Signed.{lt_z, le_z}
use Rattle.refusal.specs.Faults.{Fault, clear, fault}
use Rattle.refusal.specs.FirstBad.{first_bad}
use Rattle.refusal.specs.Rules.{or_else, too_many}
use Rattle.tra4_text.specs.Movement.{Key, Channel, Pattern, frame_of, group_of, Bone, Movement}
use Rattle.table_counts.specs.declared.counts.MovementCounts.{MovementCounts}
use Rattle.table_counts.specs.Counts.{movement_lists, movement_mosts}

-- every channel, by bone and then channel number
unfoldable pub channels_of : List Bone → List Channel
channels_of [] = []
channels_of (b ∷ bs) = b.channels ++ channels_of bs

-- the keys of some channels; those of all channels are the key rows
unfoldable pub all_keys : List Channel → List Key
all_keys [] = []
all_keys (c ∷ cs) = c ++ all_keys cs

unfoldable pub key_rows : Movement → List Key
key_rows m = all_keys (channels_of m.bones)

-- ---- 8: too many rows, at the first such list

-- how many rows each list has
unfoldable pub movement_counts : Movement → MovementCounts
movement_counts m = record { bones = length m.bones; keys = length (key_rows m); patterns = length m.patterns }

unfoldable pub counts_of : Movement → List ℕ
counts_of m = movement_lists (movement_counts m)

-- ---- 14: the total is 1 to 32,767

unfoldable pub total_fault : ℤ → Fault
total_fault total = cond (le_z (pos 1) total && le_z total (pos 32767)) clear (fault 14 0)

-- ---- frames

-- every frame is 0 or more and below the total
unfoldable pub is_frame : ℤ → ℤ → Bool
is_frame total f = le_z (pos 0) f && lt_z f total

unfoldable pub is_zero : ℤ → Bool
is_zero (pos n) = eqb n 0
is_zero (negsuc n) = false

-- frames begin at 0 and rise strictly: a frame after the one before it, if any
unfoldable pub rises : Option ℤ → ℤ → Bool
rises none f = is_zero f
rises (some before) f = lt_z before f

-- ---- 15: the keys of each channel; their rows count on from channel to channel

unfoldable pub key_fine : ℤ → Option ℤ → Key → Bool
key_fine total before k = is_frame total (frame_of k) && rises before (frame_of k)

-- at the first key that may not follow the frame before it, if any
unfoldable pub channel_fault : ℤ → Option ℤ → ℕ → Channel → Fault
channel_fault total before row [] = clear
channel_fault total before row (k ∷ ks) =
    elim (key_fine total before k) [ true ↦ channel_fault total (some (frame_of k)) (suc row) ks | false ↦ fault 15 row ]

unfoldable pub keys_fault : ℤ → ℕ → List Channel → Fault
keys_fault total row [] = clear
keys_fault total row (c ∷ cs) = or_else (channel_fault total none row c) (keys_fault total (row + length c) cs)

-- ---- 16: the patterns, in any order (document 02, (ii)): each line's frame is in range and its group 0 or more, and one line has frame 0

unfoldable pub pattern_fine : ℤ → Pattern → Bool
pattern_fine total p = is_frame total (frame_of p) && le_z (pos 0) (group_of p)

unfoldable pub has_start : List Pattern → Bool
has_start [] = false
has_start (p ∷ ps) = is_zero (frame_of p) || has_start ps

-- lines of which none has frame 0 are at fault in row 0; no lines are not
unfoldable pub start_fault : List Pattern → Fault
start_fault [] = clear
start_fault (p ∷ ps) = cond (has_start (p ∷ ps)) clear (fault 16 0)

unfoldable pub patterns_fault : ℤ → List Pattern → Fault
patterns_fault total ps = or_else (start_fault ps) (first_bad 16 (pattern_fine total) 0 ps)

-- ---- of 8 to 16 the lowest number, with its lowest row

unfoldable pub movement_fault : Movement → Fault
movement_fault m =
    or_else (too_many 0 (counts_of m) movement_mosts)
    (or_else (total_fault m.total_frames)
    (or_else (keys_fault m.total_frames 0 (channels_of m.bones))
    (patterns_fault m.total_frames m.patterns)))
