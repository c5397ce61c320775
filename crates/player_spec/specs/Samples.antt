-- A channel's sample at a frame, from its keys as the text writes them (document 01, "Playing").
use Rattle.std.specs.Prelude.{List, [], ◌∷◌, map, true, false, ℕ, ◌-◌, leb, ℤ, pos, nat_abs, ◌+ℤ◌, ◌*ℤ◌, get_or}
use Rattle.tra4_text.specs.Movement.{Key, Channel, frame_of}
use Rattle.player_spec.specs.Fractions.{Fraction, lowest, whole}
use Rattle.table_columns.specs.Columns.{value_of}

-- a key's frame, which is 0 or more, and its value in millionths
unfoldable pub key_frame : Key → ℕ
key_frame k = nat_abs (frame_of k)

unfoldable pub key_value : Key → ℤ
key_value k = value_of k

-- the straight line from one key to the next, at a frame that is not before the first and before the second
unfoldable pub line : Key → Key → ℕ → Fraction
line k n at = lowest (key_value k *ℤ pos (key_frame n - at) +ℤ key_value n *ℤ pos (at - key_frame k)) (key_frame n - key_frame k)

-- from a key on that is not after the frame
unfoldable pub sample_from : Key → List Key → ℕ → Fraction
sample_from k [] at = whole (key_value k)
sample_from k (n ∷ ks) at = elim (leb (key_frame n) at) [ true ↦ sample_from n ks at | false ↦ line k n at ]

-- document 004's standing pose by channel number, in millionths: translate 0, 0, 0, scale 100, 100, 100, rotate 0, 0, 1, roll 0
unfoldable pub pose : List ℤ
pose = map pos (0 ∷ 0 ∷ 0 ∷ 100000000 ∷ 100000000 ∷ 100000000 ∷ 0 ∷ 0 ∷ 1000000 ∷ 0 ∷ [])

-- what a channel that is left out stands for (document 02, (x))
unfoldable pub standing : ℕ → ℤ
standing channel = get_or pose channel (pos 0)

-- the channel of a number, by its keys: one that is left out has none, and else the first is at frame 0
unfoldable pub sample_of : ℕ → Channel → ℕ → Fraction
sample_of channel [] at = whole (standing channel)
sample_of channel (k ∷ ks) at = sample_from k ks at
