-- Sample by a channel's pair in any table: 0 and 0 gives the standing pose; a count of 0 with another row, or a number below 0, is no range.
use mathlib.Core.Path.{◌≡◌, refl, ap}
use mathlib.Core.Logic.{◌⊎◌, inl, inr}
use mathlib.Core.List.{List}
use mathlib.Core.Bool.{true, false, and-false}
use mathlib.Core.Option.{none, some}
use Prim.Native.Nat.{ℕ, zero, suc, ◌+◌, ◌<◌}
use borrow.Author.Tests.{lt-ltb, ne_eqb}
use lib.IntN.{ℤ, pos, negsuc}
use Rattle.refusal.specs.Faults.{is_clear}
use Rattle.tra4_text.specs.Rules.{channel_fault}
use Rattle.table_counts.specs.declared.counts.MovementCounts.{MovementCounts}
use Rattle.table_columns.specs.Parts.{number_at, rows_at}
use Rattle.table_movement.specs.Sections.{holds_movement}
use Rattle.player_spec.specs.Fractions.{whole}
use Rattle.player_spec.specs.Samples.{standing, sample_of}
use Rattle.player_spec.specs.Lookups.{only_if, is_asked, is_range, values_fine, pair_at, channel_keys, can_sample, sample_in}

other_no : (n : ℕ) (f : ℤ) → (f ≡ pos 0 → ⊥) → is_range n f (pos 0) ≡ false
unfolding is_range
other_no n (pos f) h = ne_eqb f 0 (λ e. h (ap pos e))
other_no n (negsuc f) h = refl

first_no : (n z : ℕ) (c : ℤ) → is_range n (negsuc z) c ≡ false
unfolding is_range
first_no n z (pos zero) = refl
first_no n z (pos (suc c)) = refl
first_no n z (negsuc c) = refl

count_no : (n z : ℕ) (f : ℤ) → is_range n f (negsuc z) ≡ false
unfolding is_range
count_no n z (pos f) = refl
count_no n z (negsuc f) = refl

module _ (n : MovementCounts) (table : List ℤ) (bone channel at : ℕ) where
  abbrev first : ℤ
  first = number_at table (pair_at n table bone channel)

  abbrev count : ℤ
  count = number_at table (pair_at n table bone channel + 1)

  pub zeros-sound : holds_movement n table ≡ true → bone < n.bones → channel < 10 → is_asked (number_at table 0) at ≡ true → (first ≡ pos 0) × (count ≡ pos 0) → sample_in n table bone channel at ≡ some (whole (standing channel))
  unfolding sample_in can_sample channel_keys rows_at is_range channel_fault is_clear values_fine sample_of only_if
  zeros-sound held row known asked z = rw (held, lt-ltb _ _ row, lt-ltb _ _ known, asked, z.0, z.1)

  no_range : is_range n.keys first count ≡ false → sample_in n table bone channel at ≡ none
  unfolding sample_in can_sample only_if
  no_range h = rw (h, and-false _)

  pub other_row : (first ≡ pos 0 → ⊥) → count ≡ pos 0 → sample_in n table bone channel at ≡ none
  other_row h e = no_range (rw e (other_no n.keys first h))

  pub below-zero : (z : ℕ) → (first ≡ negsuc z) ⊎ (count ≡ negsuc z) → sample_in n table bone channel at ≡ none
  below-zero z (inl e) = no_range (rw e (first_no n.keys z count))
  below-zero z (inr e) = no_range (rw e (count_no n.keys z first))
