-- A sample is what it is brought to lowest terms from, and one that is answered takes at most 200 steps: its keys' values are floats and their frames below 32,767, so the sum is below 2 ^ 59 and what it is over below 2 ^ 15.
use mathlib.Core.Path.{◌≡◌, refl, ap, sym}
use mathlib.Core.List.{List, [], ◌∷◌}
use mathlib.Core.Bool.{Bool, true, false, ◌&&◌}
use mathlib.Core.Option.{none, some, some-ne-none, some-injective}
use Prim.Native.Nat.{ℕ, suc, ◌+◌, ◌-◌, ◌≤◌, ◌<◌}
use native.Mathlib.Omega.{arith}
use borrow.Author.Tests.{leb-true, leb-false}
use lib.Dec.{leb, ltb}
use lib.IntN.{ℤ, pos, nat_abs, ◌+ℤ◌, ◌*ℤ◌}
use Rattle.refusal.specs.Faults.{clear}
use Rattle.refusal.proofs.Faults.{clear_true}
use Rattle.text_numerals.proofs.Numerals.{and_true}
use Rattle.tra4_text.specs.Movement.{Key, Channel, frame_of}
use Rattle.tra4_text.specs.Rules.{channel_fault}
use Rattle.table_counts.specs.declared.counts.MovementCounts.{MovementCounts}
use Rattle.table_columns.specs.Parts.{number_at}
use Rattle.table_movement.specs.Sections.{holds_movement}
use Rattle.player_spec.specs.Fractions.{Fraction}
use Rattle.player_spec.specs.Samples.{key_frame, key_value, line, sample_from, sample_of}
use Rattle.player_spec.specs.Lookups.{only_if, is_float, is_asked, is_range, values_fine, pair_at, channel_keys, can_sample, sample_in}
use Rattle.player_tests.proofs.KeyFrames.{key_frame_lem}
use Rattle.player_tests.proofs.Numbers.{asked_total, float_most}
use Rattle.player_fractions.specs.Halving.{terms_left, Unreduced, kept, over, unreduced_from, unreduced_of, reduced, steps_left, Enough}
use Rattle.player_fractions.proofs.Sizes.{sum_small}
use Rattle.player_fractions.proofs.Steps.{enough_200, terms_one_more}
use Rattle.player_laws.proofs.Keys.{step, frames_begin}

-- ---- what is brought to lowest terms

from-reduced : (at : ℕ) (k : Key) (ks : List Key) → sample_from k ks at ≡ reduced (unreduced_from k ks at)
unfolding unreduced_from sample_from line reduced
from-reduced at k [] = refl
from-reduced at k (n ∷ ks) = go (leb (key_frame n) at) refl (from-reduced at n ks)
  where
    go : (v : Bool) → leb (key_frame n) at ≡ v → sample_from n ks at ≡ reduced (unreduced_from n ks at) → sample_from k (n ∷ ks) at ≡ reduced (unreduced_from k (n ∷ ks) at)
    go true o ih = rw (o, sample_from, unreduced_from) ih
    go false o ih = rw (o, sample_from, unreduced_from)

pub sample-reduced : (channel : ℕ) (c : Channel) (at : ℕ) → sample_of channel c at ≡ reduced (unreduced_of channel c at)
unfolding unreduced_of sample_of reduced
sample-reduced channel [] at = refl
sample-reduced channel (k ∷ ks) at = from-reduced at k ks

-- ---- its steps

line-steps : (at : ℕ) (k n : Key) → is_float (key_value k) ≡ true → is_float (key_value n) ≡ true → key_frame k ≤ at → at < key_frame n → key_frame n < 32767 → Enough (terms_left 200 (nat_abs (key_value k *ℤ pos (key_frame n - at) +ℤ key_value n *ℤ pos (at - key_frame k))) (key_frame n - key_frame k))
line-steps at k n u v h l m = enough_200 _ _ (sum_small (key_value k) (key_value n) (key_frame n - at) (at - key_frame k) (float_most _ u) (float_most _ v) (omega arith)) (omega arith) (omega arith)

module _ (total : ℤ) (at : ℕ) (asked : is_asked total at ≡ true) where
  most : nat_abs total ≤ 32767
  most = (asked_total at total asked).2

  below : (before k : Key) (i : ℕ) (ks : List Key) → channel_fault total (some (frame_of before)) i (k ∷ ks) ≡ clear → key_frame k < 32767
  unfolding key_frame
  below before k i ks e = let l = (key_frame_lem total (some (frame_of before)) k (step total (some (frame_of before)) i k ks e).0).1 in let m = most in omega arith

  steps-from : (k : Key) (i : ℕ) (ks : List Key) → channel_fault total (some (frame_of k)) i ks ≡ clear → is_float (key_value k) ≡ true → values_fine ks ≡ true → key_frame k ≤ at → Enough (steps_left 200 (unreduced_from k ks at))
  unfolding unreduced_from steps_left values_fine key_value
  steps-from k i [] e u f h = (200, refl)
  steps-from k i (n ∷ ks) e u f h =
      let v = and_true _ _ f in
      go (leb (key_frame n) at) refl v.0 (steps-from n (suc i) ks (step total (some (frame_of k)) i n ks e).1 v.0 v.1)
    where
      go : (b : Bool) → leb (key_frame n) at ≡ b → is_float (key_value n) ≡ true → (key_frame n ≤ at → Enough (steps_left 200 (unreduced_from n ks at))) → Enough (steps_left 200 (unreduced_from k (n ∷ ks) at))
      go true o w ih = rw (o, unreduced_from) (ih (leb-true _ _ o))
      go false o w ih = rw (o, unreduced_from) (line-steps at k n u w h (let m = leb-false (key_frame n) at o in omega arith) (below k n i ks e))

  pub channel-steps : (channel : ℕ) (c : Channel) → channel_fault total none 0 c ≡ clear → values_fine c ≡ true → Enough (steps_left 200 (unreduced_of channel c at))
  unfolding unreduced_of steps_left values_fine key_value
  channel-steps channel [] e f = (200, refl)
  channel-steps channel (k ∷ ks) e f = let v = and_true _ _ f in steps-from k 1 ks (step total none 0 k ks e).1 v.0 v.1 (omega (arith, frames_begin total k ks e))

-- ---- of any table

passed_tests : (a b c d e : Bool) → (a && b && c && d && e) ≡ true → (b ≡ true) × (d ≡ true) × (e ≡ true)
passed_tests a b c d e h =
    let p = and_true (a && b && c && d) e h in
    let q = and_true (a && b && c) d p.0 in
    ((and_true a b (and_true (a && b) c q.0).0).1, q.1, p.1)

module _ (n : MovementCounts) (table : List ℤ) (bone channel at : ℕ) where
  answered_steps : can_sample n table bone channel at ≡ true → Enough (steps_left 200 (unreduced_of channel (channel_keys n table bone channel) at))
  unfolding can_sample
  answered_steps h =
      let t = passed_tests (holds_movement n table && ltb bone n.bones && ltb channel 10) (is_asked (number_at table 0) at) (is_range n.keys (number_at table (pair_at n table bone channel)) (number_at table (pair_at n table bone channel + 1))) _ _ h in
      channel-steps (number_at table 0) at t.0 channel (channel_keys n table bone channel) (clear_true _ t.1) t.2

  pub sample-steps : (r : Fraction) → sample_in n table bone channel at ≡ some r → Enough (steps_left 200 (unreduced_of channel (channel_keys n table bone channel) at))
  unfolding sample_in only_if
  sample-steps r e = go (can_sample n table bone channel at) refl
    where
      go : (v : Bool) → can_sample n table bone channel at ≡ v → Enough (steps_left 200 (unreduced_of channel (channel_keys n table bone channel) at))
      go true h = answered_steps h
      go false h = absurd (some-ne-none r (sym (rw h at e)))

-- ---- of one step more one more is left

pub steps-one_more : (n k : ℕ) (u : Unreduced) → steps_left n u ≡ some k → steps_left (suc n) u ≡ some (suc k)
unfolding steps_left
steps-one_more n k (kept v) h = ap (λ (m : ℕ). some (suc m)) (some-injective n k h)
steps-one_more n k (over z d) h = terms_one_more n k (nat_abs z) d h
