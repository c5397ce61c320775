-- A channel whose frames are sound: on a key, between two, past the last; and the terms are lowest. Sound frames rise, and a channel is split at its keys.
use mathlib.Core.Path.{◌≡◌, refl, ap, sym, subst, ◌∙◌}
use mathlib.Core.List.{List, [], ◌∷◌, ◌++◌}
use mathlib.Core.Bool.{Bool, true, false, false≢true}
use mathlib.Core.Option.{Option, none, some}
use Prim.Native.Nat.{ℕ, zero, suc, ◌*◌, ◌≤◌, ◌<◌}
use native.Mathlib.Omega.{arith}
use native.Mathlib.Nat.{zero-mul}
use borrow.Author.Tests.{eqb-true, leb-true}
use lib.Dec.{leb}
use lib.IntN.{ℤ, pos, negsuc, nat_abs}
use lib.Signed.{le_z}
use lib.ListN.{length, get_or, take, drop, drop_of_length-le}
use lib.Seq.{split_at, drop-cons}
use Rattle.refusal.specs.Faults.{clear, fault}
use Rattle.text_numerals.proofs.Numerals.{and_true}
use Rattle.tra4_text.specs.Movement.{Key, Channel, frame_of}
use Rattle.tra4_text.specs.Rules.{channel_fault, key_fine, is_frame, is_zero, rises}
use Rattle.player_spec.specs.Fractions.{factor, lowest, whole}
use Rattle.player_spec.specs.Samples.{key_frame, key_value, line, sample_from, standing, sample_of}
use Rattle.player_fractions.proofs.Lowest.{lowest-coprime}
use Rattle.tra4_tests.proofs.Frames.{below_natural}
use Rattle.player_laws.specs.Bounds.{Between, LowestTerms, key_at}
use Rattle.player_laws.proofs.Samples.{Rising, sample-first, sample_later, sample-between-first, sample-between, sample_past, sample_alone}
use Rattle.player_laws.proofs.Between.{denominator-is, line-between}

faulty : (n i : ℕ) → fault n i ≡ clear → ⊥
faulty n i e = let z : ◌≡◌ {A = ℕ} 0 1 = cc in omega (arith, z)

-- ---- frames that are sound rise

pub step : (total : ℤ) (before : Option ℤ) (i : ℕ) (n : Key) (ks : List Key) → channel_fault total before i (n ∷ ks) ≡ clear → (key_fine total before n ≡ true) × (channel_fault total (some (frame_of n)) (suc i) ks ≡ clear)
unfolding channel_fault
step total before i n ks e = go (key_fine total before n) refl
  where
    go : (v : Bool) → key_fine total before n ≡ v → (key_fine total before n ≡ true) × (channel_fault total (some (frame_of n)) (suc i) ks ≡ clear)
    go true o = (o, rw (o, channel_fault) at e)
    go false o = absurd (faulty 15 i (rw (o, channel_fault) at e))

fine_frame : (total : ℤ) (before : Option ℤ) (n : Key) → key_fine total before n ≡ true → (le_z (pos 0) (frame_of n) ≡ true) × (rises before (frame_of n) ≡ true)
unfolding key_fine is_frame
fine_frame total before n e = let p = and_true _ _ e in ((and_true _ _ p.0).0, p.1)

rise_after : (total : ℤ) (k : Key) (i : ℕ) (ks : List Key) → le_z (pos 0) (frame_of k) ≡ true → channel_fault total (some (frame_of k)) i ks ≡ clear → Rising k ks
unfolding rises key_frame
rise_after total k i [] h e = tt
rise_after total k i (n ∷ ks) h e =
    let s = step total (some (frame_of k)) i n ks e in
    let f = fine_frame total (some (frame_of k)) n s.0 in
    (below_natural (frame_of k) (frame_of n) h f.1, rise_after total n (suc i) ks f.0 s.1)

pub frames_rise : (total : ℤ) (k : Key) (ks : List Key) → channel_fault total none 0 (k ∷ ks) ≡ clear → Rising k ks
frames_rise total k ks e = let s = step total none 0 k ks e in rise_after total k 1 ks (fine_frame total none k s.0).0 s.1

zero_natural : (z : ℤ) → is_zero z ≡ true → nat_abs z ≡ 0
unfolding is_zero
zero_natural (pos n) e = eqb-true n 0 e
zero_natural (negsuc n) e = absurd (false≢true e)

pub frames_begin : (total : ℤ) (k : Key) (ks : List Key) → channel_fault total none 0 (k ∷ ks) ≡ clear → key_frame k ≡ 0
unfolding rises key_frame
frames_begin total k ks e = zero_natural (frame_of k) (fine_frame total none k (step total none 0 k ks e).0).1

-- ---- a channel split at its keys

module _ (channel : ℕ) (total : ℤ) (c before after : List Key) (sound : channel_fault total none 0 c ≡ clear) where
  pub on_key : (k : Key) → c ≡ before ++ (k ∷ after) → sample_of channel c (key_frame k) ≡ whole (key_value k)
  on_key k e = rw e (go before (subst (λ (x : List Key). channel_fault total none 0 x ≡ clear) e sound))
    where
      go : (b : List Key) → channel_fault total none 0 (b ++ (k ∷ after)) ≡ clear → sample_of channel (b ++ (k ∷ after)) (key_frame k) ≡ whole (key_value k)
      go [] s = sample-first channel k after (frames_rise total k after s)
      go (j ∷ b) s = sample_later channel j b k after (frames_rise total j (b ++ (k ∷ after)) s)

  pub on_line : (k n : Key) (at : ℕ) → c ≡ before ++ (k ∷ n ∷ after) → key_frame k ≤ at → at < key_frame n → sample_of channel c at ≡ line k n at
  on_line k n at e h l = rw e (go before (subst (λ (x : List Key). channel_fault total none 0 x ≡ clear) e sound))
    where
      go : (b : List Key) → channel_fault total none 0 (b ++ (k ∷ n ∷ after)) ≡ clear → sample_of channel (b ++ (k ∷ n ∷ after)) at ≡ line k n at
      go [] s = sample-between-first channel k n after at l
      go (j ∷ b) s = sample-between channel j b k n after at (frames_rise total j (b ++ (k ∷ n ∷ after)) s) h l

  pub between-keys : (k n : Key) (at : ℕ) → c ≡ before ++ (k ∷ n ∷ after) → key_frame k ≤ at → at < key_frame n → Between (key_value k) (key_value n) (sample_of channel c at)
  between-keys k n at e h l = rw (on_line k n at e h l) (line-between k n at h l)

  pub past_last : (k : Key) (at : ℕ) → c ≡ before ++ (k ∷ []) → key_frame k ≤ at → sample_of channel c at ≡ whole (key_value k)
  past_last k at e h = rw e (go before (subst (λ (x : List Key). channel_fault total none 0 x ≡ clear) e sound))
    where
      go : (b : List Key) → channel_fault total none 0 (b ++ (k ∷ [])) ≡ clear → sample_of channel (b ++ (k ∷ [])) at ≡ whole (key_value k)
      go [] s = sample_alone channel k at
      go (j ∷ b) s = sample_past channel j b k at (frames_rise total j (b ++ (k ∷ [])) s) h

-- ---- lowest terms with a positive denominator

whole-lowest : (z : ℤ) → LowestTerms (whole z)
unfolding whole
whole-lowest z = record { positive = omega arith; coprime = λ d p q. q }

lowest-lowest : (z : ℤ) (b : ℕ) → 0 < b → LowestTerms (lowest z b)
lowest-lowest z b h = record { positive = some_of (lowest z b).denominator refl; coprime = λ d p q. lowest-coprime z b d h p q }
  where
    some_of : (n : ℕ) → (lowest z b).denominator ≡ n → 0 < (lowest z b).denominator
    some_of zero e = absurd (omega (arith, h, sym (denominator-is z b h) ∙ ap (λ (x : ℕ). x * factor (nat_abs z) b) e ∙ zero-mul (factor (nat_abs z) b)))
    some_of (suc n) e = rw e (omega arith)

from_lowest : (k : Key) (ks : List Key) (at : ℕ) → Rising k ks → key_frame k ≤ at → LowestTerms (sample_from k ks at)
unfolding sample_from line
from_lowest k [] at r h = whole-lowest (key_value k)
from_lowest k (n ∷ ks) at r h = go (leb (key_frame n) at) refl (from_lowest n ks at r.1)
  where
    go : (v : Bool) → leb (key_frame n) at ≡ v → (key_frame n ≤ at → LowestTerms (sample_from n ks at)) → LowestTerms (sample_from k (n ∷ ks) at)
    go true e ih = rw (e, sample_from) (ih (leb-true _ _ e))
    go false e ih = rw (e, sample_from) (lowest-lowest _ _ (omega (arith, r.0)))

pub sample-lowest : (channel : ℕ) (total : ℤ) (c : List Key) (at : ℕ) → channel_fault total none 0 c ≡ clear → LowestTerms (sample_of channel c at)
unfolding sample_of
sample-lowest channel total [] at e = whole-lowest (standing channel)
sample-lowest channel total (k ∷ ks) at e = from_lowest k ks at (frames_rise total k ks e) (omega (arith, frames_begin total k ks e))

-- ---- no keys

pub sample_none : (channel : ℕ) (c : List Key) (at : ℕ) → c ≡ [] → sample_of channel c at ≡ whole (standing channel)
unfolding sample_of
sample_none channel c at e = rw e

-- as of a channel that is written out with one key of the pose's value
pub sample-pose : (channel at : ℕ) → sample_of channel ((pos 0 ∷ standing channel ∷ []) ∷ []) at ≡ sample_of channel [] at
unfolding sample_of sample_from key_value
sample-pose channel at = refl

-- ---- by key row

module _ (channel : ℕ) (total : ℤ) (c : Channel) (sound : channel_fault total none 0 c ≡ clear) (i : ℕ) where
  -- on a key the sample is its value
  pub on_key_at : i < length c → sample_of channel c (key_frame (key_at c i)) ≡ whole (key_value (key_at c i))
  unfolding key_at
  on_key_at h = on_key channel total c (take i c) (drop (suc i) c) sound (get_or c i []) (split_at c i [] h)

  -- between two neighbouring keys it is the straight line, and lies between their values
  two_keys : suc i < length c → c ≡ take i c ++ (get_or c i [] ∷ get_or c (suc i) [] ∷ drop (suc (suc i)) c)
  two_keys h = split_at c i [] (omega arith) ∙ ap (λ (r : List Key). take i c ++ (get_or c i [] ∷ r)) (drop-cons c (suc i) [] h)

  pub line_at : suc i < length c → (at : ℕ) → key_frame (key_at c i) ≤ at → at < key_frame (key_at c (suc i)) → sample_of channel c at ≡ line (key_at c i) (key_at c (suc i)) at
  unfolding key_at
  line_at h at l m = on_line channel total c (take i c) (drop (suc (suc i)) c) sound (get_or c i []) (get_or c (suc i) []) at (two_keys h) l m

  pub between-at : suc i < length c → (at : ℕ) → key_frame (key_at c i) ≤ at → at < key_frame (key_at c (suc i)) → Between (key_value (key_at c i)) (key_value (key_at c (suc i))) (sample_of channel c at)
  between-at h at l m = rw (line_at h at l m) (line-between (key_at c i) (key_at c (suc i)) at l m)

  -- from the last key on it is that key's value
  pub past_last-at : suc i ≡ length c → (at : ℕ) → key_frame (key_at c i) ≤ at → sample_of channel c at ≡ whole (key_value (key_at c i))
  unfolding key_at
  past_last-at h at l =
      let end : length c ≤ suc i = omega arith in
      past_last channel total c (take i c) [] sound (get_or c i []) at
      (split_at c i [] (omega arith) ∙ ap (λ (r : List Key). take i c ++ (get_or c i [] ∷ r)) (drop_of_length-le c end))
      l
