-- On a key the sample is the key's value, between two neighbouring keys the line, past the last key the last key's: by induction on the keys before.
use mathlib.Core.Path.{◌≡◌, refl, ◌∙◌}
use mathlib.Core.List.{List, [], ◌∷◌, ◌++◌}
use Prim.Native.Nat.{ℕ, ◌-◌, ◌≤◌, ◌<◌}
use native.Mathlib.Omega.{arith}
use borrow.Author.Tests.{le-leb, lt-leb}
use lib.IntN.{pos, ◌*ℤ◌, *ℤ-zero, +ℤ_idr}
use Rattle.tra4_text.specs.Movement.{Key}
use Rattle.player_spec.specs.Fractions.{whole}
use Rattle.player_spec.specs.Samples.{key_frame, key_value, line, sample_from, sample_of}
use Rattle.player_fractions.proofs.Lowest.{lowest_multiple}

-- frames rise strictly from a key on
abbrev pub Rising : Key → List Key → Type 0
Rising k [] = Unit {0}
Rising k (n ∷ ks) = (key_frame k < key_frame n) × Rising n ks

onward : (k n : Key) (ks : List Key) (at : ℕ) → key_frame n ≤ at → sample_from k (n ∷ ks) at ≡ sample_from n ks at
unfolding sample_from
onward k n ks at h = rw (le-leb (key_frame n) at h, sample_from)

between : (k n : Key) (ks : List Key) (at : ℕ) → at < key_frame n → sample_from k (n ∷ ks) at ≡ line k n at
unfolding sample_from
between k n ks at h = rw (lt-leb (key_frame n) at h, sample_from)

-- at its first end a line has the key's value
line-start : (k n : Key) → key_frame k < key_frame n → line k n (key_frame k) ≡ whole (key_value k)
unfolding line
line-start k n h =
    let none : key_frame k - key_frame k ≡ 0 = omega arith in
    rw (none, *ℤ-zero (key_value n), +ℤ_idr (key_value k *ℤ pos (key_frame n - key_frame k))) (lowest_multiple (key_value k) (key_frame n - key_frame k) (omega arith))

here : (k : Key) (ks : List Key) → Rising k ks → sample_from k ks (key_frame k) ≡ whole (key_value k)
unfolding sample_from
here k [] h = refl
here k (n ∷ ks) h = between k n ks (key_frame k) h.0 ∙ line-start k n h.0

rest-rises : (k : Key) (before : List Key) (x : Key) (after : List Key) → Rising k (before ++ (x ∷ after)) → (key_frame k < key_frame x) × Rising x after
rest-rises k [] x after h = h
rest-rises k (b ∷ before) x after h = let r = rest-rises b before x after h.1 in (omega (arith, h.0, r.0), r.1)

-- the keys up to one that is not after the frame are passed over
reach : (j : Key) (before : List Key) (k : Key) (after : List Key) (at : ℕ) → Rising j (before ++ (k ∷ after)) → key_frame k ≤ at → sample_from j (before ++ (k ∷ after)) at ≡ sample_from k after at
reach j [] k after at h l = onward j k after at l
reach j (b ∷ before) k after at h l = onward j b (before ++ (k ∷ after)) at (omega (arith, (rest-rises b before k after h.1).0, l)) ∙ reach b before k after at h.1 l

-- ---- the keys of a channel: one alone, the first of more, or a later one

module _ (channel : ℕ) where
  pub sample-first : (k : Key) (ks : List Key) → Rising k ks → sample_of channel (k ∷ ks) (key_frame k) ≡ whole (key_value k)
  unfolding sample_of
  sample-first k ks h = here k ks h

  module _ (j : Key) (before : List Key) (k : Key) (after : List Key) (h : Rising j (before ++ (k ∷ after))) where
    -- 1. on a key
    pub sample_later : sample_of channel (j ∷ (before ++ (k ∷ after))) (key_frame k) ≡ whole (key_value k)
    unfolding sample_of
    sample_later = reach j before k after (key_frame k) h (omega arith) ∙ here k after (rest-rises j before k after h).1

  -- 2. between two neighbouring keys it is the line, whose bounds are in Between.antt
  pub sample-between-first : (k n : Key) (after : List Key) (at : ℕ) → at < key_frame n → sample_of channel (k ∷ n ∷ after) at ≡ line k n at
  unfolding sample_of
  sample-between-first k n after at l = between k n after at l

  pub sample-between : (j : Key) (before : List Key) (k n : Key) (after : List Key) (at : ℕ) → Rising j (before ++ (k ∷ n ∷ after)) → key_frame k ≤ at → at < key_frame n → sample_of channel (j ∷ (before ++ (k ∷ n ∷ after))) at ≡ line k n at
  unfolding sample_of
  sample-between j before k n after at h l m = reach j before k (n ∷ after) at h l ∙ between k n after at m

  -- 3. past the last key
  pub sample_past : (j : Key) (before : List Key) (k : Key) (at : ℕ) → Rising j (before ++ (k ∷ [])) → key_frame k ≤ at → sample_of channel (j ∷ (before ++ (k ∷ []))) at ≡ whole (key_value k)
  unfolding sample_of sample_from
  sample_past j before k at h l = reach j before k [] at h l

  pub sample_alone : (k : Key) (at : ℕ) → sample_of channel (k ∷ []) at ≡ whole (key_value k)
  unfolding sample_of sample_from
  sample_alone k at = refl
