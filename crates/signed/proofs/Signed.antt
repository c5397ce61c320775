-- Signed numbers: what the code's tests, casts and differences on an `i64` say of `ℤ`.
use mathlib.Core.Path.{◌≡◌, refl, ◌∙◌}
use mathlib.Core.Bool.{true, false, true≢false}
use Prim.Native.Nat.{ℕ, zero, suc, ◌^◌, ◌<◌}
use native.Mathlib.Omega.{arith}
use borrow.Author.Tests.{ltb-true}
use lib.Dec.{ltb}
use lib.IntN.{ℤ, pos, negsuc, neg_ℤ, suc_ℤ, nat_abs, ◌+ℤ◌, ◌-ℤ◌, +ℤ_idl, +ℤ_one, neg_ℤ-neg_ℤ}
use lib.Signed.{mag, lt_z}
use mir.Syntax.{w64}
use mir.Val.{SFits, to_z, of_z}
use mir.Facts.{to_z_pos, to_z-of_z}

-- a number below 2 ^ 63 fits with either sign
pub pos-fits : (n : ℕ) → n < 2 ^ 63 → SFits w64 (pos n)
pos-fits n h = record { sfits = h }

pub neg-fits : (n : ℕ) → n < 2 ^ 63 → SFits w64 (neg_ℤ (pos n))
neg-fits zero h = record { sfits = h }
neg-fits (suc n) h = record { sfits = omega arith }

pub zero_minus : (z : ℤ) → pos 0 -ℤ z ≡ neg_ℤ z
zero_minus z = +ℤ_idl (neg_ℤ z)

-- the bits of a number below 2 ^ 63, and those of zero less it
pub bits_pos : (n : ℕ) → n < 2 ^ 63 → to_z w64 n ≡ pos n
bits_pos n h = to_z_pos w64 h

pub bits_neg : (n : ℕ) → n < 2 ^ 63 → to_z w64 (of_z w64 (pos 0 -ℤ to_z w64 n)) ≡ neg_ℤ (pos n)
bits_neg n h = rw (bits_pos n h, zero_minus (pos n)) (to_z-of_z (neg-fits n h))

pub below-zero : (z : ℤ) → lt_z z (pos 0) ≡ true → z ≡ negsuc (mag z)
below-zero (pos n) e = absurd (not-below-zero n e)
  where
    not-below-zero : (n : ℕ) → ltb n 0 ≡ true → ⊥
    not-below-zero n e = omega (arith, ltb-true n 0 e)
below-zero (negsuc n) e = refl

pub from_zero : (z : ℤ) → lt_z z (pos 0) ≡ false → z ≡ pos (nat_abs z)
from_zero (pos n) e = refl
from_zero (negsuc n) e = absurd (true≢false e)

pub negsuc-one : (n : ℕ) → negsuc n +ℤ pos 1 ≡ neg_ℤ (pos n)
negsuc-one n = +ℤ_one (negsuc n) ∙ go n
  where
    go : (n : ℕ) → suc_ℤ (negsuc n) ≡ neg_ℤ (pos n)
    go zero = refl
    go (suc n) = refl

pub less_one-fits : (n : ℕ) → n < 2 ^ 63 → SFits w64 (pos 0 -ℤ to_z w64 (of_z w64 (negsuc n +ℤ pos 1)))
less_one-fits n h = rw (negsuc-one n, to_z-of_z (neg-fits n h), zero_minus (neg_ℤ (pos n)), neg_ℤ-neg_ℤ (pos n)) (pos-fits n h)

pub less_one : (n : ℕ) → n < 2 ^ 63 → to_z w64 (of_z w64 (pos 0 -ℤ to_z w64 (of_z w64 (negsuc n +ℤ pos 1)))) ≡ pos n
less_one n h = rw (negsuc-one n, to_z-of_z (neg-fits n h), zero_minus (neg_ℤ (pos n)), neg_ℤ-neg_ℤ (pos n)) (to_z-of_z (pos-fits n h))
