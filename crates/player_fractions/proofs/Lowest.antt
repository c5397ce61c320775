-- Lowest terms: a multiple over its number is whole, and no number but 1 divides both terms, since its product with the factor would be a common divisor.
use mathlib.Core.Path.{◌≡◌, refl}
use Prim.Native.Nat.{ℕ, zero, suc, ◌*◌, ◌/◌, ◌<◌, ◌∣◌}
use native.Mathlib.Nat.{mul-div_cancel, div_self, mul-pos, one-mul, div-mul_cancel, mul-dvd-mul_right, dvd_of_mul-dvd-mul_right}
use native.Mathlib.Omega.{arith}
use lib.IntN.{ℤ, pos, negsuc, neg_ℤ, nat_abs, ◌*ℤ◌}
use Rattle.player_spec.specs.Fractions.{factor, signed_as, lowest, whole}
use Rattle.player_fractions.proofs.Factors.{factor_divides, factor-greatest, factor_some, multiple_factor}
use Rattle.player_fractions.proofs.Sizes.{nat_abs_multiple}

-- ---- a multiple

negative-sign : (k a : ℕ) → 0 < k → signed_as (neg_ℤ (pos k)) (suc a) ≡ negsuc a
unfolding signed_as
negative-sign zero a h = absurd (omega arith)
negative-sign (suc k) a h = refl

signed_multiple : (z : ℤ) (d : ℕ) → signed_as (z *ℤ pos (suc d)) (nat_abs z) ≡ z
unfolding signed_as
signed_multiple (pos n) d = refl
signed_multiple (negsuc n) d = negative-sign (suc n * suc d) n (mul-pos (omega arith) (omega arith))

pub lowest_multiple : (z : ℤ) (d : ℕ) → 0 < d → lowest (z *ℤ pos d) d ≡ whole z
unfolding lowest whole
lowest_multiple z zero h = absurd (omega arith)
lowest_multiple z (suc d) h = rw (nat_abs_multiple z (suc d), multiple_factor (nat_abs z) (suc d) h, mul-div_cancel (nat_abs z) h, div_self h, signed_multiple z d)

-- ---- lowest terms have no common divisor but 1

signed-size : (z : ℤ) (q : ℕ) → nat_abs (signed_as z q) ≡ q
unfolding signed_as
signed-size (pos n) q = refl
signed-size (negsuc n) zero = refl
signed-size (negsuc n) (suc q) = refl

pub lowest-coprime : (z : ℤ) (b d : ℕ) → 0 < b → d ∣ nat_abs (lowest z b).numerator → d ∣ (lowest z b).denominator → d ∣ 1
unfolding lowest
lowest-coprime z b d h p q =
    let a = nat_abs z in
    let g = factor a b in
    let both = factor_divides a b in
    let numerator : d * g ∣ a = rw (div-mul_cancel _ both.0) at (mul-dvd-mul_right d (rw (signed-size z (a / g)) at p) g) in
    let denominator : d * g ∣ b = rw (div-mul_cancel _ both.1) at (mul-dvd-mul_right d q g) in
    let all : d * g ∣ 1 * g = rw (one-mul g) (factor-greatest a b (d * g) numerator denominator) in
    dvd_of_mul-dvd-mul_right d (factor_some a b h) all
