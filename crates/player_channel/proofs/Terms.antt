-- The code's lowest terms are the definition's: the magnitude over the factor, and the sign put on last.
use mathlib.Core.Path.{◌≡◌, ap, sym, ◌∙◌}
use mathlib.Core.Bool.{true, false}
use Prim.Native.Nat.{ℕ, ◌/◌, ◌^◌, ◌<◌}
use native.Mathlib.Nat.{div-le_self}
use native.Mathlib.Omega.{arith}
use lib.IntN.{ℤ, pos, negsuc, neg_ℤ, nat_abs, ◌-ℤ◌}
use lib.Signed.{mag, lt_z}
use mir.Syntax.{w64}
use mir.Val.{SFits, to_z, of_z}
use mir.Facts.{to_z-of_z}
use Rattle.signed.proofs.Signed.{pos-fits, neg-fits, zero_minus, bits_pos, bits_neg, below-zero, from_zero}
use Rattle.player_spec.specs.Fractions.{Fraction, factor, signed_as, lowest}

module _ (z : ℤ) (d s n u : ℕ) (f : SFits w64 z) (hz : nat_abs z < 2 ^ 59) (es : s ≡ nat_abs (to_z w64 (of_z w64 z))) (en : n ≡ s / factor s d) (eu : u ≡ d / factor s d) where
  size : s ≡ nat_abs z
  size = es ∙ ap nat_abs (to_z-of_z {w = w64} f)

  small : n < 2 ^ 63
  small = let l = div-le_self s (factor s d) in omega (arith, size, hz, en, l)

  pub terms_fit : SFits w64 (pos n)
  terms_fit = pos-fits n small

  pub negated_fits : SFits w64 (pos 0 -ℤ to_z w64 n)
  negated_fits = rw (bits_pos n small, zero_minus (pos n)) (neg-fits n small)

  by_sign : (a : ℤ) → a ≡ signed_as z n → ◌≡◌ {A = Fraction} (record { numerator = a; denominator = u }) (lowest z d)
  unfolding lowest
  by_sign a e = rw (e, en, eu, size)

  pub negative_terms : lt_z (to_z w64 (of_z w64 z)) (pos 0) ≡ true → ◌≡◌ {A = Fraction} (record { numerator = to_z w64 (of_z w64 (pos 0 -ℤ to_z w64 n)); denominator = u }) (lowest z d)
  negative_terms e = by_sign _ (bits_neg n small ∙ sym (signed_below z n (below-zero z (rw (to_z-of_z {w = w64} f) at e))))
    where
      signed_below : (y : ℤ) (m : ℕ) → y ≡ negsuc (mag y) → signed_as y m ≡ neg_ℤ (pos m)
      signed_below y m e = unfold signed_as in (rw e)

  pub natural_terms : lt_z (to_z w64 (of_z w64 z)) (pos 0) ≡ false → ◌≡◌ {A = Fraction} (record { numerator = to_z w64 n; denominator = u }) (lowest z d)
  natural_terms e = by_sign _ (bits_pos n small ∙ sym (signed-from z n (from_zero z (rw (to_z-of_z {w = w64} f) at e))))
    where
      signed-from : (y : ℤ) (m : ℕ) → y ≡ pos (nat_abs y) → signed_as y m ≡ pos m
      signed-from y m e = unfold signed_as in (rw e)
