-- A sum of two values, each so many times, and its parts are small, and so are themselves in 64 bits.
use mathlib.Core.Path.{◌≡◌, ap, ◌∙◌}
use Prim.Native.Nat.{ℕ, suc, ◌+◌, ◌^◌, ◌≤◌, ◌<◌}
use native.Mathlib.Omega.{arith}
use lib.IntN.{ℤ, pos, negsuc, nat_abs, ◌+ℤ◌, ◌*ℤ◌}
use mir.Syntax.{w64}
use mir.Val.{SFits, to_z, of_z}
use mir.Facts.{to_z-of_z}
use Rattle.signed.proofs.Signed.{pos-fits, neg-fits}
use Rattle.player_fractions.proofs.Sizes.{first_small, second_small, sum_small}

size_fits : (z : ℤ) → nat_abs z < 2 ^ 59 → SFits w64 z
size_fits (pos n) h = pos-fits n (omega arith)
size_fits (negsuc n) h = neg-fits (suc n) (omega arith)

module _ (v w : ℤ) (x y : ℕ) (hv : nat_abs v ≤ 9999999999999) (hw : nat_abs w ≤ 9999999999999) (hs : x + y ≤ 32767) where
  pub first_fits : SFits w64 (v *ℤ pos x)
  first_fits = size_fits (v *ℤ pos x) (first_small v w x y hv hw hs)

  pub second_fits : SFits w64 (w *ℤ pos y)
  second_fits = size_fits (w *ℤ pos y) (second_small v w x y hv hw hs)

  pub sum_fits : SFits w64 (v *ℤ pos x +ℤ w *ℤ pos y)
  sum_fits = size_fits (v *ℤ pos x +ℤ w *ℤ pos y) (sum_small v w x y hv hw hs)

  -- by the bits of the values and of the sum
  pub sum_bits : (r : ℤ) → SFits w64 v → SFits w64 w → r ≡ to_z w64 (of_z w64 v) *ℤ pos x +ℤ to_z w64 (of_z w64 w) *ℤ pos y → to_z w64 (of_z w64 r) ≡ v *ℤ pos x +ℤ w *ℤ pos y
  sum_bits r fv fw e = ap (λ (s : ℤ). to_z w64 (of_z w64 s)) (e ∙ ap (λ (s : ℤ). s *ℤ pos x +ℤ to_z w64 (of_z w64 w) *ℤ pos y) (to_z-of_z {w = w64} fv) ∙ ap (λ (s : ℤ). v *ℤ pos x +ℤ s *ℤ pos y) (to_z-of_z {w = w64} fw)) ∙ to_z-of_z {w = w64} sum_fits
