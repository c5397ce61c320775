-- That a frame is 0, by its bits.
use mathlib.Core.Path.{◌≡◌, refl, ap, sym, ◌∙◌}
use mathlib.Core.Bool.{Bool, true, false}
use Prim.Native.Nat.{ℕ}
use native.Mathlib.Omega.{arith}
use borrow.Author.Tests.{eqb-true, eqb-false}
use lib.Dec.{eqb}
use lib.IntN.{ℤ, pos, negsuc}
use mir.Syntax.{w64}
use mir.Val.{SFits, to_z, of_z}
use mir.Facts.{to_z-of_z}
use Rattle.tra4_text.specs.Rules.{is_zero}

pub zero_is : (z : ℤ) → is_zero z ≡ true → z ≡ pos 0
unfolding is_zero
zero_is (pos n) e = ap pos (eqb-true n 0 e)
zero_is (negsuc n) e = let z : ◌≡◌ {A = ℕ} 0 1 = cc in absurd (omega (arith, z))

pub zero_no : (z : ℤ) → (of_z w64 z ≡ 0 → ⊥) → is_zero z ≡ false
zero_no z h = go (is_zero z) refl
  where
    go : (b : Bool) → is_zero z ≡ b → is_zero z ≡ false
    go true e = absurd (h (ap (of_z w64) (zero_is z e)))
    go false e = e

pub zero_yes : (z : ℤ) → SFits w64 z → of_z w64 z ≡ 0 → is_zero z ≡ true
zero_yes z f e = ap is_zero (sym (to_z-of_z f) ∙ ap (to_z w64) e) ∙ unfold is_zero in refl

pub zero_bits : (z : ℤ) → SFits w64 z → eqb (of_z w64 z) 0 ≡ is_zero z
zero_bits z f = go (eqb (of_z w64 z) 0) refl
  where
    go : (v : Bool) → eqb (of_z w64 z) 0 ≡ v → v ≡ is_zero z
    go true e = sym (zero_yes z f (eqb-true _ 0 e))
    go false e = sym (zero_no z (eqb-false _ 0 e))
