-- Tests on signed numbers in the code: what a call on a number's bits says of the number, and tests one after the other.
use mathlib.Core.Path.{◌≡◌, refl, ap, sym, ◌∙◌}
use mathlib.Core.Bool.{Bool, true, false, not, ◌&&◌, ◌||◌}
use Prim.Native.Nat.{ℕ}
use borrow.Author.Tests.{not-true, not-false, ltb-true, ltb-false, le-leb, lt-leb}
use lib.Dec.{leb, ltb}
use lib.IntN.{ℤ, pos, negsuc, nat_abs}
use lib.Signed.{mag, lt_z, le_z}
use mir.Syntax.{w64}
use mir.Val.{SFits, to_z, of_z}
use mir.Facts.{to_z-of_z}
use Rattle.signed.proofs.Signed.{below-zero, from_zero}

-- ---- a number from its bits

pub negative : (z : ℤ) → SFits w64 z → lt_z (to_z w64 (of_z w64 z)) (pos 0) ≡ true → z ≡ negsuc (mag z)
negative z f e = below-zero z (ap (λ (y : ℤ). lt_z y (pos 0)) (sym (to_z-of_z f)) ∙ e)

pub natural : (z : ℤ) → SFits w64 z → lt_z (to_z w64 (of_z w64 z)) (pos 0) ≡ false → z ≡ pos (nat_abs z)
natural z f e = from_zero z (ap (λ (y : ℤ). lt_z y (pos 0)) (sym (to_z-of_z f)) ∙ e)

-- what a call of a test says, of the number that was passed
pub tested : (t : ℤ → Bool) (z : ℤ) {r : Bool} → SFits w64 z → r ≡ t (to_z w64 (of_z w64 z)) → r ≡ t z
tested t z f e = e ∙ ap t (to_z-of_z f)

-- ---- order

le_not_lt : (a b : ℕ) → leb a b ≡ not (ltb b a)
le_not_lt a b = go (ltb b a) refl
  where
    go : (v : Bool) → ltb b a ≡ v → leb a b ≡ not (ltb b a)
    go true e = rw e (lt-leb a b (ltb-true b a e))
    go false e = rw e (le-leb a b (ltb-false b a e))

-- at most, where not above
pub most-above : (a b : ℤ) → le_z a b ≡ not (lt_z b a)
most-above (pos a) (pos b) = le_not_lt a b
most-above (pos a) (negsuc b) = refl
most-above (negsuc a) (pos b) = refl
most-above (negsuc a) (negsuc b) = le_not_lt b a

-- ---- one after the other

-- a test `if !r` that was taken, or left, before others
pub failed : (rest : Bool) {r t : Bool} → r ≡ t → not r ≡ true → (t && rest) ≡ false
failed rest {r} e n = rw (sym e ∙ not-true r n)

pub passed : (rest : Bool) {r t : Bool} → r ≡ t → not r ≡ false → (t && rest) ≡ rest
passed rest {r} e n = rw (sym e ∙ not-false r n)

-- a test `if r` that was taken, or left, before another
pub either : (rest : Bool) {r t : Bool} → r ≡ t → r ≡ true → (t || rest) ≡ true
either rest e n = rw (sym e ∙ n)

pub other : (rest : Bool) {r t : Bool} → r ≡ t → r ≡ false → (t || rest) ≡ rest
other rest e n = rw (sym e ∙ n)

pub and3 : (a b c : Bool) → (a && b && c) ≡ (a && (b && c))
and3 true b c = refl
and3 false b c = refl

-- ---- a test `0 <= z`

pub natural_from : (z : ℤ) → SFits w64 z → le_z (pos 0) (to_z w64 (of_z w64 z)) ≡ true → z ≡ pos (nat_abs z)
natural_from z s e = natural z s (not-true _ (sym (most-above (pos 0) (to_z w64 (of_z w64 z))) ∙ e))

pub negative_from : (z : ℤ) → SFits w64 z → le_z (pos 0) (to_z w64 (of_z w64 z)) ≡ false → z ≡ negsuc (mag z)
negative_from z s e = negative z s (not-false _ (sym (most-above (pos 0) (to_z w64 (of_z w64 z))) ∙ e))
