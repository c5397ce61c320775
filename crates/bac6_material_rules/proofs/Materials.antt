-- Rule 12 of one row, test by test.
use mathlib.Core.Path.{◌≡◌, refl, sym, ◌∙◌}
use mathlib.Core.Bool.{Bool, true, false, false≢true, ◌&&◌}
use native.Mathlib.Omega.{arith}
use borrow.Author.Tests.{leb-false}
use lib.IntN.{ℤ, pos, negsuc}
use lib.Signed.{le_z}
use Rattle.bac6_text.specs.Rules.{is_level}

-- a test after others, where they hold and where they do not
pub joined : {v r t x : Bool} → v ≡ x → r ≡ t → r ≡ true → v ≡ (t && x)
joined same told e = rw (sym told ∙ e) same

pub ended : (x : Bool) {v r t : Bool} → v ≡ r → r ≡ t → r ≡ false → v ≡ (t && x)
ended x same told e = rw (sym told ∙ e) (same ∙ e)

-- a level below zero, and from zero on
pub negative_level : (z : ℤ) → le_z (pos 0) z ≡ false → is_level z ≡ false
unfolding is_level
negative_level (pos k) e = absurd (omega (arith, leb-false 0 k e))
negative_level (negsuc k) e = refl

pub natural_level : (z : ℤ) → le_z (pos 0) z ≡ true → is_level z ≡ le_z z (pos 1000000)
unfolding is_level
natural_level (pos k) e = refl
natural_level (negsuc k) e = absurd (false≢true e)
