-- A frame, by the code's tests.
use mathlib.Core.Path.{◌≡◌, refl}
use mathlib.Core.Bool.{true, false, false≢true}
use Prim.Native.Nat.{◌<◌}
use borrow.Author.Tests.{ltb-true}
use lib.IntN.{ℤ, pos, negsuc, nat_abs}
use lib.Signed.{lt_z, le_z}
use Rattle.signed.proofs.Tests.{most-above}
use Rattle.text_numerals.proofs.Numerals.{and_true}
use Rattle.tra4_text.specs.Rules.{is_frame}

pub from-zero_on : (z : ℤ) → le_z (pos 0) z ≡ true → z ≡ pos (nat_abs z)
from-zero_on (pos n) e = refl
from-zero_on (negsuc n) e = absurd (false≢true e)

pub below_natural : (a b : ℤ) → le_z (pos 0) a ≡ true → lt_z a b ≡ true → nat_abs a < nat_abs b
below_natural (pos a) (pos b) h e = ltb-true a b e
below_natural (pos a) (negsuc b) h e = absurd (false≢true e)
below_natural (negsuc a) b h e = absurd (false≢true h)

module _ (total f : ℤ) where
  pub frame_negative : lt_z f (pos 0) ≡ true → is_frame total f ≡ false
  unfolding is_frame
  frame_negative e = rw (most-above (pos 0) f, e)

  pub frame_natural : lt_z f (pos 0) ≡ false → is_frame total f ≡ lt_z f total
  unfolding is_frame
  frame_natural e = rw (most-above (pos 0) f, e)

  pub frame_below : is_frame total f ≡ true → nat_abs f < nat_abs total
  unfolding is_frame
  frame_below e = let p = and_true (le_z (pos 0) f) (lt_z f total) e in below_natural f total p.0 p.1

  pub frame_is : is_frame total f ≡ true → f ≡ pos (nat_abs f)
  unfolding is_frame
  frame_is e = from-zero_on f (and_true (le_z (pos 0) f) (lt_z f total) e).0
