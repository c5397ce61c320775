-- A key's frame: after another's, by the code's tests; one that is sound is a number below the total.
use mathlib.Core.Path.{◌≡◌}
use mathlib.Core.List.{[], ◌∷◌}
use mathlib.Core.Bool.{true, false}
use mathlib.Core.Option.{Option, some}
use Prim.Native.Nat.{ℕ, ◌<◌}
use lib.Dec.{ltb}
use lib.IntN.{ℤ, pos, nat_abs}
use Rattle.text_numerals.proofs.Numerals.{and_true}
use Rattle.tra4_text.specs.Movement.{Key, frame_of}
use Rattle.tra4_text.specs.Rules.{is_frame, rises, key_fine}
use Rattle.tra4_tests.proofs.Frames.{frame_below, frame_is}

module _ (total : ℤ) (before : ℕ) (f v : ℤ) where
  pub follow_outside : is_frame total f ≡ false → key_fine total (some (pos before)) (f ∷ v ∷ []) ≡ false
  unfolding key_fine frame_of
  follow_outside e = rw e

  pub follow_is : is_frame total f ≡ true → key_fine total (some (pos before)) (f ∷ v ∷ []) ≡ ltb before (nat_abs f)
  unfolding key_fine rises frame_of
  follow_is e = rw (e, frame_is total f e)

pub key_frame_lem : (total : ℤ) (before : Option ℤ) (k : Key) → key_fine total before k ≡ true → (frame_of k ≡ pos (nat_abs (frame_of k))) × (nat_abs (frame_of k) < nat_abs total)
unfolding key_fine
key_frame_lem total before k h = let i = (and_true (is_frame total (frame_of k)) (rises before (frame_of k)) h).0 in (frame_is total (frame_of k) i, frame_below total (frame_of k) i)
