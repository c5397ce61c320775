-- A magnitude with its sign comes back from its bits.
use mathlib.Core.Path.{◌≡◌}
use mathlib.Core.Bool.{Bool, true, false}
use Prim.Native.Nat.{ℕ, ◌^◌, ◌<◌}
use Rattle.text_numerals.specs.Numbers.{signed}
use mir.Syntax.{w64}
use mir.Val.{to_z, of_z}
use mir.Facts.{to_z-of_z}
use Rattle.signed.proofs.Signed.{neg-fits, pos-fits}

-- a signed magnitude comes back from its bits
pub signed_back : (s : Bool) (n : ℕ) → n < 2 ^ 63 → to_z w64 (of_z w64 (signed s n)) ≡ signed s n
unfolding signed
signed_back false n h = to_z-of_z (pos-fits n h)
signed_back true n h = to_z-of_z (neg-fits n h)
