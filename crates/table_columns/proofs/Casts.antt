-- A number of a table as an index.
use mathlib.Core.Path.{◌≡◌}
use Prim.Native.Nat.{ℕ}
use native.Mathlib.Omega.{arith}
use lib.Dec.{T}
use lib.IntN.{ℤ, pos, negsuc, nat_abs}
use lib.Signed.{non_neg}
use mir.Syntax.{w64}
use mir.Val.{SFits, Fits, to_z, of_z}
use mir.Facts.{to_z-of_z, Fits-nat_abs}

pub natural_cast : (z : ℤ) → SFits w64 z → z ≡ pos (nat_abs z) → T (non_neg (to_z w64 (of_z w64 z))) × Fits w64 (nat_abs (to_z w64 (of_z w64 z)))
natural_cast z f e = rw (to_z-of_z f) (go z f e)
  where
    go : (y : ℤ) → SFits w64 y → y ≡ pos (nat_abs y) → T (non_neg y) × Fits w64 (nat_abs y)
    go (pos n) k o = (tt, Fits-nat_abs tt k)
    go (negsuc n) k o = let q : ◌≡◌ {A = ℕ} 0 1 = cc in absurd (omega (arith, q))
