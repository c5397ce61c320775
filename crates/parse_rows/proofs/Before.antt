-- The numbers of a table before an index stay: what is written from a later index on leaves them.
use mathlib.Core.Path.{◌≡◌, refl}
use mathlib.Core.List.{List, [], ◌∷◌}
use Prim.Native.Nat.{ℕ, zero, suc, ◌+◌, ◌≤◌, min}
use native.Mathlib.Omega.{arith}
use lib.IntN.{ℤ}
use lib.ListN.{length, take}

-- tables that agree before an index agree before an earlier one; past their end an index is as good as the end
pub earlier : (at i : ℕ) (u t : List ℤ) → length u ≡ length t → min at (length t) ≤ i → take i u ≡ take i t → take at u ≡ take at t
earlier zero i u t n h e = refl
earlier (suc at) i [] [] n h e = refl
earlier (suc at) i [] (y ∷ t) n h e = absurd (omega arith)
earlier (suc at) i (x ∷ u) [] n h e = absurd (omega arith)
earlier (suc at) zero (x ∷ u) (y ∷ t) n h e = absurd (omega arith)
earlier (suc at) (suc i) (x ∷ u) (y ∷ t) n h e =
    let head : x ≡ y = cc in
    let tail : take i u ≡ take i t = cc in
    cc (earlier at i u t (omega arith) (omega arith) tail)

-- the same after a step of `advance`
pub before_step : (at w i : ℕ) (u t : List ℤ) → length u ≡ length t → min i (length t) ≡ min (at + w) (length t) → take i u ≡ take i t → take at u ≡ take at t
before_step at w i u t n h e = earlier at i u t n (omega arith) e
