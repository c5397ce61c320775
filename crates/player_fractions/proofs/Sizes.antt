-- How large a sum of two values is, each so many times: by the sizes of its parts.
use mathlib.Core.Path.{◌≡◌, refl}
use mathlib.Core.Bool.{Bool, true, false, cond}
use Prim.Native.Nat.{ℕ, zero, suc, ◌+◌, ◌*◌, ◌-◌, ◌^◌, ◌≤◌, ◌<◌}
use native.Mathlib.Nat.{mul-le-mul_right}
use native.Mathlib.Omega.{arith}
use borrow.Author.Tests.{ltb-true}
use lib.Dec.{ltb}
use lib.IntN.{ℤ, pos, negsuc, neg_ℤ, nat_abs, sub_ℕ, ◌+ℤ◌, ◌*ℤ◌}

pub nat_abs_multiple : (z : ℤ) (d : ℕ) → nat_abs (z *ℤ pos d) ≡ nat_abs z * d
nat_abs_multiple (pos n) d = refl
nat_abs_multiple (negsuc n) d = negated (suc n * d)
  where
    negated : (k : ℕ) → nat_abs (neg_ℤ (pos k)) ≡ k
    negated zero = refl
    negated (suc k) = refl

difference : (a b : ℕ) → nat_abs (sub_ℕ a b) ≤ a + b
difference a b = go (ltb a b) refl
  where
    go : (v : Bool) → ltb a b ≡ v → nat_abs (cond (ltb a b) (negsuc (b - suc a)) (pos (a - b))) ≤ a + b
    go true e = rw e (let l = ltb-true a b e in omega arith)
    go false e = rw e (omega arith)

sum-size : (a b : ℤ) → nat_abs (a +ℤ b) ≤ nat_abs a + nat_abs b
sum-size (pos a) (pos b) = omega arith
sum-size (pos a) (negsuc b) = difference a (suc b)
sum-size (negsuc a) (pos b) = let d = difference b (suc a) in omega arith
sum-size (negsuc a) (negsuc b) = omega arith

module _ (v w : ℤ) (x y : ℕ) (hv : nat_abs v ≤ 9999999999999) (hw : nat_abs w ≤ 9999999999999) (hs : x + y ≤ 32767) where
  first-size : nat_abs (v *ℤ pos x) ≤ 9999999999999 * x
  first-size = rw (nat_abs_multiple v x) (mul-le-mul_right x hv)

  second_size : nat_abs (w *ℤ pos y) ≤ 9999999999999 * y
  second_size = rw (nat_abs_multiple w y) (mul-le-mul_right y hw)

  -- 9,999,999,999,999 * 32,767 is below 2 ^ 59
  pub first_small : nat_abs (v *ℤ pos x) < 2 ^ 59
  first_small = let s = first-size in omega arith

  pub second_small : nat_abs (w *ℤ pos y) < 2 ^ 59
  second_small = let s = second_size in omega arith

  pub sum_small : nat_abs (v *ℤ pos x +ℤ w *ℤ pos y) < 2 ^ 59
  sum_small = let s = first-size in let t = second_size in let u = sum-size (v *ℤ pos x) (w *ℤ pos y) in omega arith
