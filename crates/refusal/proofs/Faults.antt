-- A fault is not none: two constructors differ.
use mathlib.Core.Path.{◌≡◌, refl}
use Prim.Native.Nat.{ℕ}
use native.Mathlib.Omega.{arith}
use Rattle.refusal.specs.Faults.{clear, fault, Fault, is_clear}
use mathlib.Core.Bool.{true, false, false≢true}

pub fault-not-clear : (n p : ℕ) → fault n p ≡ clear → ⊥
fault-not-clear n p e = let z : ◌≡◌ {A = ℕ} 0 1 = cc in omega arith

pub clear_true : (f : Fault) → is_clear f ≡ true → f ≡ clear
unfolding is_clear
clear_true clear e = refl
clear_true (fault n p) e = absurd (false≢true e)

pub is-clear : {f : Fault} → f ≡ clear → true ≡ is_clear f
unfolding is_clear
is-clear e = rw e

pub not-clear : {f : Fault} {k p : ℕ} → f ≡ fault k p → false ≡ is_clear f
unfolding is_clear
not-clear e = rw e
