-- Rule 9 by its steps.
use mathlib.Core.Path.{◌≡◌}
use Prim.Native.Nat.{ℕ}
use borrow.Author.Tests.{eq-eqb, ne_eqb}
use Rattle.refusal.specs.Faults.{clear, fault}
use Rattle.bac6_text.specs.Rules.{normals_fault}

pub normals-same : (p n : ℕ) → p ≡ n → normals_fault p n ≡ clear
unfolding normals_fault
normals-same p n e = rw (eq-eqb p n e)

pub normals-other : (p n : ℕ) → (p ≡ n → ⊥) → normals_fault p n ≡ fault 9 n
unfolding normals_fault
normals-other p n e = rw (ne_eqb p n e)
