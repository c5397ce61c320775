-- An index that is known as another: it fits its type, and stands within its table.
use mathlib.Core.Path.{◌≡◌}
use mathlib.Core.List.{List}
use Prim.Native.Nat.{ℕ, ◌*◌, ◌≤◌, ◌<◌}
use native.Mathlib.Omega.{arith}
use lib.IntN.{ℤ}
use lib.ListN.{length}
use mir.Syntax.{w64}
use mir.Val.{Fits}

pub small_fits : (i k : ℕ) → i ≡ k → k ≤ 40000 → Fits w64 i
small_fits i k e h = record { fits = omega arith }

pub byte_fits : (i k : ℕ) → i ≡ k → k ≤ 40000 → Fits w64 (i * 8)
byte_fits i k e h = record { fits = omega arith }

pub index_below : (i k : ℕ) (table : List ℤ) → i ≡ k → k < length table → i < length table
index_below i k table e h = omega arith

pub index_within : (i k : ℕ) (table : List ℤ) → i ≡ k → k ≤ length table → i ≤ length table
index_within i k table e h = omega arith
