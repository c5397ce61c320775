-- What is only there if a test holds.
use mathlib.Core.Path.{◌≡◌, refl, ap}
use mathlib.Core.Logic.{◌↔◌}
use mathlib.Core.Bool.{Bool, true, false, false≢true}
use mathlib.Core.Option.{some}
use Prim.Native.Nat.{ℕ}
use native.Mathlib.Omega.{arith}
use Rattle.player_spec.specs.Lookups.{only_if}

pub only_some : {A : Type 0} (b : Bool) (a s : A) → only_if b a ≡ some s ↔ ((b ≡ true) × (a ≡ s))
unfolding only_if
only_some true a s = (λ e. (refl, cc), λ e. ap some e.1)
only_some false a s = (λ e. absurd (let z : ◌≡◌ {A = ℕ} 0 1 = cc in omega arith), λ e. absurd (false≢true e.0))
