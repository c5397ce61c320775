-- A refusal's number and its place, or none.
use Rattle.std.specs.Prelude.{ℕ, Bool, true, false}

-- a refusal's number and its offset (01's "place"), or none
pub data Fault : Type 0 where
  clear : Fault
  fault : ℕ → ℕ → Fault

unfoldable pub is_clear : Fault → Bool
is_clear clear = true
is_clear (fault n p) = false
