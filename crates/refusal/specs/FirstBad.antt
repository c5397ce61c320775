-- The first row that fails a test, as a fault of a number.
use Rattle.std.specs.Prelude.{List, [], ◌∷◌, Bool, true, false, ◌&&◌, ℕ, suc}
use Rattle.refusal.specs.Faults.{Fault, clear, fault}

unfoldable pub all : {A : Type 0} → (A → Bool) → List A → Bool
all t [] = true
all t (a ∷ l) = t a && all t l

-- a fault of a number at the first row that fails a test
unfoldable pub first_bad : {A : Type 0} → ℕ → (A → Bool) → ℕ → List A → Fault
first_bad n t row [] = clear
first_bad n t row (a ∷ l) = elim (t a) [ true ↦ first_bad n t (suc row) l | false ↦ fault n row ]
