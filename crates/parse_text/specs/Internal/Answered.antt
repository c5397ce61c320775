-- A format's outcome as its reader tells it and lays it.
use Rattle.std.specs.Prelude.{◌≡◌, List, ℤ, length}
use Rattle.refusal.specs.Outcomes.{Outcome, fitted, laid}

-- the answer, and what is left of the table
pub record Answered {A R : Type 0} (answer_of : Outcome A → R) (layout : A → List ℤ) (o : Outcome A) (table exit : List ℤ) (r : R) : Type 0 where
  pub answer : r ≡ answer_of (fitted layout (length table) o)
  pub content : exit ≡ laid layout table (fitted layout (length table) o)
