-- What reading a text answers, in document 01's order: 1; 2; 3 and 4; 5, 6, 7; the format's rules; 17.
use Rattle.std.specs.Prelude.{List, ◌++◌, true, false, ℕ, leb, length, drop, ℤ}
use Rattle.refusal.specs.Faults.{Fault, clear, fault}

-- a refusal's number and place, or what the text says
pub data Outcome (A : Type 0) : Type 0 where
  rejected : ℕ → ℕ → Outcome A
  accepted : A → Outcome A

unfoldable pub ruled : {A : Type 0} → A → Fault → Outcome A
ruled a clear = accepted a
ruled a (fault n p) = rejected n p

-- 17, for a table of `room` numbers
unfoldable pub fitted : {A : Type 0} → (A → List ℤ) → ℕ → Outcome A → Outcome A
fitted layout room (rejected n p) = rejected n p
fitted layout room (accepted a) = elim (leb (length (layout a)) room) [ true ↦ accepted a | false ↦ rejected 17 (length (layout a)) ]

-- the table at exit: the layout and what stood beyond it, or the table at entry
unfoldable pub laid : {A : Type 0} → (A → List ℤ) → List ℤ → Outcome A → List ℤ
laid layout table (rejected n p) = table
laid layout table (accepted a) = layout a ++ drop (length (layout a)) table
