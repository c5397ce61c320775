-- What the rules of both formats share: the first fault of two, and rule 8 (document 01, "Refusal numbers").
use Rattle.std.specs.Prelude.{List, [], ◌∷◌, true, false, ℕ, suc, leb}
use Rattle.refusal.specs.Faults.{Fault, clear, fault}

-- the first fault of two
unfoldable pub or_else : Fault → Fault → Fault
or_else clear b = b
or_else (fault n p) b = fault n p

-- 8: too many rows, at the first such list, by each list's count and its most
unfoldable pub too_many : ℕ → List ℕ → List ℕ → Fault
too_many i [] ms = clear
too_many i (n ∷ ns) [] = clear
too_many i (n ∷ ns) (m ∷ ms) = elim (leb n m) [ true ↦ too_many (suc i) ns ms | false ↦ fault 8 i ]
