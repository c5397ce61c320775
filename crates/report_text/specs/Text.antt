-- The text of numbers and of lines (document 01, "Listing"): decimal numbers, fields parted by tabs, a line feed at the end.
use Rattle.std.specs.Prelude.{List, [], ◌∷◌, ◌++◌, true, false, ℕ, zero, suc, ◌+◌, ◌/◌, ◌%◌, ltb, ℤ, pos, negsuc}

-- the decimal digits of n, which is below steps: those of n / 10, and then n % 10
unfoldable pub digits_in : ℕ → ℕ → List ℕ
digits_in zero n = []
digits_in (suc steps) n = elim (ltb n 10) [ true ↦ (48 + n) ∷ [] | false ↦ digits_in steps (n / 10) ++ ((48 + n % 10) ∷ []) ]

unfoldable pub digits : ℕ → List ℕ
digits n = digits_in (suc n) n

-- the digits, after a minus sign below zero
unfoldable pub numeral : ℤ → List ℕ
numeral (pos n) = digits n
numeral (negsuc n) = 45 ∷ digits (suc n)

-- each number after a tab
unfoldable pub fields : List ℤ → List ℕ
fields [] = []
fields (z ∷ zs) = (9 ∷ numeral z) ++ fields zs

unfoldable pub line : List ℕ → List ℤ → List ℕ
line word zs = word ++ (fields zs ++ (10 ∷ []))
