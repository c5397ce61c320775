-- Numbers and rows of a table, by their index.
use Rattle.std.specs.Prelude.{true, false, List, [], ◌∷◌, ℕ, zero, suc, ◌+◌, leb, ℤ, pos, length, get_or, take, drop}

-- the number at an index
unfoldable pub number_at : List ℤ → ℕ → ℤ
number_at table i = get_or table i (pos 0)

-- so many numbers from an index on
unfoldable pub numbers_at : List ℤ → ℕ → ℕ → List ℤ
numbers_at table i n = take n (drop i table)

-- so many rows of a width from an index on
unfoldable pub rows_at : ℕ → List ℤ → ℕ → ℕ → List (List ℤ)
rows_at w table i zero = []
rows_at w table i (suc n) = numbers_at table i w ∷ rows_at w table (i + w) n

-- the first n whole rows of a width; fewer where the table is shorter
unfoldable pub rows_of : ℕ → ℕ → List ℤ → List (List ℤ)
rows_of w zero t = []
rows_of w (suc n) t = elim (leb w (length t)) [ true ↦ take w t ∷ rows_of w n (drop w t) | false ↦ [] ]
