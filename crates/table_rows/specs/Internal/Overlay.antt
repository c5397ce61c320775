-- Numbers over those of a table.
use Rattle.std.specs.Prelude.{List, [], ◌∷◌, ℕ, zero, suc, ℤ}

-- numbers over a table's first: those past its end are dropped
unfoldable pub overlay : List ℤ → List ℤ → List ℤ
overlay [] table = table
overlay (z ∷ zs) [] = []
overlay (z ∷ zs) (t ∷ table) = z ∷ overlay zs table

-- the same from an index on
unfoldable pub overlay_at : ℕ → List ℤ → List ℤ → List ℤ
overlay_at zero zs table = overlay zs table
overlay_at (suc i) zs [] = []
overlay_at (suc i) zs (t ∷ table) = t ∷ overlay_at i zs table
