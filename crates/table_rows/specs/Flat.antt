-- Rows one after the other.
use Rattle.std.specs.Prelude.{List, [], ◌∷◌, ◌++◌, ℤ}

-- rows one after the other
unfoldable pub flat : List (List ℤ) → List ℤ
flat [] = []
flat (r ∷ rs) = r ++ flat rs
