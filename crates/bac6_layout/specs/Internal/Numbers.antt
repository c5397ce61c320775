-- The numbers that are laid.
use Rattle.std.specs.Prelude.{List, [], ◌∷◌, ◌++◌, ℕ, ◌+◌, ◌*◌, ℤ, take, drop}
use Rattle.table_counts.specs.declared.counts.FigureCounts.{FigureCounts}
use Rattle.bac6_layout.specs.Internal.Places.{uvs_from}

unfoldable pub sum_of : List ℕ → ℕ
sum_of [] = 0
sum_of (n ∷ ns) = n + sum_of ns

-- a name, the rows up to the bones, the owners, the other rows, and the groups' names
unfoldable pub numbers_of : FigureCounts → List ℤ → List ℤ → List ℤ → List ℤ → List ℤ
numbers_of n name rows owners names =
    name
    ++ take (uvs_from n) rows
    ++ take n.points owners
    ++ take (n.uvs * 2 + n.faces * 11) (drop (uvs_from n) rows)
    ++ take (n.groups * 2) names
