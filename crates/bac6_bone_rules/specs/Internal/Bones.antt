-- Rule 10 over a table of bones: its flags, and the parents that its rows are given.
use Rattle.std.specs.Prelude.{◌≡◌, List, [], ◌∷◌, map, true, false, ℕ, suc, ◌+◌, ◌-◌, ◌*◌, ◌≤◌, ◌<◌, length, drop, get_or, set, ℤ, pos, Option, Some, None}
use Rattle.bac6_text.specs.Rules.{Flags, Placed, placed, short, is_set, joined, bone_list, parents_in}
use Rattle.table_columns.specs.Parts.{rows_of}

-- a row's child flag and brother flag
unfoldable pub row_flags : List ℤ → Flags
row_flags r = (get_or r 9 (pos 0), get_or r 10 (pos 0))

unfoldable pub flags_in : ℕ → List ℤ → List Flags
flags_in n table = map row_flags (rows_of 14 n table)

-- parents set into the rows from one on
unfoldable pub parents_from : ℕ → List ℤ → List ℤ → List ℤ
parents_from row [] table = table
parents_from row (p ∷ ps) table = parents_from (suc row) ps (set table (row * 14 + 11) p)

unfoldable pub with_parents : List ℤ → List ℤ → List ℤ
with_parents ps table = parents_from 0 ps table

-- one bone under a parent, and its children's list
unfoldable pub one_bone : ℕ → ℤ → ℕ → List Flags → Placed
one_bone n parent row [] = short
one_bone n parent row (f ∷ flags) =
    joined (parent ∷ []) (elim (is_set f.0) [ true ↦ bone_list n (pos row) (suc row) flags | false ↦ placed [] (suc row) flags ])

-- what a walk over bones from a row on answers and leaves, of n rows, where `p` is what they are placed as:
-- the next row, and the parents set; or that the rows run out, with some parents set
unfoldable pub Walked : ℕ → ℕ → List ℤ → List ℤ → Placed → Option ℕ → Type 0
Walked n row entry exit p (Some next) =
    (p ≡ placed (parents_in p) next (drop next (flags_in n entry)))
    × (exit ≡ parents_from row (parents_in p) entry)
    × (next ≡ row + length (parents_in p))
    × (row < next)
    × (next ≤ n)
Walked n row entry exit p None = (p ≡ short) × ((ps : List ℤ) × (exit ≡ parents_from row ps entry) × (length ps ≤ n - row))

-- the table after all bones are placed: where the rows run out, some of their parents are set, and nothing else is altered
unfoldable pub Settled : ℕ → List ℤ → List ℤ → Placed → Type 0
Settled n entry exit (placed ps row flags) = exit ≡ with_parents ps entry
Settled n entry exit short = (ps : List ℤ) × (exit ≡ with_parents ps entry) × (length ps ≤ n)
