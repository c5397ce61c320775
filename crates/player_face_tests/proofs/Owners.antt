-- A vertex's owner, in the part of the table from where the owners begin, as the code lends it.
use mathlib.Core.Path.{◌≡◌, ap, ◌∙◌}
use mathlib.Core.List.{List}
use Prim.Native.Nat.{ℕ, ◌+◌, ◌-◌}
use lib.IntN.{ℤ, pos, nat_abs}
use lib.ListN.{length, get_or, take, drop}
use lib.Seq.{get_or-drop}
use Rattle.table_counts.specs.declared.counts.FigureCounts.{FigureCounts}
use Rattle.table_columns.specs.Parts.{number_at}
use Rattle.table_columns.proofs.Rows.{part-rest}
use Rattle.table_figure.specs.declared.sections.FigureSections.{FigureSections}
use Rattle.table_figure.specs.Internal.Found.{Found}
use Rattle.table_figure.proofs.Founds.{owners_are}
use Rattle.player_spec.specs.Lookups.{owner_at}

pub owner-part : (n : FigureCounts) (table : List ℤ) (s : FigureSections) (f : Found n table s) (z : ℤ) → number_at (take (length table - s.owners) (drop s.owners table)) (nat_abs z) ≡ owner_at n table z
unfolding number_at owner_at
owner-part n table s f z =
    ap (λ (l : List ℤ). get_or l (nat_abs z) (pos 0)) (part-rest s.owners table)
    ∙ get_or-drop s.owners table (nat_abs z) (pos 0)
    ∙ ap (λ (i : ℕ). get_or table (i + nat_abs z) (pos 0)) (owners_are n table s f)
