-- The rules over the table of rows, and what they leave in it.
use Rattle.std.specs.Prelude.{◌≡◌, List, ◌++◌, ℤ, take, drop}
use Rattle.refusal.specs.Faults.{Fault, clear, fault}
use Rattle.table_counts.specs.declared.counts.FigureCounts.{FigureCounts}
use Rattle.bac6_text.specs.Rules.{whole_list}
use Rattle.bac6_bone_rules.specs.Internal.Bones.{flags_in, Settled}
use Rattle.bac6_rules.specs.Internal.Order.{counts_fault, tables_fault}
use Rattle.bac6_layout.specs.Internal.Places.{materials_from, bones_from, faces_from}

-- the first fault of the rules, each list from its place in the rows on; `claims` is what was found of rule 11
unfoldable pub rows_fault : FigureCounts → Fault → List ℤ → Fault
rows_fault n claims rows = tables_fault n claims (drop (materials_from n) rows) (drop (bones_from n) rows) (drop (faces_from n) rows)

-- the rows after the bones have been given their parents
pub record PlacedIn (n : FigureCounts) (entry exit : List ℤ) : Type 0 where
  pub bones : List ℤ
  pub placed : Settled n.bones (drop (bones_from n) entry) bones (whole_list (flags_in n.bones (drop (bones_from n) entry)))
  pub whole : exit ≡ take (bones_from n) entry ++ bones

-- but where rule 8 or 9 refuses, as at entry
unfoldable pub LeftBy : Fault → FigureCounts → List ℤ → List ℤ → Type 0
LeftBy clear n entry exit = PlacedIn n entry exit
LeftBy (fault k p) n entry exit = exit ≡ entry

unfoldable pub RowsLeft : FigureCounts → List ℤ → List ℤ → Type 0
RowsLeft n entry exit = LeftBy (counts_fault n) n entry exit
