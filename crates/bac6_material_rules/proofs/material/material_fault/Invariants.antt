-- `material_fault` is the definition: the first row at fault is the first from `row` on.
use Rattle.std.proofs.Common.{◌≡◌, ◌-◌, ◌*◌}
use Rattle.refusal.specs.FirstBad.{first_bad}
use Rattle.bac6_text.specs.Rules.{material_fine}
use Rattle.table_columns.specs.Parts.{rows_of}
use Rattle.table_columns.proofs.FirstBad.{bad_from}
use Rattle.bac6_material_rules.proofs.material.material_fault.Given as goal

abbrev pub invariant-loop-row : goal.invariant-loop-row
invariant-loop-row l = first_bad 12 (material_fine l.textures l.colours) 0 (rows_of 9 l.count l.table) ≡ bad_from 12 9 (material_fine l.textures l.colours) l.table l.row (l.count - l.row) (l.row * 9)
