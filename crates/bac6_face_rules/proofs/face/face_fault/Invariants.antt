-- `face_fault` is the definition: the first row at fault is the first from `row` on.
use Rattle.std.proofs.Common.{◌≡◌, ◌-◌, ◌*◌}
use Rattle.refusal.specs.FirstBad.{first_bad}
use Rattle.bac6_face_rules.specs.Internal.Rows.{face_row_fine}
use Rattle.table_columns.specs.Parts.{rows_of}
use Rattle.table_columns.proofs.FirstBad.{bad_from}
use Rattle.bac6_face_rules.proofs.face.face_fault.Given as goal

abbrev pub invariant-loop-row : goal.invariant-loop-row
invariant-loop-row l = first_bad 13 (face_row_fine l.materials l.points l.uvs) 0 (rows_of 11 l.count l.table) ≡ bad_from 13 11 (face_row_fine l.materials l.points l.uvs) l.table l.row (l.count - l.row) (l.row * 11)
