-- The rules 8 to 13 in order, over tables of rows.
use Rattle.std.specs.Prelude.{List, ℤ}
use Rattle.refusal.specs.Faults.{Fault}
use Rattle.refusal.specs.Rules.{or_else, too_many}
use Rattle.bac6_text.specs.Rules.{normals_fault, bones_fault, material_fine}
use Rattle.refusal.specs.FirstBad.{first_bad}
use Rattle.table_counts.specs.declared.counts.FigureCounts.{FigureCounts}
use Rattle.bac6_face_rules.specs.Internal.Rows.{face_row_fine}
use Rattle.table_columns.specs.Parts.{rows_of}
use Rattle.bac6_bone_rules.specs.Internal.Bones.{flags_in}
use Rattle.table_counts.specs.Counts.{figure_mosts, figure_lists}

-- rules 8 and 9
unfoldable pub counts_fault : FigureCounts → Fault
counts_fault n = or_else (too_many 0 (figure_lists n) figure_mosts) (normals_fault n.points n.normals)

-- rules 11 to 13
unfoldable pub later_fault : FigureCounts → Fault → List ℤ → List ℤ → Fault
later_fault n claims ms fs =
    or_else claims
    (or_else (first_bad 12 (material_fine n.textures n.colours) 0 (rows_of 9 n.materials ms))
    (first_bad 13 (face_row_fine n.materials n.points n.uvs) 0 (rows_of 11 n.faces fs)))

-- of 8 to 13 the lowest number, with its lowest row; `claims` is what was found of rule 11
unfoldable pub tables_fault : FigureCounts → Fault → List ℤ → List ℤ → List ℤ → Fault
tables_fault n claims ms bs fs = or_else (counts_fault n) (or_else (bones_fault (flags_in n.bones bs)) (later_fault n claims ms fs))
