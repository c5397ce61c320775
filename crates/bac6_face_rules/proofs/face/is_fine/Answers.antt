-- `is_fine` is the definition: past the test of the material, the corners are as many as the size says.
use Rattle.std.proofs.Common.{◌≡◌, sym, true, ◌∙◌, rules}
use Rattle.signed.proofs.Tests.{tested}
use Rattle.table_references.specs.References.{is_row}
use Rattle.table_columns.specs.Columns.{face_material}
use Rattle.bac6_face_rules.proofs.Faces.{no_material, with_four, with_three}
use Rattle.bac6_face_rules.proofs.face.is_fine.Goals as goal
use Rattle.bac6_face_rules.proofs.face.is_fine.Goals.{then-f-eq4, else-f-eq4}

pub returns-then-is_row : goal.returns-then-is_row
returns-then-is_row c =
    let f = c.args.f.now in
    let known : is_row c.args.materials (face_material f) ≡ true = sym (tested (is_row c.args.materials) (face_material f) (search rules) c.is_row.ensures) ∙ c.if-is_row.true in
    c.are_corners.ensures ∙ elim c.if-f-eq4.branch [
      | then-f-eq4 w ↦ rw w.used-is (sym (with_four c.args.materials _ _ f known (search rules) w.if-f-eq4.true))
      | else-f-eq4 w ↦ rw w.used-is (sym (with_three c.args.materials _ _ f known w.if-f-eq4.false))
    ]

pub returns-else-is_row : goal.returns-else-is_row
returns-else-is_row c = c.if-is_row.false ∙ sym (no_material _ _ _ _ (sym (tested (is_row _) _ (search rules) c.is_row.ensures) ∙ c.if-is_row.false))
