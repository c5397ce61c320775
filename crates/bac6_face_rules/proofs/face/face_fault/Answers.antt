-- Each step by the law of a walk over rows.
use Rattle.std.proofs.Common.{◌≡◌, ◌+◌, ◌-◌, ◌*◌, suc, sym, ◌∙◌, arith}
use Rattle.table_columns.proofs.FirstBad.{walk_start, walk_over, walk_passed, walk_found}
use Rattle.table_columns.proofs.Rows.{row-part, row-length}
use Rattle.bac6_face_rules.specs.Internal.Rows.{face_row_fine}
use Rattle.bac6_face_rules.proofs.face.face_fault.Goals as goal

pub loop-row-init : goal.loop-row-init
loop-row-init c = walk_start 13 11 _ _ _

pub is_fine-requires : goal.is_fine-requires
is_fine-requires c = rw (row-part 11 (c.loop-row.row * 11)) (row-length 11 c.args.table.now (c.loop-row.row * 11) (omega arith))

pub returns-then-not-is_fine : goal.returns-then-not-is_fine
returns-then-not-is_fine c =
    let a = c.args in
    let row = c.loop-row.row in
    let n : a.count - row ≡ suc (a.count - (row + 1)) = omega arith in
    let told = rw (row-part 11 (row * 11)) at c.is_fine.ensures in
    sym (c.loop-row.invariant ∙ rw n (walk_found 13 11 (face_row_fine a.materials a.points a.uvs) _ _ _ _ (omega arith) (sym told ∙ c.if-not-is_fine.true)))

pub loop-row-preserved : goal.loop-row-preserved
loop-row-preserved c =
    let a = c.args in
    let row = c.loop-row.row in
    let n : a.count - row ≡ suc (a.count - (row + 1)) = omega arith in
    let s : row + 1 ≡ suc row = omega arith in
    let b : suc row * 11 ≡ row * 11 + 11 = omega arith in
    let told = rw (row-part 11 (row * 11)) at c.is_fine.ensures in
    c.loop-row.invariant ∙ rw (n, s, b) (walk_passed 13 11 (face_row_fine a.materials a.points a.uvs) _ _ _ _ (omega arith) (sym told ∙ c.if-not-is_fine.false))

pub returns : goal.returns
returns c = sym (c.loop-row.invariant ∙ walk_over 13 11 _ _ _ _ _ (λ h. omega arith))
