-- Each step by the law of a walk over rows.
use Rattle.std.proofs.Common.{◌≡◌, ◌+◌, ◌-◌, ◌*◌, suc, sym, ◌∙◌, arith}
use Rattle.table_columns.proofs.FirstBad.{walk_start, walk_over, walk_passed, walk_found}
use Rattle.table_columns.proofs.Rows.{row-part, row-length}
use Rattle.bac6_text.specs.Rules.{material_fine}
use Rattle.bac6_material_rules.proofs.material.material_fault.Goals as goal

pub loop-row-init : goal.loop-row-init
loop-row-init c = walk_start 12 9 _ _ _

pub is_fine-requires : goal.is_fine-requires
is_fine-requires c = rw (row-part 9 (c.loop-row.row * 9)) (row-length 9 c.args.table.now (c.loop-row.row * 9) (omega arith))

pub returns-then-not-is_fine : goal.returns-then-not-is_fine
returns-then-not-is_fine c =
    let a = c.args in
    let row = c.loop-row.row in
    let n : a.count - row ≡ suc (a.count - (row + 1)) = omega arith in
    let told = rw (row-part 9 (row * 9)) at c.is_fine.ensures in
    sym (c.loop-row.invariant ∙ rw n (walk_found 12 9 (material_fine a.textures a.colours) _ _ _ _ (omega arith) (sym told ∙ c.if-not-is_fine.true)))

pub loop-row-preserved : goal.loop-row-preserved
loop-row-preserved c =
    let a = c.args in
    let row = c.loop-row.row in
    let n : a.count - row ≡ suc (a.count - (row + 1)) = omega arith in
    let s : row + 1 ≡ suc row = omega arith in
    let b : suc row * 9 ≡ row * 9 + 9 = omega arith in
    let told = rw (row-part 9 (row * 9)) at c.is_fine.ensures in
    c.loop-row.invariant ∙ rw (n, s, b) (walk_passed 12 9 (material_fine a.textures a.colours) _ _ _ _ (omega arith) (sym told ∙ c.if-not-is_fine.false))

pub returns : goal.returns
returns c = sym (c.loop-row.invariant ∙ walk_over 12 9 _ _ _ _ _ (λ h. omega arith))
