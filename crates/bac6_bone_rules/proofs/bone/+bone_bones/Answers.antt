-- The cycle {bone, bones}: each turn of the code is a turn of the definition, by the laws of walks.
use Rattle.std.proofs.Common.{◌<◌, ◌^◌, ap, refl, sym, ◌∙◌, arith, rules, add-one}
use mir.Syntax.{w64}
use mir.Facts.{to_z-of_z, to_z_pos}
use Rattle.bac6_text.specs.Rules.{is_set}
use Rattle.bac6_bone_rules.proofs.Walks.{walked_as, child-kept, no_bone, bone_leaf, bone-child, list_short, list_last, list_more, row_there, next_within, clear_bits, set_bits}
use Rattle.bac6_bone_rules.proofs.bone.+bone_bones.Goals as goal

pub bone-returns-then-rows-row : goal.bone-returns-then-rows-row
bone-returns-then-rows-row t c = no_bone _ _ _ _ _ c.if-rows-row.true c.requires

pub bone-returns-then-table-base-eq0 : goal.bone-returns-then-table-base-eq0
bone-returns-then-table-base-eq0 t c =
    let a = c.args in
    let h : a.row < a.rows = c.if-rows-row.false in
    rw (to_z-of_z {w = w64} c.ranges.parent, add-one a.row)
    (bone_leaf a.rows a.row a.parent a.table.now h c.requires _ (sym (ap is_set (child-kept a.row a.table.now _)) ∙ clear_bits _ (search rules) c.if-table-base-eq0.true))

pub bone-returns : goal.bone-returns
bone-returns t c =
    let a = c.args in
    let h : a.row < a.rows = c.if-rows-row.false in
    let k : a.row < 2 ^ 63 = omega arith in
    bone-child a.rows a.row a.parent a.table.now h c.requires _ _
    (sym (ap is_set (child-kept a.row a.table.now _)) ∙ set_bits _ c.if-table-base-eq0.false)
    (rw (to_z-of_z {w = w64} c.ranges.parent, to_z_pos w64 k, add-one a.row) at c.bones.ensures)

pub bones-returns-in_err-next : goal.bones-returns-in_err-next
bones-returns-in_err-next t c =
    rw c.from_residual.ensures (list_short _ _ _ _ c.requires _ (walked_as _ _ _ _ (rw (to_z-of_z c.ranges.parent) at c.bone.ensures) refl c.in_err-next.was))

pub bones-overflow_mul-row : goal.bones-overflow_mul-row
bones-overflow_mul-row t c =
    let heard = walked_as _ _ _ _ (rw (to_z-of_z c.ranges.parent) at c.bone.ensures) refl c.in_ok-next.was in
    let there = row_there _ _ _ _ c.requires _ _ heard in
    omega arith

pub bones-overflow_add-row : goal.bones-overflow_add-row
bones-overflow_add-row t c =
    let heard = walked_as _ _ _ _ (rw (to_z-of_z c.ranges.parent) at c.bone.ensures) refl c.in_ok-next.was in
    let there = row_there _ _ _ _ c.requires _ _ heard in
    omega arith

pub bones-offset_bounds-table-row : goal.bones-offset_bounds-table-row
bones-offset_bounds-table-row t c =
    let heard = walked_as _ _ _ _ (rw (to_z-of_z c.ranges.parent) at c.bone.ensures) refl c.in_ok-next.was in
    let there = row_there _ _ _ _ c.requires _ _ heard in
    omega arith

pub bones-slice_copy_out-t-17 : goal.bones-slice_copy_out-t-17
bones-slice_copy_out-t-17 t c =
    let heard = walked_as _ _ _ _ (rw (to_z-of_z c.ranges.parent) at c.bone.ensures) refl c.in_ok-next.was in
    let there = row_there _ _ _ _ c.requires _ _ heard in
    omega (arith, c.bone.auto.table)

pub bones-returns-then-table-row-eq0 : goal.bones-returns-then-table-row-eq0
bones-returns-then-table-row-eq0 t c =
    let heard = walked_as _ _ _ _ (rw (to_z-of_z c.ranges.parent) at c.bone.ensures) refl c.in_ok-next.was in
    list_last _ _ _ _ c.requires _ _ heard (clear_bits _ (search rules) c.if-table-row-eq0.true)

pub bones-bones-requires : goal.bones-bones-requires
bones-bones-requires t c =
    let heard = walked_as _ _ _ _ (rw (to_z-of_z c.ranges.parent) at c.bone.ensures) refl c.in_ok-next.was in
    let within = next_within _ _ _ _ c.requires _ _ heard in
    (omega (arith, within, c.decreases), omega (arith, c.bone.auto.table))

pub bones-returns : goal.bones-returns
bones-returns t c =
    let heard = walked_as _ _ _ _ (rw (to_z-of_z c.ranges.parent) at c.bone.ensures) refl c.in_ok-next.was in
    list_more _ _ _ _ c.requires _ _ heard _ _ (set_bits _ c.if-table-row-eq0.false) (rw (to_z-of_z {w = w64} c.ranges.parent) at c.bones.ensures)
