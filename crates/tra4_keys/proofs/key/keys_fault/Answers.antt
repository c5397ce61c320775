-- Each bone by what the walk over its channels says.
use Rattle.std.proofs.Common.{◌≡◌, ◌+◌, ◌-◌, ◌*◌, suc, sym, ◌∙◌, arith}
use Rattle.std.proofs.lemmas.Result.{err_from_is_err_and}
use mir.Facts.{to_z-of_z}
use Rattle.table_columns.proofs.Rows.{row-part}
use Rattle.tra4_keys.proofs.Keys.{keys_end, walked_within, walked_on, walked_fault, bones-start, bones-over, bones_more}
use Rattle.tra4_keys.proofs.key.keys_fault.Goals as goal

pub loop-i-init : goal.loop-i-init
loop-i-init c = record { within = omega arith; same = bones-start _ _ _ _ }

pub returns-in_err-row : goal.returns-in_err-row
returns-in_err-row c =
    let a = c.args in
    let i = c.loop-i.i in
    let n : a.bone_count - i ≡ suc (a.bone_count - (i + 1)) = omega arith in
    let told = rw (to_z-of_z c.ranges.total, row-part 22 (i * 22)) at c.bone_fault.ensures in
    let p = err_from_is_err_and c.from_residual.result c.from_residual.ensures.1 in
    rw (p.1, p.2) (sym (rw (to_z-of_z c.ranges.total) at c.loop-i.invariant.same ∙ rw (n, bones_more (a.bone_count - (i + 1)) (i * 22) a.bones.now (omega arith)) (walked_fault _ _ _ _ told c.in_err-row.was _)))

pub loop-i-preserved : goal.loop-i-preserved
loop-i-preserved c =
    let a = c.args in
    let i = c.loop-i.i in
    let n : a.bone_count - i ≡ suc (a.bone_count - (i + 1)) = omega arith in
    let b : i * 22 + 22 ≡ (i + 1) * 22 = omega arith in
    let told = rw (to_z-of_z c.ranges.total, row-part 22 (i * 22)) at c.bone_fault.ensures in
    record {
      within = walked_within _ _ _ _ told c.in_ok-row.was;
      same = rw (to_z-of_z c.ranges.total) (rw (to_z-of_z c.ranges.total) at c.loop-i.invariant.same ∙ rw (n, bones_more (a.bone_count - (i + 1)) (i * 22) a.bones.now (omega arith), b) (walked_on _ _ _ _ told c.in_ok-row.was _));
    }

pub returns : goal.returns
returns c = sym (rw (to_z-of_z c.ranges.total) at c.loop-i.invariant.same ∙ rw (bones-over (c.args.bone_count - c.loop-i.i) (c.loop-i.i * 22) c.args.bones.now (λ h. omega arith)) (keys_end _ _ _))
