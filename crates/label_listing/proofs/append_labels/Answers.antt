-- Each turn by the law of a thing's lines more; at the end all lines are put.
use Rattle.std.proofs.Common.{◌≡◌, ◌-◌, ap, arith, length}
use Rattle.report_lists.proofs.Turns.{begin, next, all_put, all_short}
use Rattle.label_listing.specs.Lines.{label_parts, labels_in}
use Rattle.label_listing.proofs.Labels.{label-most}
use Rattle.label_listing.proofs.append_labels.Goals as goal

pub loop-bone-init : goal.loop-bone-init
loop-bone-init c = begin

pub loop-bone-preserved : goal.loop-bone-preserved
loop-bone-preserved c =
    let l = c.loop-bone in
    let a = c.args in
    let put = c.append_label-at.ensures in
    let name = c.label-name.ensures in
    let few = label-most a.figure.now a.n a.table.now a.movement.now a.m a.moves.now l.bone in
    next l.invariant _ (ap (label_parts l.bone) name) c.loop-bone-test.true put.parts (omega (arith, put.most, ap length name, few))

pub returns-clause-lines : goal.returns-clause-lines
unfolding labels_in
returns-clause-lines c =
    let all : c.args.n.bones - 0 ≡ c.args.n.bones = omega arith in
    rw all at (all_put c.loop-bone.invariant c.loop-bone-test.false)

pub returns-clause-most : goal.returns-clause-most
unfolding labels_in
returns-clause-most c =
    let all : c.args.n.bones - 0 ≡ c.args.n.bones = omega arith in
    rw all at (all_short c.loop-bone.invariant c.loop-bone-test.false)
