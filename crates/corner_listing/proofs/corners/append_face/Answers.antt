-- Each turn by the law of a thing's lines more; at the end all lines are put.
use Rattle.std.proofs.Common.{ap}
use Rattle.report_lists.proofs.Turns.{begin, next, all_put, all_short}
use Rattle.corner_listing.specs.Corners.{corner_lines, face_lines}
use Rattle.corner_listing.proofs.corners.append_face.Goals as goal

pub loop-k-init : goal.loop-k-init
loop-k-init c = begin

pub loop-k-preserved : goal.loop-k-preserved
loop-k-preserved c =
    let l = c.loop-k in
    let put = c.append_corner-filled.ensures in
    next l.invariant _ (ap (corner_lines c.args.face l.k) c.corner-answer.ensures) c.loop-k-test.true put.lines put.most

pub returns-clause-lines : goal.returns-clause-lines
unfolding face_lines
returns-clause-lines c = all_put c.loop-k.invariant c.loop-k-test.false

pub returns-clause-most : goal.returns-clause-most
unfolding face_lines
returns-clause-most c = all_short c.loop-k.invariant c.loop-k-test.false
