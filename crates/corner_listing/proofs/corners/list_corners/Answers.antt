-- Each turn by the law of a thing's lines more; at the end all lines are put.
use Rattle.std.proofs.Common.{refl}
use Rattle.report_lists.proofs.Turns.{begin, next, all_put, all_within, all_whole}
use Rattle.corner_listing.specs.Corners.{figure_lines, figure_text}
use Rattle.corner_listing.proofs.corners.list_corners.Goals as goal

pub loop-face-init : goal.loop-face-init
loop-face-init c = begin

pub loop-face-preserved : goal.loop-face-preserved
loop-face-preserved c =
    let put = c.append_face-filled.ensures in
    next c.loop-face.invariant _ refl c.loop-face-test.true put.lines put.most

pub returns-clause-lines : goal.returns-clause-lines
unfolding figure_lines
returns-clause-lines c = all_put c.loop-face.invariant c.loop-face-test.false

pub returns-clause-within : goal.returns-clause-within
returns-clause-within c = all_within c.loop-face.invariant c.loop-face-test.false

pub returns-clause-whole : goal.returns-clause-whole
unfolding figure_lines figure_text
returns-clause-whole c = all_whole c.loop-face.invariant c.loop-face-test.false
