-- `is_frame` is the definition, whose first test decides or leaves the second.
use Rattle.tra4_text.specs.Rules.{is_frame}
use mir.Facts.{to_z-of_z}
use Rattle.tra4_tests.proofs.frame.is_frame.Goals as goal

pub returns-then-frame-ge0 : goal.returns-then-frame-ge0
unfolding is_frame
returns-then-frame-ge0 c =
    let f = c.ranges in
    let e = rw (to_z-of_z f.frame) at c.if-frame-ge0.true in
    rw (to_z-of_z f.frame, to_z-of_z f.total) (rw e)

pub returns-else-frame-ge0 : goal.returns-else-frame-ge0
unfolding is_frame
returns-else-frame-ge0 c =
    let e = rw (to_z-of_z c.ranges.frame) at c.if-frame-ge0.false in
    rw (to_z-of_z c.ranges.frame) (rw e)
