-- `pattern_fits` is the definition: the frame's test decides, or leaves the group's.
use Rattle.std.proofs.Common.{◌≡◌, sym, ◌∙◌}
use Rattle.tra4_text.specs.Movement.{frame_of, group_of}
use Rattle.tra4_text.specs.Rules.{is_frame, pattern_fine}
use mir.Facts.{to_z-of_z}
use Rattle.tra4_tests.proofs.line.pattern_fits.Goals as goal

pub returns-then-is_frame : goal.returns-then-is_frame
unfolding pattern_fine frame_of group_of
returns-then-is_frame c flag =
    let f = c.ranges in
    let e : is_frame c.args.total c.args.frame ≡ _ = sym (rw (to_z-of_z f.total, to_z-of_z f.frame) at c.is_frame.ensures) ∙ c.if-is_frame.true in
    rw (to_z-of_z f.group) (rw e)

pub returns-else-is_frame : goal.returns-else-is_frame
unfolding pattern_fine frame_of group_of
returns-else-is_frame c flag =
    let f = c.ranges in
    let e : is_frame c.args.total c.args.frame ≡ _ = sym (rw (to_z-of_z f.total, to_z-of_z f.frame) at c.is_frame.ensures) ∙ c.if-is_frame.false in
    rw (c.if-is_frame.false, e)
