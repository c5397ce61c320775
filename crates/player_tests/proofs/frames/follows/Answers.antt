-- `follows` is the definition: a frame of the movement, after the one before.
use Rattle.std.proofs.Common.{◌≡◌, sym, ◌∙◌}
use Rattle.std.proofs.lemmas.Int.{to_z-of_z}
use Rattle.table_columns.proofs.Casts.{natural_cast}
use Rattle.tra4_text.specs.Rules.{is_frame}
use Rattle.tra4_tests.proofs.Frames.{frame_is}
use Rattle.player_tests.proofs.KeyFrames.{follow_outside, follow_is}
use Rattle.player_tests.proofs.frames.follows.Goals as goal
use Rattle.player_tests.proofs.frames.follows.Goals.{After-is_frame}

told : (c : After-is_frame) → c.is_frame.result ≡ is_frame c.args.total c.args.f
told c = rw (to_z-of_z _ _ c.ranges.total, to_z-of_z _ _ c.ranges.f) at c.is_frame.ensures

pub overflow_cast-result : goal.overflow_cast-result
overflow_cast-result c = natural_cast _ c.ranges.f (frame_is _ _ (sym (told (goal.at.overflow_cast-result c).After-is_frame) ∙ c.if-is_frame.true))

pub returns-then-is_frame : goal.returns-then-is_frame
returns-then-is_frame c v = rw (to_z-of_z _ _ c.ranges.f) (sym (follow_is _ _ _ v (sym (told (goal.at.returns-then-is_frame c).After-is_frame) ∙ c.if-is_frame.true)))

pub returns-else-is_frame : goal.returns-else-is_frame
returns-else-is_frame c v = c.if-is_frame.false ∙ sym (follow_outside _ _ _ v (sym (told (goal.at.returns-else-is_frame c).After-is_frame) ∙ c.if-is_frame.false))
