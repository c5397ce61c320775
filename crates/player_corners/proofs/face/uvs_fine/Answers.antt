-- `uvs_fine` is the one test or the other: no corner used is all of them none.
use Rattle.std.proofs.Common.{sym, ◌∙◌}
use Rattle.player_face_tests.proofs.Corners.{none_used}
use Rattle.player_corners.proofs.face.uvs_fine.Goals as goal

pub returns-then-corners_fine : goal.returns-then-corners_fine
returns-then-corners_fine c = rw (sym (c.corners_fine.ensures ∙ none_used _ _) ∙ c.if-corners_fine.true) c.if-corners_fine.true

pub returns-else-corners_fine : goal.returns-else-corners_fine
returns-else-corners_fine c = rw (sym (c.corners_fine.ensures ∙ none_used _ _) ∙ c.if-corners_fine.false) c.corners_fine-else-corners_fine.ensures
