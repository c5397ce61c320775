-- `uv_fine` is the test of both numbers.
use Rattle.std.proofs.Common.{sym, ◌∙◌}
use Rattle.std.proofs.lemmas.Int.{to_z-of_z}
use Rattle.player_spec.specs.Lookups.{all_float}
use Rattle.player_corners.proofs.FaceRows.{and_last}
use Rattle.player_corners.proofs.point.uv_fine.Goals as goal

pub returns-then-is_float : goal.returns-then-is_float
unfolding all_float
returns-then-is_float c = rw (sym (rw (to_z-of_z _ _ c.ranges.u) at c.is_float.ensures) ∙ c.if-is_float.true) ((rw (to_z-of_z _ _ c.ranges.v) at c.is_float-then-is_float.ensures) ∙ sym (and_last _))

pub returns-else-is_float : goal.returns-else-is_float
unfolding all_float
returns-else-is_float c = rw (sym (rw (to_z-of_z _ _ c.ranges.u) at c.is_float.ensures) ∙ c.if-is_float.false) c.if-is_float.false
