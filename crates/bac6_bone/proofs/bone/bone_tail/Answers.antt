-- `bone_tail` is a bone's row, set down in the table, and its claims.
use Rattle.std.proofs.Common.{sym}
use mir.Facts.{to_z-of_z}
use Rattle.text_bytes.specs.Bytes.{bytes}
use Rattle.parse_cursor.proofs.Steps.{parsed_exit}
use Rattle.bac6_bone.proofs.Turns.{bone_on, bone_off}
use Rattle.bac6_bone.proofs.bone.bone_tail.Goals as goal

pub returns-in_err-read : goal.returns-in_err-read
unfolding bytes
returns-in_err-read c = parsed_exit _ _ _ _ c.from_residual.ensures.1 (bone_off _ _ _ _ _ _ _ _ c.keyword-d.ensures (rw (to_z-of_z c.ranges.bone) at (sym c.in_err-read.ensures)))

pub returns : goal.returns
unfolding bytes
returns c = rw c.store.ensures (bone_on _ _ _ _ _ _ _ _ c.keyword-d.ensures _ _ _ (rw (to_z-of_z c.ranges.bone) at c.in_ok-read.ensures))
