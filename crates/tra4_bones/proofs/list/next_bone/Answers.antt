-- `next_bone` is one step: the bone's, and a row more.
use Rattle.std.proofs.Common.{sym}
use Rattle.parse_cursor.proofs.Steps.{parsed_exit}
use Rattle.tra4_bones.proofs.Lists.{next_step, next_off}
use Rattle.tra4_bones.proofs.list.next_bone.Goals as goal

pub returns-in_err-keys-clause-key_rows_after : goal.returns-in_err-keys-clause-key_rows_after
returns-in_err-keys-clause-key_rows_after c = parsed_exit _ _ _ _ c.from_residual.ensures.1 (next_off _ _ _ _ _ _ _ c.requires.0 (sym c.in_err-keys.ensures.read))

pub returns-clause-key_rows_after : goal.returns-clause-key_rows_after
returns-clause-key_rows_after c = next_step _ _ _ _ _ _ _ c.requires.0 _ _ c.in_ok-keys.ensures.read
