-- `bones` is ( and keyword, the first bone, and then those after it.
use Rattle.std.proofs.Common.{sym}
use Rattle.text_bytes.specs.Bytes.{bytes}
use Rattle.parse_cursor.proofs.Steps.{parsed_exit}
use Rattle.tra4_bones.proofs.Lists.{bones-from, bones-off}
use Rattle.tra4_bones.proofs.list.bones.Goals as goal

pub returns-in_err-first : goal.returns-in_err-first
unfolding bytes
returns-in_err-first c = parsed_exit _ _ _ _ c.from_residual.ensures.1 (bones-off _ _ _ _ _ c.opened-start.ensures (sym c.in_err-first.ensures.key_rows_after))

pub returns : goal.returns
unfolding bytes
returns c = bones-from _ _ _ _ _ c.opened-start.ensures _ _ c.in_ok-first.ensures.key_rows_after c.more_bones.ensures
