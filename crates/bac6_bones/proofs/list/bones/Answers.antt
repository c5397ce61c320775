-- `bones` is ( and the first bone, and then those after it.
use Rattle.std.proofs.Common.{Ok, sym}
use Rattle.parse_cursor.proofs.Steps.{parsed_exit}
use Rattle.bac6_bones.proofs.Lists.{bones-from, bones_stopped}
use Rattle.bac6_bones.proofs.list.bones.Goals as goal

pub returns-in_err-first : goal.returns-in_err-first
returns-in_err-first c = parsed_exit _ _ _ _ c.from_residual.ensures.1 (bones_stopped _ _ _ _ _ _ c.opening-start.ensures (sym c.in_err-first.ensures.owners_after))

pub returns : goal.returns
returns c = bones-from _ _ _ _ _ _ c.opening-start.ensures (Ok _) _ c.in_ok-first.ensures.owners_after c.more_bones.ensures
