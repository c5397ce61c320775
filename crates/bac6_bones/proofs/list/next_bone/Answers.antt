-- `next_bone` is one step, by what the bones before it have at fault.
use Rattle.std.proofs.Common.{Ok, Err, sym}
use Rattle.parse_cursor.proofs.Steps.{parsed_exit}
use Rattle.bac6_bones.proofs.Lists.{bone-stepped}
use Rattle.bac6_bones.proofs.list.next_bone.Goals as goal

pub returns-in_err-fine-clause-owners_after : goal.returns-in_err-fine-clause-owners_after
returns-in_err-fine-clause-owners_after c =
    parsed_exit _ _ _ _ c.from_residual.ensures.1
    (sym (bone-stepped _ _ _ _ _ _ c.args.table.now _ c.args.owners.now c.requires.0 (Err _) _ _ c.requires.1 c.is_none.ensures c.in_err-fine.ensures))

pub returns-clause-owners_after : goal.returns-clause-owners_after
returns-clause-owners_after c = rw (c.or.ensures, c.then_some.ensures) (bone-stepped _ _ _ _ _ _ _ _ _ c.requires.0 (Ok _) _ _ c.requires.1 c.is_none.ensures c.in_ok-fine.ensures)
