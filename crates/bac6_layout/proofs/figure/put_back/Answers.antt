-- `put_back` lays so many numbers as the lists after the owners have, from their place on.
use Rattle.std.proofs.Common.{◌-◌, length, refl}
use Rattle.bac6_layout.proofs.Sums.{back_sum, back_room}
use Rattle.bac6_layout.proofs.Lays.{content_by, next_by}
use Rattle.bac6_layout.proofs.figure.put_back.Goals as goal

pub put_lists-requires : goal.put_lists-requires
put_lists-requires c = back_room c.args.e _ c.requires

pub returns-clause-content : goal.returns-clause-content
returns-clause-content c =
    let a = c.args in
    content_by a.at _ (a.e.faces - a.e.bones) a.e.bones a.e.bones a.rows.now a.table.now _ (back_sum a.e _ c.requires) refl c.put_lists.ensures.content

pub returns-clause-next : goal.returns-clause-next
returns-clause-next c =
    let a = c.args in
    next_by a.at _ (a.e.faces - a.e.bones) _ (length a.table.now) (back_sum a.e _ c.requires) c.put_lists.ensures.next
