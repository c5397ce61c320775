-- `put_front` lays so many numbers as the lists before the owners have.
use Rattle.std.proofs.Common.{length, refl}
use Rattle.bac6_layout.proofs.Sums.{front_sum, front_room}
use Rattle.bac6_layout.proofs.Lays.{content_by, next_by}
use Rattle.bac6_layout.proofs.figure.put_front.Goals as goal

pub put_lists-requires : goal.put_lists-requires
put_lists-requires c = front_room c.args.e _ c.requires

pub returns-clause-content : goal.returns-clause-content
returns-clause-content c =
    let a = c.args in
    content_by a.at _ a.e.bones 0 0 a.rows.now a.table.now _ (front_sum a.e _ c.requires) refl c.put_lists.ensures.content

pub returns-clause-next : goal.returns-clause-next
returns-clause-next c =
    let a = c.args in
    next_by a.at _ a.e.bones _ (length a.table.now) (front_sum a.e _ c.requires) c.put_lists.ensures.next
