-- `put` is the definition: what `store` leaves in the part that is lent stands between what lay before it and after it.
use Rattle.std.proofs.Common.{◌-◌, ap, ◌∙◌, arith}
use borrow.Rule.Slice.PartMut.{put_mid}
use Rattle.table_rows.proofs.Tables.{overlay_at-same}
use Rattle.table_rows.proofs.Chains.{middle}
use Rattle.table_rows.proofs.rows.put.Goals as goal

pub returns-clause-content : goal.returns-clause-content
returns-clause-content c =
    let start = c.min-start.result in
    let end = c.min-end.result in
    let t = c.args.table.now in
    ap (put_mid start (end - start) t) c.store.ensures ∙ middle start end c.args.rows.now t (omega arith) (omega arith) ∙ overlay_at-same start c.args.at c.args.rows.now t (omega arith)
