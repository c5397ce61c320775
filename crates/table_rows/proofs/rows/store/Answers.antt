-- `store` is the definition: the numbers that fit are copied over the part of the table from the index on.
use Rattle.std.proofs.Common.{◌≡◌, ◌+◌, ◌-◌, arith}
use Rattle.table_rows.proofs.Chains.{copied}
use Rattle.table_rows.proofs.rows.store.Goals as goal

pub returns : goal.returns
returns c =
    let n = c.min-n.result in
    let s = c.min-start.result in
    let w : s + n - s ≡ n = omega arith in
    rw (w, c.copy_from_slice.ensures.after) (copied c.args.at s n c.args.row.now c.args.out.now c.min-start.ensures c.min-n.ensures)
