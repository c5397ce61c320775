-- `total_of`: within the limits the rows end where the last list does, so that the sum is the total.
use Rattle.std.proofs.Common.{rules}
use Rattle.bac6.proofs.Limits.{rows_few, faces_end}
use Rattle.bac6.proofs.setting.total_of.Goals as goal

pub overflow_add-result : goal.overflow_add-result
overflow_add-result c = let f = faces_end c.args.n c.row_ends-e.result c.requires c.row_ends-e.ensures in let w = rows_few c.args.n c.requires in search rules

pub overflow_add-result-2 : goal.overflow_add-result-2
overflow_add-result-2 c = let f = faces_end c.args.n c.row_ends-e.result c.requires c.row_ends-e.ensures in let w = rows_few c.args.n c.requires in search rules

pub overflow_add-result-3 : goal.overflow_add-result-3
overflow_add-result-3 c = let f = faces_end c.args.n c.row_ends-e.result c.requires c.row_ends-e.ensures in let w = rows_few c.args.n c.requires in search rules

pub returns : goal.returns
returns c = rw (faces_end c.args.n c.row_ends-e.result c.requires c.row_ends-e.ensures)
