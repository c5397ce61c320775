-- `append_list` is the definition: the rows that are left go where all rows go.
use Rattle.std.proofs.Common.{◌≡◌, ◌≤◌, ◌-◌, length, drop}
use Rattle.report_text.specs.Output.{output}
use Rattle.report_lists.specs.Lists.{row_list, listing, listed}
use Rattle.report_lists.proofs.list.append_list.Given as goal

abbrev pub invariant-loop-row : goal.invariant-loop-row
invariant-loop-row l = record {
  within : l.at ≤ length l.table;
  goes_on :
      listed (listing (output l.initial.n l.initial.buf) (drop l.initial.at l.table)) (row_list l.word l.width l.count)
      ≡ listed (listing (output l.n l.buf) (drop l.at l.table)) (row_list l.word l.width (l.count - l.row));
}
