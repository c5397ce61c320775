-- `append_row` puts the line's pieces one after another: what is left of the line fits, and goes where the line goes.
use Rattle.std.proofs.Common.{◌≡◌, ◌+◌, ◌≤◌, length}
use Rattle.report_text.specs.Output.{output, appended}
use Rattle.report_rows.proofs.Lines.{rest}
use Rattle.report_rows.proofs.row.append_row.Given as goal

abbrev pub invariant-loop-z : goal.invariant-loop-z
invariant-loop-z l = record {
  fits : l.at + length (rest l.numbers l.z-index) ≤ length l.buf;
  goes_on : appended (output l.initial.at l.initial.buf) (rest l.numbers 0) ≡ appended (output l.at l.buf) (rest l.numbers l.z-index);
}
