-- `row_fits` compares the line's length with the room: what is left, and what the fields from the next on take, stand as the room and the line.
use Rattle.std.proofs.Common.{◌≡◌, ◌+◌, length, drop}
use Rattle.report_text.specs.Text.{fields, line}
use Rattle.report_rows.proofs.row.row_fits.Given as goal

abbrev pub invariant-loop-z : goal.invariant-loop-z
invariant-loop-z l = l.n + length (line l.word l.numbers) + l.left ≡ l.size + 1 + length (fields (drop l.z-index l.numbers))
