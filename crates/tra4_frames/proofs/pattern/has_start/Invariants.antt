-- `has_start` looks for the first row that is at frame 0: it is the first from `row` on.
use Rattle.std.proofs.Common.{◌≡◌, ◌-◌, ◌*◌}
use Rattle.refusal.specs.FirstBad.{first_bad}
use Rattle.table_columns.specs.Parts.{rows_of}
use Rattle.table_columns.proofs.FirstBad.{bad_from}
use Rattle.tra4_frames.proofs.Patterns.{not_start}
use Rattle.tra4_frames.proofs.pattern.has_start.Given as goal

abbrev pub invariant-loop-row : goal.invariant-loop-row
invariant-loop-row l = first_bad 16 not_start 0 (rows_of 3 l.rows l.patterns) ≡ bad_from 16 3 not_start l.patterns l.row (l.rows - l.row) (l.row * 3)
