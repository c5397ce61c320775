-- `lines_fault` is the definition: the first line at fault is the first from `row` on.
use Rattle.std.proofs.Common.{◌≡◌, ◌-◌, ◌*◌}
use Rattle.refusal.specs.FirstBad.{first_bad}
use Rattle.tra4_text.specs.Rules.{pattern_fine}
use Rattle.table_columns.specs.Parts.{rows_of}
use Rattle.table_columns.proofs.FirstBad.{bad_from}
use Rattle.tra4_frames.proofs.pattern.lines_fault.Given as goal

abbrev pub invariant-loop-row : goal.invariant-loop-row
invariant-loop-row l = first_bad 16 (pattern_fine l.total) 0 (rows_of 3 l.rows l.patterns) ≡ bad_from 16 3 (pattern_fine l.total) l.patterns l.row (l.rows - l.row) (l.row * 3)
