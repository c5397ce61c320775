-- `groups_fault` is the definition: the loop carries what is left of the lines.
use Rattle.std.proofs.Common.{◌≡◌}
use Rattle.table_columns.specs.Parts.{rows_at}
use Rattle.pair_text.specs.Rules.{groups_fault}
use Rattle.pair_rules.proofs.Turns.{lines_left}
use Rattle.pair_rules.proofs.fault.groups_fault.Given as goal

abbrev pub invariant-loop-row : goal.invariant-loop-row
invariant-loop-row l = groups_fault l.groups (rows_at 3 l.lines 0 l.count) ≡ lines_left l.lines l.groups l.count l.row
