-- `deciding_line` looks at one line a turn: the lines left, over what is kept so far, are the whole pass.
use Rattle.std.proofs.Common.{◌≡◌}
use Rattle.std.proofs.Math.Option.{Option}
use Rattle.table_columns.specs.Parts.{rows_at}
use Rattle.player_spec.specs.Deciding.{Line}
use Rattle.player_patterns.specs.Internal.Answers.{line_told, row_and_flag, decided_in}
use Rattle.player_patterns.specs.Internal.Pass.{best_frame}
use Rattle.player_patterns.proofs.Passed.{answer_by}
use Rattle.player_patterns.proofs.LineRows.{from}
use Rattle.player_patterns.proofs.deciding.deciding_line.Given as goal

abbrev pub invariant-loop-row : goal.invariant-loop-row
invariant-loop-row l =
    (best : Option Line)
    × (line_told l.best ≡ row_and_flag best)
    × (l.frame ≡ best_frame best)
    × (decided_in l.total l.groups l.group l.at (rows_at 3 l.rows 0 l.count) ≡ answer_by (from l.rows l.count l.total l.groups l.group l.at l.row l.started best))
