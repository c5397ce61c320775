-- What the code answers on the pattern line that decides of a group at a frame.
use Rattle.std.specs.Prelude.{List, Bool, ◌&&◌, ℕ, ℤ, Option as Answer, Some, None}
use Rattle.std.proofs.Math.Option.{Option, none, some}
use Rattle.refusal.specs.Faults.{is_clear}
use Rattle.tra4_text.specs.Movement.{Pattern}
use Rattle.tra4_text.specs.Rules.{patterns_fault}
use Rattle.player_spec.specs.Deciding.{Line, flag_of, deciding}
use Rattle.player_spec.specs.Lookups.{only_if, lines_fine}
use Rattle.player_patterns.specs.declared.deciding.Line.{Line as Answered}

-- a line's row and flag, if there is a line
abbrev pub line_told : Answer Answered → Option (ℕ × Bool)
line_told None = none
line_told (Some l) = some (l.row, l.shown)

-- none where it refuses
abbrev pub decided : Answer (Answer Answered) → Option (Option (ℕ × Bool))
decided None = none
decided (Some l) = some (line_told l)

unfoldable pub row_and_flag : Option Line → Option (ℕ × Bool)
row_and_flag none = none
row_and_flag (some l) = some (l.0, flag_of l.1)

-- by a total of frames and a number of groups
unfoldable pub decided_in : ℤ → ℕ → ℕ → ℕ → List Pattern → Option (Option (ℕ × Bool))
decided_in total groups g at ps = only_if (is_clear (patterns_fault total ps) && lines_fine groups ps) (row_and_flag (deciding g at ps))
