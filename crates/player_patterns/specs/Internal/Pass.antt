-- Pattern lines in one pass: each is tested, and what is kept is whether one had frame 0, and the line that decides so far.
use Rattle.std.specs.Prelude.{List, [], ◌∷◌, Bool, true, false, ◌&&◌, ◌||◌, ℕ, suc, eqb, ℤ, length}
use Rattle.std.proofs.Math.Option.{Option, none, some}
use Rattle.table_references.specs.References.{is_row}
use Rattle.tra4_text.specs.Movement.{Pattern, frame_of, group_of}
use Rattle.tra4_text.specs.Rules.{is_zero, pattern_fine}
use Rattle.table_columns.specs.Columns.{pattern_flag}
use Rattle.player_spec.specs.Deciding.{Line, line_frame, better}
use Rattle.player_spec.specs.Lookups.{only_if}

-- a line under a total of frames, whose group is one of so many and its flag 0 or 1
unfoldable pub line_fine : ℤ → ℕ → Pattern → Bool
line_fine total groups p = pattern_fine total p && is_row groups (group_of p) && is_row 2 (pattern_flag p)

module _ (total : ℤ) (groups g at : ℕ) where
  -- the lines from a row on; none if one is at fault, or none had frame 0
  unfoldable pub lines_from : ℕ → Bool → Option Line → List Pattern → Option (Option Line)
  lines_from row started best [] = only_if started best
  lines_from row started best (p ∷ ps) =
      elim (line_fine total groups p) [ true ↦ lines_from (suc row) (started || is_zero (frame_of p)) (better g at row best p) ps | false ↦ none ]

  -- all lines; where there are none, none needs frame 0
  unfoldable pub lines_over : List Pattern → Option (Option Line)
  lines_over ps = lines_from 0 (eqb (length ps) 0) none ps

-- the frame of the line that decides so far; 0, which no frame is before, where there is none
unfoldable pub best_frame : Option Line → ℕ
best_frame none = 0
best_frame (some l) = line_frame l.1
