-- The pattern line that decides whether a group is shown at a frame (document 02, (ii)): of the group's lines not after the frame the one of greatest frame, the later among equals.
use Rattle.std.specs.Prelude.{◌≡◌, List, [], ◌∷◌, Bool, true, false, ◌&&◌, ℕ, suc, ◌≤◌, ◌<◌, leb, eqb, nat_abs, get_or}
use Rattle.std.proofs.Math.Option.{Option, none, some}
use Rattle.tra4_text.specs.Movement.{Pattern, frame_of, group_of}
use Rattle.table_columns.specs.Columns.{pattern_flag}

unfoldable pub line_frame : Pattern → ℕ
line_frame p = nat_abs (frame_of p)

-- a line of a group, at or before a frame
unfoldable pub applies : ℕ → ℕ → Pattern → Bool
applies g at p = eqb (nat_abs (group_of p)) g && leb (line_frame p) at

unfoldable pub flag_of : Pattern → Bool
flag_of p = elim (eqb (nat_abs (pattern_flag p)) 0) [ true ↦ false | false ↦ true ]

-- a line with its row
abbrev pub Line : Type 0
Line = ℕ × Pattern

-- the line that decides so far, if there is one, is not after the next
unfoldable pub not_after : Option Line → Pattern → Bool
not_after none p = true
not_after (some l) p = leb (line_frame l.1) (line_frame p)

-- the line that decides once the next, in its row, is looked at
unfoldable pub better : ℕ → ℕ → ℕ → Option Line → Pattern → Option Line
better g at row best p = elim (applies g at p && not_after best p) [ true ↦ some (row, p) | false ↦ best ]

unfoldable pub deciding_from : ℕ → ℕ → ℕ → Option Line → List Pattern → Option Line
deciding_from g at row best [] = best
deciding_from g at row best (p ∷ ps) = deciding_from g at (suc row) (better g at row best p) ps

unfoldable pub deciding : ℕ → ℕ → List Pattern → Option Line
deciding g at ps = deciding_from g at 0 none ps

-- a group without such a line is not shown
unfoldable pub state_by : Option Line → Bool
state_by none = false
state_by (some l) = flag_of l.1

-- ---- the same, said of every line

-- a line in a row gives way to another: its frame is smaller, or the same and its row no later
pub data GivesWay (row : ℕ) (p : Pattern) (l : Line) : Type 0 where
  smaller : line_frame p < line_frame l.1 → GivesWay row p l
  earlier : line_frame p ≡ line_frame l.1 → row ≤ l.0 → GivesWay row p l

-- what decides among the first n lines: no line, where none applies; else one that applies, to which all that apply give way
abbrev pub Decides : ℕ → ℕ → List Pattern → ℕ → Option Line → Type 0
Decides g at ps n none = (j : ℕ) → j < n → applies g at (get_or ps j []) ≡ false
Decides g at ps n (some l) =
    (l.0 < n) × (get_or ps l.0 [] ≡ l.1) × (applies g at l.1 ≡ true)
    × ((j : ℕ) → j < n → applies g at (get_or ps j []) ≡ true → GivesWay j (get_or ps j []) l)
