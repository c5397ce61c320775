-- `face_list` reads one face a turn: those left, over the table as it is, are all of them over the table as it came.
use Rattle.std.proofs.Common.{◌≡◌, ◌+◌, ◌≤◌, Ok, length}
use Rattle.text_tokens.specs.Tokens.{lex_at}
use Rattle.parse_cursor.specs.Internal.Cursors.{from}
use Rattle.parse_rows.specs.Internal.Folds.{folded}
use Rattle.bac6_text.specs.Grammar.{face}
use Rattle.bac6_faces.specs.Internal.Into.{face_step}
use Rattle.bac6_faces.proofs.list.face_list.Given as goal

abbrev pub invariant-loop-ended : goal.invariant-loop-ended
invariant-loop-ended l =
    (from l.text (Ok l.start) (folded (face_step l.group) face (l.count, l.initial.out)) ≡ from l.text (Ok l.at) (folded (face_step l.group) face (l.n, l.out)))
    × (l.n + length (lex_at l.text l.at) ≤ l.count + length (lex_at l.text l.start))

abbrev pub decreases-loop-ended : goal.decreases-loop-ended
decreases-loop-ended l = length (lex_at l.text l.at)
