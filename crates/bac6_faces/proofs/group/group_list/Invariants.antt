-- `group_list` reads one group a turn: those left, over the tables as they are, are all of them over the tables as they came.
use Rattle.std.proofs.Common.{◌≡◌, ◌+◌, ◌≤◌, suc, Ok, length}
use Rattle.text_tokens.specs.Tokens.{lex_at}
use Rattle.parse_cursor.specs.Internal.Cursors.{from}
use Rattle.parse_rows.specs.Internal.Folds.{folded}
use Rattle.bac6_text.specs.Grammar.{group}
use Rattle.bac6_faces.specs.Internal.Into.{group_step}
use Rattle.bac6_faces.proofs.group.group_list.Given as goal

abbrev pub invariant-loop-ended : goal.invariant-loop-ended
invariant-loop-ended l =
    (from l.text (Ok l.start) (folded group_step group ((0, l.initial.names), (l.count, l.initial.faces))) ≡ from l.text (Ok l.at) (folded group_step group ((l.i, l.names), (l.n, l.faces))))
    × (l.n + length (lex_at l.text l.at) ≤ suc (length l.text))
    × (l.i + length (lex_at l.text l.at) ≤ suc (length l.text))

abbrev pub decreases-loop-ended : goal.decreases-loop-ended
decreases-loop-ended l = length (lex_at l.text l.at)
