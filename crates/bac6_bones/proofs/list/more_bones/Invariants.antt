-- `more_bones` reads one bone a turn: those left, over the state as it is, are all of them over the state as it came; each takes a token, so their count fits.
use Rattle.std.proofs.Common.{◌≡◌, ◌+◌, ◌*◌, ◌≤◌, min, Ok, length}
use Rattle.text_tokens.specs.Tokens.{lex_at}
use Rattle.parse_cursor.specs.Internal.Cursors.{from}
use Rattle.parse_rows.specs.Internal.Folds.{folded}
use Rattle.bac6_text.specs.Grammar.{bone}
use Rattle.bac6_bones.specs.Internal.Into.{fault_of, bone_step}
use Rattle.bac6_bones.proofs.list.more_bones.Given as goal

abbrev pub invariant-loop-ended : goal.invariant-loop-ended
invariant-loop-ended l =
    (from l.text (Ok l.start) (folded (bone_step l.points) bone (l.fn.first.count, l.initial.table, (fault_of l.fn.first.fault, l.initial.owners)))
    ≡ from l.text (Ok l.at) (folded (bone_step l.points) bone (l.so_far.count, l.table, (fault_of l.so_far.fault, l.owners))))
    × (min l.i (length l.table) ≡ min (l.so_far.count * 14) (length l.table))
    × (l.so_far.count + length (lex_at l.text l.at) ≤ 2 + length l.text)

abbrev pub decreases-loop-ended : goal.decreases-loop-ended
decreases-loop-ended l = length (lex_at l.text l.at)
