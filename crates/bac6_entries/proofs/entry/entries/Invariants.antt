-- `entries` reads one entry a turn: those left, over the claims so far, are all of them over the claims as they came.
use Rattle.std.proofs.Common.{◌≡◌, Ok, length}
use Rattle.text_tokens.specs.Tokens.{lex_at}
use Rattle.parse_cursor.specs.Internal.Cursors.{from}
use Rattle.bac6_entries.specs.Internal.Into.{entries_into}
use Rattle.bac6_entries.proofs.entry.entries.Given as goal

abbrev pub invariant-loop-t : goal.invariant-loop-t
invariant-loop-t l = from l.text (Ok l.start) (entries_into l.points l.bone (l.fine, l.initial.owners)) ≡ from l.text (Ok l.at) (entries_into l.points l.bone (l.free, l.owners))

abbrev pub decreases-loop-t : goal.decreases-loop-t
decreases-loop-t l = length (lex_at l.text l.at)
