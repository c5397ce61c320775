-- The rows left, over the table as it is, are all of them over the table as it came; what stands before the first index is as it came. The tokens left fall.
use Rattle.std.proofs.Common.{◌≡◌, ◌+◌, ◌≤◌, Ok, length, take}
use Prim.Native.Nat.{suc, min}
use Rattle.text_tokens.specs.Tokens.{lex_at}
use Rattle.parse_cursor.specs.Internal.Cursors.{from}
use Rattle.parse_numbers.specs.Internal.Answers.{form_named}
use Rattle.parse_lists.specs.Internal.ListsInto.{rows_into}
use Rattle.parse_lists.proofs.ListsInto.{rows_on_lem}
use Rattle.parse_lists.proofs.lists.rows.Given as goal

abbrev pub invariant-loop-ended : goal.invariant-loop-ended
invariant-loop-ended l =
    (from l.text (Ok l.initial.d) (rows_into l.word l.lead (form_named l.form) l.width l.at l.initial.out) ≡ from l.text (Ok l.d) (rows_on_lem l.word l.lead (form_named l.form) l.width l.count l.i l.out))
    × (length l.out ≡ length l.initial.out)
    × (l.count + length (lex_at l.text l.d) ≤ suc (length l.text))
    × (take l.at l.out ≡ take l.at l.initial.out)
    × (min l.at (length l.out) ≤ l.i)

abbrev pub decreases-loop-ended : goal.decreases-loop-ended
decreases-loop-ended l = length (lex_at l.text l.d)
