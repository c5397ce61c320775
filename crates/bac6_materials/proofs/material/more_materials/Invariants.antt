-- `more_materials` reads one material a turn: those left, over the table as it is, are all of them over the table as it came; each takes a token, so their count fits.
use Rattle.std.proofs.Common.{◌≡◌, ◌+◌, ◌*◌, ◌≤◌, min, Ok, length}
use Rattle.text_tokens.specs.Tokens.{lex_at}
use Rattle.parse_cursor.specs.Internal.Cursors.{from}
use Rattle.parse_rows.specs.Internal.Folds.{folded, row_step}
use Rattle.bac6_text.specs.Grammar.{material}
use Rattle.bac6_materials.proofs.material.more_materials.Given as goal

abbrev pub invariant-loop-ended : goal.invariant-loop-ended
invariant-loop-ended l =
    (from l.text (Ok l.start) (folded (row_step 9) material (1, l.initial.out)) ≡ from l.text (Ok l.at) (folded (row_step 9) material (l.count, l.out)))
    × (min l.i (length l.out) ≡ min (l.count * 9) (length l.out))
    × (l.count + length (lex_at l.text l.at) ≤ 2 + length l.text)

abbrev pub decreases-loop-ended : goal.decreases-loop-ended
decreases-loop-ended l = length (lex_at l.text l.at)
