-- The lines left, over the table as it is, are all of them over the table as it came. The tokens left fall.
use Rattle.std.proofs.Common.{◌≡◌, ◌+◌, ◌*◌, ◌≤◌, Ok, length}
use Prim.Native.Nat.{min}
use Rattle.text_tokens.specs.Tokens.{lex_at}
use Rattle.parse_cursor.specs.Internal.Cursors.{from}
use Rattle.parse_rows.specs.Internal.Folds.{folded, row_step}
use Rattle.tra4_text.specs.Grammar.{pattern}
use Rattle.tra4_patterns.proofs.pattern.pattern_list.Given as goal

abbrev pub invariant-loop-ended : goal.invariant-loop-ended
invariant-loop-ended l = record {
  same : from l.text (Ok l.initial.d) (folded (row_step 3) pattern (0, l.initial.out)) ≡ from l.text (Ok l.d) (folded (row_step 3) pattern (l.count, l.out));
  long : length l.out ≡ length l.initial.out;
  index : min l.i (length l.out) ≡ min (l.count * 3) (length l.out);
  few : l.count + length (lex_at l.text l.d) ≤ 1 + length l.text;
}

abbrev pub decreases-loop-ended : goal.decreases-loop-ended
decreases-loop-ended l = length (lex_at l.text l.d)
