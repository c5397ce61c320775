-- `pattern_tail` sets down two numbers and the row of one of two words.
use Rattle.std.proofs.Common.{sym, rules}
use mir.Syntax.{w64}
use mir.Facts.{to_z-of_z}
use Rattle.text_bytes.specs.Bytes.{bytes}
use Rattle.parse_numbers.specs.Internal.Answers.{form_named}
use Rattle.parse_cursor.proofs.Steps.{reads_exit}
use Rattle.tra4_patterns.proofs.PatternLines.{pattern-read, pattern_off}
use Rattle.tra4_patterns.proofs.pattern.pattern_tail.Goals as goal

pub returns-in_err-flag : goal.returns-in_err-flag
unfolding bytes form_named
returns-in_err-flag c =
    reads_exit _ _ _ _ c.from_residual.ensures.1 (pattern_off _ _ _ _ _ _ _ c.keyword-k.ensures c.numbers-d.ensures.meaning (sym c.in_err-flag.ensures))

pub returns : goal.returns
unfolding bytes form_named
returns c =
    pattern-read _ _ _ _ _ _ _ c.keyword-k.ensures c.numbers-d.ensures.meaning _ _ _ _ _ c.in_ok-flag.ensures c.advance.ensures (rw (to_z-of_z {w = w64} {z = c.in_ok-flag.flag} (search rules)) at c.store.ensures) c.closing.ensures
