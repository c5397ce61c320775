-- `patterns` reads the lines where there are any.
use Rattle.std.proofs.Common.{sym}
use Rattle.text_bytes.specs.Bytes.{bytes}
use Rattle.parse_cursor.proofs.Steps.{parsed_exit}
use Rattle.tra4_patterns.proofs.PatternLines.{patterns_some, patterns_none, patterns_off}
use Rattle.tra4_patterns.proofs.pattern.patterns.Goals as goal

pub returns-in_err-stands : goal.returns-in_err-stands
unfolding bytes
returns-in_err-stands c = parsed_exit _ _ _ _ c.from_residual.ensures.1 (patterns_off _ _ _ (sym c.in_err-stands.ensures))

pub returns-then-not-stands : goal.returns-then-not-stands
unfolding bytes
returns-then-not-stands c = patterns_none _ _ _ _ _ c.in_ok-stands.ensures c.if-not-stands.true

pub returns : goal.returns
unfolding bytes
returns c = patterns_some _ _ _ _ _ c.in_ok-stands.ensures c.if-not-stands.false c.pattern_list.ensures
