-- `int` is a whole number of at most ten digits.
use Rattle.std.proofs.Common.{sym, ◌∙◌}
use Rattle.text_numerals.proofs.Numerals.{int_whole}
use Rattle.text_numbers.proofs.number.int.Goals as goal

pub returns : goal.returns
returns c = c.whole.ensures ∙ sym (int_whole _)
