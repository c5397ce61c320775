-- `is_negative` is the definition, by whether there is a first byte.
use Rattle.std.proofs.Common.{◌≡◌, length, sym, arith}
use Rattle.text_numerals.proofs.Numerals.{negative_none, negative-first}
use Rattle.text_numbers.proofs.number.is_negative.Goals as goal

pub returns-then-word-ne0 : goal.returns-then-word-ne0
returns-then-word-ne0 c = sym (negative-first _ (omega arith))

pub returns-else-word-ne0 : goal.returns-else-word-ne0
returns-else-word-ne0 c = let h : length c.args.word.now ≡ 0 = omega arith in rw (h, negative_none c.args.word.now h)
