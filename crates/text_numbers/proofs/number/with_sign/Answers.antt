-- `with_sign` is the definition, by the laws of signed numbers.
use Rattle.text_numerals.specs.Numbers.{signed}
use Rattle.signed.proofs.Signed.{bits_pos, bits_neg}
use Rattle.text_numbers.proofs.number.with_sign.Goals as goal

pub returns-then-negative : goal.returns-then-negative
unfolding signed
returns-then-negative c = rw c.if-negative.true (bits_neg c.args.n c.requires)

pub returns-else-negative : goal.returns-else-negative
unfolding signed
returns-else-negative c = rw c.if-negative.false (bits_pos c.args.n c.requires)
