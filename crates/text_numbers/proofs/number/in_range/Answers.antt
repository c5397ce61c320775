-- `in_range` is the definition, by FLOAT's range for a sign and a magnitude.
use Rattle.std.proofs.Common.{sym, arith}
use Rattle.text_numbers.specs.Internal.Answers.{number_named}
use Rattle.text_numerals.proofs.Raised.{range_near, range_far}
use Rattle.text_numbers.proofs.Signed.{signed_back}
use Rattle.text_numbers.proofs.number.in_range.Goals as goal

pub returns-then-n-gt9999999999999 : goal.returns-then-n-gt9999999999999
unfolding number_named
returns-then-n-gt9999999999999 c = sym (range_far _ _ c.if-n-gt9999999999999.true)

pub returns : goal.returns
unfolding number_named
returns c =
    let a = c.args in
    rw (c.with_sign.ensures, signed_back a.negative a.n (omega arith)) (sym (range_near a.negative a.n c.if-n-gt9999999999999.false))
