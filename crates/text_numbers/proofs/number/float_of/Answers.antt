-- `float_of` is the definition: the digits are few enough that nothing overflows.
use Rattle.std.proofs.Common.{◌<◌, ◌*◌, ◌+◌, ◌^◌, refl, sym, arith}
use Rattle.text_numbers.specs.Internal.Answers.{number_named}
use Rattle.text_numerals.proofs.Numerals.{float_whole_long, float_fraction_long, float_value, decimal-below, millionths-made, millionths-below}
use Rattle.text_numbers.proofs.Signed.{signed_back}
use Rattle.text_numbers.proofs.number.float_of.Goals as goal

-- together the two values are small
below : (c : goal.After-pow) → c.decimal-units.result * 1000000 + c.decimal-parts.result * c.pow.result < 10 ^ 13
below c =
    let a = c.args in
    rw (millionths-made a.digits.now a.fraction.now c.decimal-units.result c.decimal-parts.result c.decimal-units.ensures c.decimal-parts.ensures c.pow.ensures refl)
    (millionths-below a.digits.now a.fraction.now c.requires.digits_all c.requires.fraction_all c.if-digits-gt7.false c.if-fraction-gt6.false)

pub returns-then-digits-gt7 : goal.returns-then-digits-gt7
unfolding number_named
returns-then-digits-gt7 c = sym (float_whole_long _ _ _ c.if-digits-gt7.true)

pub returns-then-fraction-gt6 : goal.returns-then-fraction-gt6
unfolding number_named
returns-then-fraction-gt6 c = sym (float_fraction_long _ _ _ c.if-digits-gt7.false c.if-fraction-gt6.true)

pub overflow_mul-units : goal.overflow_mul-units
overflow_mul-units c =
    let h = decimal-below c.args.digits.now 7 c.requires.digits_all c.if-digits-gt7.false in
    omega (arith, rw (← c.decimal-units.ensures) at h)

pub overflow_mul-parts : goal.overflow_mul-parts
overflow_mul-parts c = let h = below c in omega arith

pub overflow_add-units : goal.overflow_add-units
overflow_add-units c = let h = below c in omega arith

pub with_sign-requires : goal.with_sign-requires
with_sign-requires c = let h = below c in omega arith

pub returns : goal.returns
unfolding number_named
returns c =
    let a = c.args in
    let m = millionths-made a.digits.now a.fraction.now c.decimal-units.result c.decimal-parts.result c.decimal-units.ensures c.decimal-parts.ensures c.pow.ensures refl in
    let h : c.decimal-units.result * 1000000 + c.decimal-parts.result * c.pow.result < 10 ^ 13 = rw m (millionths-below a.digits.now a.fraction.now c.requires.digits_all c.requires.fraction_all c.if-digits-gt7.false c.if-fraction-gt6.false) in
    rw (c.with_sign.ensures, signed_back a.negative (c.decimal-units.result * 1000000 + c.decimal-parts.result * c.pow.result) (omega arith), m) (sym (float_value a.negative a.digits.now a.fraction.now c.if-digits-gt7.false c.if-fraction-gt6.false))
