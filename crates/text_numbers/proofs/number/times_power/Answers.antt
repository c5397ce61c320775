-- `times_power` is the definition, by what the number and the exponent are.
use Rattle.std.proofs.Common.{◌≡◌, ◌≤◌, ℕ, ℤ, Result, Ok, Err, true, nat_abs, refl, sym, ap, ◌∙◌, rules}
use mir.Facts.{to_z-of_z}
use Rattle.std.proofs.lemmas.Result.{err_from_is_err_and}
use Rattle.std.specs.Result.{result_and}
use borrow.Author.Tests.{leb-true}
use mir.Syntax.{w64}
use mir.Val.{SFits}
use Rattle.text_numbers.specs.declared.number.NumberError.{NumberError}
use Rattle.text_numbers.specs.declared.number.NumberError.TheVariants.{Beyond, Malformed}
use Rattle.text_numerals.specs.Numbers.{Number, value, beyond, wrong, times_power}
use Rattle.text_numbers.specs.Internal.Answers.{number_named}
use Rattle.text_numerals.specs.Internal.Parts.{within}
use Rattle.text_numbers.proofs.number.times_power.Goals as goal

-- a value's bound
bounded : (n : Result ℤ NumberError) (most : ℕ) (z : ℤ) → n ≡ Ok z → within most (number_named n) ≡ true → nat_abs z ≤ most
unfolding number_named within
bounded n most z e h = leb-true _ _ (sym (ap (λ (n : Result ℤ NumberError). within most (number_named n)) e) ∙ h)

-- what comes of an exponent that is refused
no-exponent : (n : Number) → wrong ≡ times_power n wrong
unfolding times_power
no-exponent (value z) = refl
no-exponent beyond = refl
no-exponent wrong = refl

far-exponent : (n : Result ℤ NumberError) → number_named (result_and n (Err Beyond)) ≡ times_power (number_named n) beyond
unfolding number_named times_power
far-exponent (Ok z) = refl
far-exponent (Err Beyond) = refl
far-exponent (Err Malformed) = refl

no-number : (e : NumberError) (z : ℤ) → number_named (Err e) ≡ times_power (number_named (Err e)) (value z)
unfolding number_named times_power
no-number Beyond z = refl
no-number Malformed z = refl

pub returns-in_err-n-in-Ok : goal.returns-in_err-n-in-Ok
unfolding number_named
returns-in_err-n-in-Ok c =
    let p = err_from_is_err_and c.from_residual.result c.from_residual.ensures.1 in
    rw (p.1, p.2, c.in_err-n-in-Ok.was, c.in-Ok.is) (no-number _ _)

pub raise-requires : goal.raise-requires
raise-requires c =
    let n : SFits w64 c.in_ok-n-in-Ok.field-0 = search rules in
    let e : SFits w64 c.in-Ok.e = search rules in
    rw (to_z-of_z n, to_z-of_z e) (bounded _ _ _ c.in_ok-n-in-Ok.was c.requires.n_value, bounded _ _ _ c.in-Ok.is c.requires.exponent_value)

pub returns-in-Err-Malformed : goal.returns-in-Err-Malformed
unfolding number_named
returns-in-Err-Malformed c =
    let e : c.in-Err-Malformed.field-0 ≡ Malformed = search rules in
    rw (c.in-Err-Malformed.is, e) (no-exponent _)

pub returns-in-Err-Beyond : goal.returns-in-Err-Beyond
unfolding number_named
returns-in-Err-Beyond c =
    let e : c.in-Err-Beyond.field-0 ≡ Beyond = search rules in
    rw (c.and.ensures, c.in-Err-Beyond.is, e) (far-exponent _)

pub returns-in_ok-n-in-Ok : goal.returns-in_ok-n-in-Ok
unfolding number_named times_power
returns-in_ok-n-in-Ok c =
    let n : SFits w64 c.in_ok-n-in-Ok.field-0 = search rules in
    let e : SFits w64 c.in-Ok.e = search rules in
    rw (c.in_ok-n-in-Ok.was, c.in-Ok.is) (rw (to_z-of_z n, to_z-of_z e) at c.raise.ensures)
