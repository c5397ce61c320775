-- Words with exponents, and what each is as a FLOAT: by computation.
use mathlib.Core.Path.{◌≡◌, refl}
use mathlib.Core.List.{List, [], ◌∷◌, map}
use Prim.Native.String.{String}
use lib.IntN.{pos, negsuc}
use Rattle.text_bytes.specs.Bytes.{bytes, between, is_digit}
use Rattle.text_runs.specs.Runs.{run}
use Rattle.text_numerals.specs.Numbers.{Number, value, beyond, wrong, FLOAT, decimal_from, decimal, signed, not_empty, all_digits, whole_of, millionths, float_of, number_from, after_digits, unsigned, negative, unsigned_part, fixed_of, in_form, exponent_of, in_range, over, raised, times_power, in_mantissa, mantissa, with_exponent, number_of}

abbrev pub words : List (String × Number)
words =
    ("1.5e-3", value (pos 1500))
    ∷ ("1e6", value (pos 1000000000000))
    ∷ ("9999999.999999e0", value (pos 9999999999999))
    ∷ ("10e-6", value (pos 10))
    ∷ ("-1.25e2", value (negsuc 124999999))
    ∷ ("-0e3", value (pos 0))
    ∷ ("1e-0", value (pos 1000000))
    ∷ ("1e7", beyond)
    ∷ ("1e10", beyond)
    ∷ ("1e00", beyond)
    ∷ ("1e-12", beyond)
    ∷ ("12345678e1", beyond)
    ∷ ("0.1234567e1", beyond)
    ∷ ("9999999e1", beyond)
    ∷ ("0.000001e-1", beyond)
    ∷ ("1e", wrong)
    ∷ ("1e-", wrong)
    ∷ ("1e+3", wrong)
    ∷ ("1E3", wrong)
    ∷ ("1.e3", wrong)
    ∷ (".5e1", wrong)
    ∷ ("e3", wrong)
    ∷ ("1e3x", wrong)
    ∷ ("1e3e3", wrong)
    ∷ ("12345678e", wrong)
    ∷ []

pub words-read : map (λ w. number_of FLOAT (bytes w.0)) words ≡ map (λ w. w.1) words
unfolding bytes between is_digit run decimal_from decimal signed not_empty all_digits whole_of millionths float_of number_from after_digits unsigned negative unsigned_part fixed_of in_form exponent_of in_range over raised times_power in_mantissa mantissa with_exponent number_of
words-read = refl
