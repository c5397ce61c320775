-- The parts of a word as it is read from left to right, and bounds of numbers.
use Rattle.std.specs.Prelude.{List, [], ◌∷◌, Bool, true, false, cond, ◌&&◌, ℕ, suc, leb, eqb, length, drop, nat_abs}
use Rattle.text_bytes.specs.Bytes.{is_digit}
use Rattle.text_runs.specs.Runs.{run}
use Rattle.text_numerals.specs.Numbers.{Number, value, beyond, wrong, not_empty, all_digits, whole_of, negative, unsigned_part, exponent_of, times_power}

-- an optional minus sign and digits alone, so many at most, of a value up to `most`, and up to `least` with the sign
unfoldable pub whole_in : ℕ → ℕ → ℕ → List ℕ → Number
whole_in digits most least word = cond (not_empty (unsigned_part word) && all_digits (unsigned_part word)) (whole_of digits (cond (negative word) least most) (negative word) (unsigned_part word)) wrong

-- the digits of a fraction that bytes begin with, and what stands after it: a point without digits is none
unfoldable pub fraction_of : List ℕ → List ℕ
fraction_of [] = []
fraction_of (b ∷ bs) = elim (eqb b 46) [ true ↦ run is_digit bs | false ↦ [] ]

unfoldable pub after_fraction : List ℕ → List ℕ
after_fraction bs = elim (not_empty (fraction_of bs)) [ true ↦ drop (suc (length (fraction_of bs))) bs | false ↦ bs ]

-- a number and the bytes after it: none, or an exponent
unfoldable pub ends_in : Number → List ℕ → Number
ends_in n [] = n
ends_in n (b ∷ bs) = cond (eqb b 101) (times_power n (exponent_of bs)) wrong

-- a value at most so far from zero; a refusal is within any bound
unfoldable pub within : ℕ → Number → Bool
within most (value z) = leb (nat_abs z) most
within most beyond = true
within most wrong = true
