-- The number forms INT and FLOAT (document 01, "Words", and document 02, request vii): a FLOAT is a whole number of millionths.
use Rattle.std.specs.Prelude.{List, [], ◌∷◌, Bool, true, false, cond, not, ◌&&◌, ℕ, suc, ◌+◌, ◌-◌, ◌*◌, ◌/◌, ◌%◌, ◌^◌, leb, eqb, length, drop, ℤ, pos, negsuc, neg_ℤ, nat_abs, ◌*ℤ◌}
use Rattle.text_bytes.specs.Bytes.{is_digit}
use Rattle.text_runs.specs.Runs.{run}

-- what a plain word is where a number is wanted: its value, of the form but beyond its digits or range, or not of the form
pub data Number : Type 0 where
  value : ℤ → Number
  beyond wrong : Number

-- 01's refusal number, 0 for none
unfoldable pub refusal_of : Number → ℕ
refusal_of (value z) = 0
refusal_of beyond = 6
refusal_of wrong = 5

pub data Form : Type 0 where
  INT FLOAT : Form

-- the value of digits
unfoldable pub decimal_from : ℕ → List ℕ → ℕ
decimal_from n [] = n
decimal_from n (b ∷ bs) = decimal_from (n * 10 + (b - 48)) bs

unfoldable pub decimal : List ℕ → ℕ
decimal bs = decimal_from 0 bs

unfoldable pub signed : Bool → ℕ → ℤ
signed false n = pos n
signed true n = neg_ℤ (pos n)

unfoldable pub not_empty : List ℕ → Bool
not_empty [] = false
not_empty (b ∷ bs) = true

unfoldable pub all_digits : List ℕ → Bool
all_digits [] = true
all_digits (b ∷ bs) = is_digit b && all_digits bs

-- INT's greatest magnitude, by sign
unfoldable pub int_most : Bool → ℕ
int_most false = 2147483647
int_most true = 2147483648

-- a sign and so many digits at most, of so great a value at most
unfoldable pub whole_of : ℕ → ℕ → Bool → List ℕ → Number
whole_of digits most s ds = cond (leb (length ds) digits && leb (decimal ds) most) (value (signed s (decimal ds))) beyond

unfoldable pub int_of : Bool → List ℕ → Number
int_of s ds = whole_of 10 (int_most s) s ds

-- the digits before the point and those after it
unfoldable pub millionths : List ℕ → List ℕ → ℕ
millionths ds fs = decimal ds * 10 ^ 6 + decimal fs * 10 ^ (6 - length fs)

unfoldable pub float_of : Bool → List ℕ → List ℕ → Number
float_of s ds fs = cond (leb (length ds) 7 && leb (length fs) 6) (value (signed s (millionths ds fs))) beyond

-- a sign, one digit or more, and what stands after them
unfoldable pub number_from : Form → Bool → List ℕ → List ℕ → Number
number_from INT s ds [] = int_of s ds
number_from INT s ds (b ∷ bs) = wrong
number_from FLOAT s ds [] = float_of s ds []
number_from FLOAT s ds (b ∷ bs) = cond (eqb b 46 && not_empty bs && all_digits bs) (float_of s ds bs) wrong

-- what stands after the digits that bytes begin with
unfoldable pub after_digits : List ℕ → List ℕ
after_digits bs = drop (length (run is_digit bs)) bs

unfoldable pub unsigned : Form → Bool → List ℕ → Number
unsigned f s bs = elim (not_empty (run is_digit bs)) [ true ↦ number_from f s (run is_digit bs) (after_digits bs) | false ↦ wrong ]

unfoldable pub negative : List ℕ → Bool
negative [] = false
negative (b ∷ bs) = eqb b 45

-- a word without its minus sign
unfoldable pub unsigned_part : List ℕ → List ℕ
unsigned_part word = elim (negative word) [ true ↦ drop 1 word | false ↦ word ]

-- a word as a number of a form that has no exponent
unfoldable pub fixed_of : Form → List ℕ → Number
fixed_of f word = unsigned f (negative word) (unsigned_part word)

-- a value that INT or FLOAT can have
unfoldable pub in_form : Form → ℤ → Bool
in_form INT (pos n) = leb n 2147483647
in_form INT (negsuc n) = leb n 2147483647
in_form FLOAT (pos n) = leb n 9999999999999
in_form FLOAT (negsuc n) = leb n 9999999999998

-- ---- exponents: a FLOAT may end in `e`, an optional minus sign and one digit, 0 to 6

-- what stands after the `e`
unfoldable pub exponent_of : List ℕ → Number
exponent_of bs = cond (not_empty (unsigned_part bs) && all_digits (unsigned_part bs)) (whole_of 1 6 (negative bs) (unsigned_part bs)) wrong

unfoldable pub in_range : ℤ → Number
in_range z = cond (in_form FLOAT z) (value z) beyond

-- a number over another that divides it
unfoldable pub over : ℤ → ℕ → ℤ
over (pos n) p = pos (n / p)
over (negsuc n) p = neg_ℤ (pos (suc n / p))

-- millionths times ten to a power, where that is a whole number of millionths in FLOAT's range
unfoldable pub raised : ℤ → ℤ → Number
raised z (pos d) = in_range (z *ℤ pos (10 ^ d))
raised z (negsuc d) = cond (eqb (nat_abs z % 10 ^ suc d) 0) (in_range (over z (10 ^ suc d))) beyond

-- a number before an exponent: not of the form where one of the two is not, else beyond where one of them is
unfoldable pub times_power : Number → Number → Number
times_power (value z) (value e) = raised z e
times_power (value z) beyond = beyond
times_power (value z) wrong = wrong
times_power beyond (value e) = beyond
times_power beyond beyond = beyond
times_power beyond wrong = wrong
times_power wrong e = wrong

-- a byte before the first `e`
unfoldable pub in_mantissa : ℕ → Bool
in_mantissa b = not (eqb b 101)

unfoldable pub mantissa : List ℕ → List ℕ
mantissa word = run in_mantissa word

-- a number, and what follows it: nothing, or an `e` and more
unfoldable pub with_exponent : Number → List ℕ → Number
with_exponent n [] = n
with_exponent n (b ∷ bs) = times_power n (exponent_of bs)

-- a word as a number of a form
unfoldable pub number_of : Form → List ℕ → Number
number_of INT word = fixed_of INT word
number_of FLOAT word = with_exponent (fixed_of FLOAT (mantissa word)) (drop (length (mantissa word)) word)
