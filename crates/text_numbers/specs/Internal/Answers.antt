-- What a read number and the parts of a word are in the definitions' terms.
use Rattle.std.specs.Prelude.{◌≡◌, List, ℕ, ◌+◌, ◌≤◌, length, drop, ℤ, Result, Ok, Err}
use Rattle.text_numbers.specs.declared.number.NumberError.{NumberError}
use Rattle.text_numbers.specs.declared.number.NumberError.TheVariants.{Beyond, Malformed}
use Rattle.text_numbers.specs.declared.number.Leading.{Leading}
use Rattle.text_numbers.specs.declared.number.Fraction.{Fraction}
use Rattle.text_bytes.specs.Bytes.{is_digit}
use Rattle.text_runs.specs.Runs.{run, part}
use Rattle.text_numerals.specs.Numbers.{Number, value, beyond, wrong, negative, unsigned_part}
use Rattle.text_numerals.specs.Internal.Parts.{fraction_of, after_fraction}

unfoldable pub number_named : Result ℤ NumberError → Number
number_named (Ok z) = value z
number_named (Err Beyond) = beyond
number_named (Err Malformed) = wrong

-- a word's sign, and where the digits after it begin and end
pub record Leads (word : List ℕ) (r : Leading) : Type 0 where
  pub sign : r.negative ≡ negative word
  pub digits : drop r.start word ≡ unsigned_part word
  pub ends : r.end ≡ r.start + length (run is_digit (drop r.start word))
  pub order : r.start ≤ r.end
  pub within : r.end ≤ length word

pub record Fractional (word : List ℕ) (end : ℕ) (r : Fraction) : Type 0 where
  pub order : r.from ≤ r.last
  pub within : r.last ≤ length word
  pub digits : part word r.from r.last ≡ fraction_of (drop end word)
  pub after : drop r.last word ≡ after_fraction (drop end word)
