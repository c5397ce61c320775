-- What a FLOAT with an exponent is, in the words of document 02's request vii: the terms of the page's statement.
use Rattle.std.specs.Prelude.{◌≡◌, List, [], ◌∷◌, ◌++◌, Bool, true, false, ◌||◌, ℕ, suc, ◌+◌, ◌^◌, ◌≤◌, eqb, ℤ, pos, negsuc, ◌*ℤ◌}
use Rattle.text_numerals.specs.Numbers.{value, FLOAT, signed, fixed_of, in_form, exponent_of}

-- an `e` stands in a word
unfoldable pub has_exponent : List ℕ → Bool
has_exponent [] = false
has_exponent (b ∷ bs) = eqb b 101 || has_exponent bs

-- "an optional `-` and one digit 0 to 6"
unfoldable pub minus : Bool → List ℕ
minus true = 45 ∷ []
minus false = []

pub record Power (x : List ℕ) (e : ℤ) : Type 0 where
  pub sign : Bool
  pub digit : ℕ
  pub most : digit ≤ 6
  pub written : x ≡ minus sign ++ ((48 + digit) ∷ [])
  pub is : e ≡ signed sign digit

-- v is z times ten to the power e
unfoldable pub Times : ℤ → ℤ → ℤ → Type 0
Times z (pos d) v = v ≡ z *ℤ pos (10 ^ d)
Times z (negsuc d) v = v *ℤ pos (10 ^ suc d) ≡ z

-- "accepted if the value is a whole number of millionths, at most 9,999,999,999,999 either way": v, of the bytes before the `e` and those after it
pub record Makes (m x : List ℕ) (v : ℤ) : Type 0 where
  pub number : ℤ
  pub power : ℤ
  pub before : fixed_of FLOAT m ≡ value number
  pub after : exponent_of x ≡ value power
  pub exact : Times number power v
  pub range : in_form FLOAT v ≡ true
