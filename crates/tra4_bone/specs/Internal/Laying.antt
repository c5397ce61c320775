-- Keys laid by channel number: what a table of ranges says of a table of keys.
use Rattle.std.specs.Prelude.{◌≡◌, List, [], ◌∷◌, ◌++◌, ℕ, ◌+◌, ◌*◌, ◌≤◌, ℤ, pos, nat_abs, take, drop}
use Rattle.tra4_text.specs.Layout.{first_row}

-- the rows of two numbers that a range names
unfoldable pub range_rows : ℤ → ℤ → List ℤ → List ℤ
range_rows f c keys = take (nat_abs c * 2) (drop (nat_abs f * 2) keys)

-- those that some ranges name, range by range
unfoldable pub gathered : List ℤ → List ℤ → List ℤ
gathered [] keys = []
gathered (f ∷ []) keys = []
gathered (f ∷ c ∷ ranges) keys = range_rows f c keys ++ gathered ranges keys

-- how many they are
unfoldable pub ranges_total : List ℤ → ℕ
ranges_total [] = 0
ranges_total (f ∷ []) = 0
ranges_total (f ∷ c ∷ ranges) = nat_abs c + ranges_total ranges

-- the ranges of those rows where they are laid one after the other from a row on; one of no rows begins at 0
unfoldable pub renumbered : ℕ → List ℤ → List ℤ
renumbered row [] = []
renumbered row (f ∷ []) = f ∷ []
renumbered row (f ∷ c ∷ ranges) = pos (first_row row (nat_abs c)) ∷ c ∷ renumbered (row + nat_abs c) ranges

-- a range lies within the first n rows
pub record RangeIn (n : ℕ) (f c : ℤ) : Type 0 where
  pub first_is : f ≡ pos (nat_abs f)
  pub count_is : c ≡ pos (nat_abs c)
  pub below : nat_abs f + nat_abs c ≤ n

-- every range does
unfoldable pub Within : ℕ → List ℤ → Type 0
Within n [] = Unit {0}
Within n (f ∷ []) = Unit {0}
Within n (f ∷ c ∷ ranges) = RangeIn n f c × Within n ranges
