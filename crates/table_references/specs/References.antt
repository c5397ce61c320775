-- Numbers that refer to a row of a list, or to none by -1 (document 01, "Figure shape").
use Rattle.std.specs.Prelude.{List, [], ◌∷◌, Bool, false, ◌||◌, ℕ, ltb, eqb, ℤ, pos, negsuc}

-- a row of a list of n rows
unfoldable pub is_row : ℕ → ℤ → Bool
is_row n (pos k) = ltb k n
is_row n (negsuc k) = false

unfoldable pub is_none : ℤ → Bool
is_none (pos k) = false
is_none (negsuc k) = eqb k 0

unfoldable pub same_number : ℤ → ℤ → Bool
same_number (pos a) (pos b) = eqb a b
same_number (pos a) (negsuc b) = false
same_number (negsuc a) (pos b) = false
same_number (negsuc a) (negsuc b) = eqb a b

unfoldable pub member : ℤ → List ℤ → Bool
member z [] = false
member z (y ∷ ys) = same_number z y || member z ys
