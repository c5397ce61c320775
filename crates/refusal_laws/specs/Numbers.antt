-- Which numbers a refusal has (document 01, "Refusal numbers"), by the file that it speaks of. None is 0.
use Rattle.std.specs.Prelude.{◌≡◌, List, [], ◌∷◌, Bool, true, false, ◌||◌, ℕ, zero, suc, ◌≤◌, eqb, length}
use Rattle.refusal.specs.Outcomes.{Outcome, accepted}
use Rattle.pair_text.specs.Answer.{Loaded, loaded}

unfoldable pub is_among : ℕ → List ℕ → Bool
is_among n [] = false
is_among n (k ∷ ks) = eqb n k || is_among n ks

-- 1 to 13, and 17
unfoldable pub figure_numbers : List ℕ
figure_numbers = 1 ∷ 2 ∷ 3 ∷ 4 ∷ 5 ∷ 6 ∷ 7 ∷ 8 ∷ 9 ∷ 10 ∷ 11 ∷ 12 ∷ 13 ∷ 17 ∷ []

-- 1 to 8, and 14 to 17
unfoldable pub movement_numbers : List ℕ
movement_numbers = 1 ∷ 2 ∷ 3 ∷ 4 ∷ 5 ∷ 6 ∷ 7 ∷ 8 ∷ 14 ∷ 15 ∷ 16 ∷ 17 ∷ []

unfoldable pub pair_numbers : List ℕ
pair_numbers = 18 ∷ 19 ∷ 20 ∷ []

-- a refusal's number is one of some, and the place of 1 to 7 is in the text or at its end
pub record Refusal (numbers text : List ℕ) (n p : ℕ) : Type 0 where
  pub number : is_among n numbers ≡ true
  pub place : n ≤ 7 → p ≤ length text

-- of loading a pair, by the file: 0 the figure, 1 the movement, 2 both
unfoldable pub numbers_of : ℕ → List ℕ
numbers_of zero = figure_numbers
numbers_of (suc zero) = movement_numbers
numbers_of (suc (suc zero)) = pair_numbers
numbers_of (suc (suc (suc k))) = []

-- the text of that file; the places of 18 to 20 are counts and rows
unfoldable pub text_of : ℕ → List ℕ → List ℕ → List ℕ
text_of zero figure movement = figure
text_of (suc k) figure movement = movement

-- of loading a movement with a figure that already stands in a table: 21 where that table breaks a rule
unfoldable pub moved_numbers_of : ℕ → List ℕ
moved_numbers_of zero = 21 ∷ []
moved_numbers_of (suc zero) = movement_numbers
moved_numbers_of (suc (suc zero)) = pair_numbers
moved_numbers_of (suc (suc (suc k))) = []

-- a text is taken, a pair is loaded
abbrev pub IsTaken : {A : Type 0} → Outcome A → Type 0
IsTaken {A} o = (a : A) × (o ≡ accepted a)

abbrev pub IsLoaded : {A : Type 0} → Loaded A → Type 0
IsLoaded {A} l = (a : A) × (l ≡ loaded a)
