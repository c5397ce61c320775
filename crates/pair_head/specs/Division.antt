-- A pair as one input: eight digits giving the figure's length in bytes, a line feed, the figure, and then the movement.
use Rattle.std.specs.Prelude.{Bool, true, false, ◌&&◌, List, ℕ, ◌+◌, ◌-◌, leb, eqb, length, take, get_or}
use Rattle.std.proofs.Math.Option.{Option, none, some}
use Rattle.text_numerals.specs.Numbers.{all_digits, decimal}

unfoldable pub is_head : List ℕ → Bool
is_head bs = eqb (length bs) 9 && all_digits (take 8 bs) && eqb (get_or bs 8 0) 10

-- the figure's length, where nine bytes are eight digits and a line feed
unfoldable pub head_of : List ℕ → Option ℕ
head_of bs = elim (is_head bs) [ true ↦ some (decimal (take 8 bs)) | false ↦ none ]

-- where the figure ends, or a refusal's number
pub data Divided : Type 0 where
  figure : ℕ → Divided
  refused : ℕ → Divided

-- a figure of n bytes, where left bytes after the head are at hand and more follow: past the input's end it is refused
-- with 2, and over 65,536 bytes with 1 where the input has them all
unfoldable pub divided_at : ℕ → ℕ → ℕ → Divided
divided_at left more n = elim (leb n 65536) [ true ↦ elim (leb n left) [ true ↦ figure (9 + n) | false ↦ refused 2 ] | false ↦ elim (leb n (left + more)) [ true ↦ refused 1 | false ↦ refused 2 ] ]

unfoldable pub divided_by : ℕ → ℕ → Option ℕ → Divided
divided_by left more none = refused 2
divided_by left more (some n) = divided_at left more n

-- an input of which a text is at hand, and more bytes follow
unfoldable pub divided : List ℕ → ℕ → Divided
divided text more = divided_by (length text - 9) more (head_of (take 9 text))
