-- What the readers of numbers, rows and choices give: as many numbers as were asked for, in their form's range, and a choice below the count of words; by one law a reader.
use mathlib.Core.Path.{◌≡◌, refl, ap, ◌∙◌}
use mathlib.Core.List.{List, [], ◌∷◌, ◌++◌}
use mathlib.Core.Bool.{true}
use Prim.Native.Nat.{ℕ, zero, suc, ◌+◌, ◌<◌}
use Prim.Native.String.{String}
use native.Mathlib.Omega.{arith}
use lib.ListN.{length, drop, length-append}
use lib.Seq.{drop_at}
use lib.IntN.{ℤ}
use Rattle.text_bytes.specs.Bytes.{bytes}
use Rattle.text_tokens.specs.Tokens.{Token, opening, closing, ending, quoted, plain, Lexeme, is_keyword}
use Rattle.text_numerals.specs.Numbers.{Number, value, beyond, wrong, Form, INT, number_of, refusal_of, in_form}
use Rattle.text_numerals.proofs.Raised.{number-range}
use Rattle.parse_spec.specs.Readers.{Reader, token_of, number_in, number_at, number, numbers, cells, row_of, row, one_from, one_of, many⁺}
use Rattle.parse_spec.proofs.Given.{GivesOn, LeavesOn, Every, pure-gives, stop-gives, next_gives, either_gives, bind-gives, then_gives, gives_as, closed-gives, opened_of_leaves, many-gives}

-- in a form's range
abbrev pub InForm : Form → ℤ → Type 0
InForm f z = in_form f z ≡ true

abbrev pub AllIn : Form → List ℤ → Type 0
AllIn f zs = Every (InForm f) zs

-- so many numbers of a form
abbrev pub Numbers : Form → ℕ → List ℤ → Type 0
Numbers f n zs = (length zs ≡ n) × AllIn f zs

-- the same after so many others
abbrev pub Cells : ℕ → Form → ℕ → List ℤ → Type 0
Cells lead f n zs = (length zs ≡ lead + n) × AllIn f (drop lead zs)

module _ {Q : Lexeme → Type 0} where
  -- ---- numbers

  value-gives : (f : Form) (bs : List ℕ) (n : Number) → number_of f bs ≡ n → GivesOn Q (InForm f) (number_in n)
  unfolding number_in
  value-gives f bs (value y) o = next_gives y (number-range f bs y o)
  value-gives f bs beyond o = stop-gives (refusal_of beyond)
  value-gives f bs wrong o = stop-gives (refusal_of wrong)

  token-gives : (f : Form) (t : Token) → GivesOn Q (InForm f) (number_at f t)
  unfolding number_at
  token-gives f opening = stop-gives 5
  token-gives f closing = stop-gives 5
  token-gives f ending = stop-gives 5
  token-gives f (quoted bs) = stop-gives 5
  token-gives f (plain bs) = value-gives f bs (number_of f bs) refl

  pub number-gives : (f : Form) → GivesOn Q (InForm f) (number f)
  unfolding number
  number-gives f = record { each = λ ms. (token-gives f (token_of ms)).each ms }

  pub numbers_give : (f : Form) (n : ℕ) → GivesOn Q (Numbers f n) (numbers f n)
  unfolding numbers
  numbers_give f zero = pure-gives {P = Numbers f 0} [] (refl, tt)
  numbers_give f (suc n) = bind-gives (number-gives f) (λ z p. bind-gives (numbers_give f n) (λ zs q. pure-gives {P = Numbers f (suc n)} (z ∷ zs) (ap suc q.0, (p, q.1))))

  -- ---- rows

  pub cells_give : (lead : ℕ) (f : Form) (n : ℕ) → GivesOn Q (Cells lead f n) (cells lead f n)
  unfolding cells
  cells_give lead f n =
      bind-gives (numbers_give INT lead) (λ a p. bind-gives (numbers_give f n) (λ b q.
      pure-gives {P = Cells lead f n} (a ++ b) (length-append a b ∙ rw (p.0, q.0), rw (drop_at a b lead p.0) q.1)))

  pub row_of-gives : (k : List ℕ) (lead : ℕ) (f : Form) (n : ℕ) → GivesOn Q (Cells lead f n) (row_of k lead f n)
  unfolding row_of
  row_of-gives k lead f n = then_gives (opened_of_leaves k) (closed-gives (cells_give lead f n))

  pub row_gives : (k : String) (f : Form) (n : ℕ) → GivesOn Q (Numbers f n) (row k f n)
  unfolding row
  row_gives k f n = gives_as (row_of-gives (bytes k) 0 f n) (λ zs h. (omega (arith, h.0), h.1))

  -- ---- a choice of words

  from-below : (n : ℕ) (ks : List String) → GivesOn Q (λ i. i < n + length ks) (one_from n ks)
  unfolding one_from
  from-below n [] = stop-gives 5
  from-below n (k ∷ ks) =
      either_gives (λ ms. is_keyword (bytes k) (token_of ms)) (next_gives {P = λ i. i < n + suc (length ks)} n (omega arith)) (gives_as (from-below (suc n) ks) (λ i h. omega arith)) (λ ms o. rw (o, one_from)) (λ ms o. rw (o, one_from))

  pub choice_below : (ks : List String) → GivesOn Q (λ i. i < length ks) (one_of ks)
  unfolding one_of
  choice_below ks = gives_as (from-below 0 ks) (λ i h. omega arith)

  -- ---- one or more

  pub some_stand : {A : Type 0} {r : Reader A} → LeavesOn Q r → GivesOn Q (λ (l : List A). 0 < length l) (many⁺ r)
  unfolding many⁺
  some_stand {A} h = bind-gives h (λ a _. bind-gives (many-gives h) (λ l _. pure-gives {P = λ (l : List A). 0 < length l} (a ∷ l) (omega arith)))
