-- Laws of a line and its fields, and of their lengths.
use mathlib.Core.Path.{◌≡◌, refl, ap, sym, ◌∙◌}
use mathlib.Core.List.{List, [], ◌∷◌, ◌++◌, append_assoc}
use mathlib.Core.Bool.{Bool, true, false}
use Prim.Native.Nat.{ℕ, suc, ◌+◌, ◌≤◌, ◌<◌}
use native.Mathlib.Omega.{arith}
use borrow.Author.Tests.{le-leb, lt-leb, ltb-true, ltb-false}
use lib.Dec.{leb, ltb}
use lib.ListN.{length, drop, get_or, length-append, drop_of_length-le}
use lib.Seq.{drop-cons}
use lib.IntN.{ℤ, pos}
use Rattle.report_text.specs.Output.{output, appended}
use Rattle.report_text.specs.Text.{numeral, fields, line}
use Rattle.report_text.proofs.Appending.{fits_on, goes_on}

-- ---- the fields from the i-th on

pub fields_step : (zs : List ℤ) (i : ℕ) → i < length zs → fields (drop i zs) ≡ (9 ∷ numeral (get_or zs i (pos 0))) ++ fields (drop (suc i) zs)
unfolding fields
fields_step zs i h = rw (drop-cons zs i (pos 0) h)

pub fields_end : (zs : List ℤ) (i : ℕ) → length zs ≤ i → fields (drop i zs) ≡ []
unfolding fields
fields_end zs i h = rw (drop_of_length-le zs h)

-- what stands of a line after the first i fields
unfoldable pub rest : List ℤ → ℕ → List ℕ
rest zs i = fields (drop i zs) ++ (10 ∷ [])

pub rest_step : (zs : List ℤ) (i : ℕ) → i < length zs → rest zs i ≡ (9 ∷ []) ++ (numeral (get_or zs i (pos 0)) ++ rest zs (suc i))
unfolding rest
rest_step zs i h = rw (fields_step zs i h) (ap (λ (l : List ℕ). 9 ∷ l) (append_assoc (numeral (get_or zs i (pos 0))) (fields (drop (suc i) zs)) (10 ∷ [])))

pub rest_end : (zs : List ℤ) (i : ℕ) → length zs ≤ i → rest zs i ≡ 10 ∷ []
unfolding rest
rest_end zs i h = rw (fields_end zs i h)

pub line-rest : (word : List ℕ) (zs : List ℤ) → line word zs ≡ word ++ rest zs 0
unfolding line rest
line-rest word zs = refl

-- a tab and a number put down: what stands after them goes on from there, and fits
module _ (zs : List ℤ) (i n m r : ℕ) (buf buf' buf'' : List ℕ) (h : i < length zs) (fits : n + length (rest zs i) ≤ length buf) (p : output m buf' ≡ appended (output n buf) (9 ∷ [])) (q : output r buf'' ≡ appended (output m buf') (numeral (get_or zs i (pos 0)))) where
  abbrev z : ℤ
  z = get_or zs i (pos 0)

  abbrev after_tab : List ℕ
  after_tab = numeral z ++ rest zs (suc i)

  fits-here : n + length ((9 ∷ []) ++ after_tab) ≤ length buf
  fits-here = rw (rest_step zs i h) at fits

  fits_after : m + length after_tab ≤ length buf'
  fits_after = fits_on n m buf buf' (9 ∷ []) after_tab fits-here p

  pub field_fits : r + length (rest zs (suc i)) ≤ length buf''
  field_fits = fits_on m r buf' buf'' (numeral z) (rest zs (suc i)) fits_after q

  pub field_goes_on : appended (output n buf) (rest zs i) ≡ appended (output r buf'') (rest zs (suc i))
  field_goes_on = rw (rest_step zs i h) (goes_on n m buf buf' (9 ∷ []) after_tab fits-here p ∙ goes_on m r buf' buf'' (numeral z) (rest zs (suc i)) fits_after q)

-- ---- lengths

pub fields-length : (zs : List ℤ) (i w : ℕ) → i < length zs → w ≡ length (numeral (get_or zs i (pos 0))) → length (fields (drop i zs)) ≡ 1 + w + length (fields (drop (suc i) zs))
fields-length zs i w h e = ap length (fields_step zs i h) ∙ length-append (9 ∷ numeral (get_or zs i (pos 0))) (fields (drop (suc i) zs)) ∙ rw e (omega arith)

pub line-length : (word : List ℕ) (zs : List ℤ) → length (line word zs) ≡ length word + (length (fields zs) + 1)
unfolding line
line-length word zs = length-append word _ ∙ rw (length-append (fields zs) (10 ∷ []))

-- room for the line feed is room for the line
pub left_over : (a size left : ℕ) → a + left ≡ size + 1 + 0 → ltb 0 left ≡ leb a size
left_over a size left e = go (ltb 0 left) refl
  where
    go : (v : Bool) → ltb 0 left ≡ v → ltb 0 left ≡ leb a size
    go true t = t ∙ sym (le-leb a size (omega (arith, ltb-true 0 left t)))
    go false t = t ∙ sym (lt-leb a size (omega (arith, ltb-false 0 left t)))
