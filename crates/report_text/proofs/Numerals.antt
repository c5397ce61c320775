-- The decimal text of a number is what `io::decimal` gives: its fewest digits, by induction on how many those are.
use mathlib.Core.Path.{◌≡◌, refl, ap, sym, ◌∙◌}
use mathlib.Core.List.{List, [], ◌∷◌, ◌++◌}
use mathlib.Core.Bool.{Bool, true, false, true≢false}
use Prim.Native.Nat.{ℕ, zero, suc, ◌+◌, ◌-◌, ◌*◌, ◌/◌, ◌%◌, ◌^◌, ◌≤◌, ◌<◌, max}
use native.Mathlib.Nat.{mod-eq_of_lt, mod-lt, pow-suc, one-le-pow}
use native.Mathlib.Numerals.{add-one}
use native.Mathlib.Omega.{arith}
use borrow.Author.Tests.{lt-ltb, le-ltb, ltb-true, ltb-false}
use lib.Dec.{ltb}
use lib.ListN.{length, length-append}
use lib.IntN.{ℤ, pos, negsuc, nat_abs}
use lib.Signed.{lt_z}
use mir.Syntax.{w64}
use mir.Val.{SFits, to_z, of_z}
use mir.Facts.{to_z-of_z}
use Rattle.io.specs.Digits.{IsDigitCount, hex_digit_ascii}
use Rattle.io.specs.Digits.{last_digits as digits_at_end}
use Rattle.report_text.specs.Text.{digits_in, digits, numeral}

-- a digit below ten
glyph_ten : (d : ℕ) → d < 10 → hex_digit_ascii d ≡ 48 + d
glyph_ten d h = rw (lt-ltb d 10 h)

digits-one : (steps n : ℕ) → n < 10 → digits_in (suc steps) n ≡ (48 + n) ∷ []
unfolding digits_in
digits-one steps n h = rw (lt-ltb n 10 h, digits_in)

digits_more : (steps n : ℕ) → 10 ≤ n → digits_in (suc steps) n ≡ digits_in steps (n / 10) ++ ((48 + n % 10) ∷ [])
unfolding digits_in
digits_more steps n h = rw (le-ltb n 10 h, digits_in)

fewest_in : (k steps n : ℕ) → n < steps → IsDigitCount 10 1 n k → digits_in steps n ≡ digits_at_end 10 k n
fewest_in zero steps n s f = absurd (omega (arith, f.0))
fewest_in (suc k) zero n s f = absurd (omega arith)
fewest_in (suc zero) (suc steps) n s f = let h : n < 10 = f.1 in rw (digits-one steps n h, mod-eq_of_lt h, glyph_ten n h)
fewest_in (suc (suc k)) (suc steps) n s f =
    let less_one : suc (suc k) - 1 ≡ suc k = omega arith in
    let p : 10 ^ suc k ≤ n = rw less_one at (f.2 (omega arith)) in
    let q : n < 10 ^ suc (suc k) = f.1 in
    let one : 1 ≤ 10 ^ k = one-le-pow k 10 (omega arith) in
    let e : 10 ^ suc k ≡ 10 ^ k * 10 = pow-suc 10 k in
    let e' : 10 ^ suc (suc k) ≡ 10 ^ suc k * 10 = pow-suc 10 (suc k) in
    let ten : 10 ≤ n = omega arith in
    let low : 10 ^ k ≤ n / 10 = omega arith in
    let high : n / 10 < 10 ^ suc k = omega arith in
    let less : n / 10 < steps = omega arith in
    let less_two : suc k - 1 ≡ k = omega arith in
    digits_more steps n ten
    ∙ rw (fewest_in (suc k) steps (n / 10) less (omega arith, high, λ _. rw less_two low), glyph_ten (n % 10) (mod-lt n (omega arith)))

fewest : (k n : ℕ) → IsDigitCount 10 1 n k → digits n ≡ digits_at_end 10 k n
unfolding digits
fewest k n f = fewest_in k (suc n) n (omega arith) f

digits_count : (k n : ℕ) → length (digits_at_end 10 k n) ≡ k
digits_count zero n = refl
digits_count (suc k) n = length-append (digits_at_end 10 k (n / 10)) (hex_digit_ascii (n % 10) ∷ []) ∙ rw (digits_count k (n / 10)) (omega arith)

-- a number below 10 ^ k has at most k digits
digits-within : (k steps n : ℕ) → n < 10 ^ suc k → length (digits_in steps n) ≤ suc k
unfolding digits_in
digits-within k zero n h = omega arith
digits-within zero (suc steps) n h = rw (digits-one steps n h) (omega arith)
digits-within (suc k) (suc steps) n h = go (ltb n 10) refl (digits-within k steps (n / 10))
  where
    go : (v : Bool) → ltb n 10 ≡ v → (n / 10 < 10 ^ suc k → length (digits_in steps (n / 10)) ≤ suc k) → length (digits_in (suc steps) n) ≤ suc (suc k)
    go true e ih = rw (digits-one steps n (ltb-true n 10 e)) (omega arith)
    go false e ih =
        let p : 10 ^ suc (suc k) ≡ 10 ^ suc k * 10 = pow-suc 10 (suc k) in
        let l : length (digits_in steps (n / 10)) ≤ suc k = ih (omega arith) in
        rw (digits_more steps n (ltb-false n 10 e)) (omega (arith, length-append (digits_in steps (n / 10)) ((48 + n % 10) ∷ [])))

-- the magnitude of a number of 64 bits has at most 19
digits-most : (z : ℤ) → SFits w64 z → length (digits (nat_abs z)) ≤ 19
unfolding digits
digits-most (pos n) h = let l : n < 2 ^ 63 = h.sfits in digits-within 18 (suc n) n (omega arith)
digits-most (negsuc n) h = let l : n < 2 ^ 63 = h.sfits in digits-within 18 (suc (suc n)) (suc n) (omega arith)

-- ---- by the sign

numeral-below : (z : ℤ) → lt_z z (pos 0) ≡ true → numeral z ≡ 45 ∷ digits (nat_abs z)
unfolding numeral
numeral-below (pos n) e = absurd (not-below-zero n e)
  where
    not-below-zero : (n : ℕ) → ltb n 0 ≡ true → ⊥
    not-below-zero n e = omega (arith, ltb-true n 0 e)
numeral-below (negsuc n) e = refl

numeral-from : (z : ℤ) → lt_z z (pos 0) ≡ false → numeral z ≡ digits (nat_abs z)
unfolding numeral
numeral-from (pos n) e = refl
numeral-from (negsuc n) e = absurd (true≢false e)

pub numeral-most : (z : ℤ) → SFits w64 z → length (numeral z) ≤ 20
unfolding numeral
numeral-most (pos n) h = omega (arith, digits-most (pos n) h)
numeral-most (negsuc n) h = omega (arith, digits-most (negsuc n) h)

-- the test of a number's bits is a test of the number
test : (z : ℤ) (v : Bool) → SFits w64 z → lt_z (to_z w64 (of_z w64 z)) (pos 0) ≡ v → lt_z z (pos 0) ≡ v
test z v h e = ap (λ (x : ℤ). lt_z x (pos 0)) (sym (to_z-of_z {w = w64} h)) ∙ e

-- m is the magnitude of z, and ds are its fewest digits, k of them
module _ (z : ℤ) (m k : ℕ) (ds : List ℕ) (h : SFits w64 z) (e : m ≡ nat_abs (to_z w64 (of_z w64 z))) (f : IsDigitCount 10 1 m k) (d : ds ≡ digits_at_end 10 k m) where
  whole : m ≡ nat_abs z
  whole = e ∙ ap nat_abs (to_z-of_z {w = w64} h)

  spelled : digits (nat_abs z) ≡ ds
  spelled = ap digits (sym whole) ∙ fewest k m f ∙ sym d

  pub text-below : lt_z (to_z w64 (of_z w64 z)) (pos 0) ≡ true → numeral z ≡ 45 ∷ ds
  text-below t = numeral-below z (test z true h t) ∙ ap (λ (l : List ℕ). 45 ∷ l) spelled

  pub text-from : lt_z (to_z w64 (of_z w64 z)) (pos 0) ≡ false → numeral z ≡ ds
  text-from t = numeral-from z (test z false h t) ∙ spelled

  digit_count : length ds ≡ k
  digit_count = ap length d ∙ digits_count k m

  pub width-below : lt_z (to_z w64 (of_z w64 z)) (pos 0) ≡ true → k + 1 ≡ length (numeral z)
  width-below t = add-one k ∙ ap suc (sym digit_count) ∙ sym (ap length (text-below t))

-- ---- as many digits as the logarithm of a number, or of 1 for 0, says

pub digits-log : (n x r : ℕ) → x ≡ max n 1 → 10 ^ r ≤ x → x < 10 * 10 ^ r → length (digits n) ≡ r + 1
digits-log n x r e low high = ap length (fewest (suc r) n (omega arith, high_as r high, low_as r low)) ∙ digits_count (suc r) n ∙ sym (add-one r)
  where
    high_as : (r : ℕ) → x < 10 * 10 ^ r → n < 10 ^ suc r
    high_as r h = omega (arith, e, pow-suc 10 r)

    low_as : (r : ℕ) → 10 ^ r ≤ x → 1 < suc r → 10 ^ (suc r - 1) ≤ n
    low_as zero h l = absurd (omega arith)
    low_as (suc r) h l = let d : suc (suc r) - 1 ≡ suc r = omega arith in rw d (omega (arith, e, pow-suc 10 r, one-le-pow r 10 (omega arith)))

-- and a sign more below zero
module _ (z : ℤ) (m : ℕ) (h : SFits w64 z) (e : m ≡ nat_abs (to_z w64 (of_z w64 z))) where
  pub numeral_below : lt_z (to_z w64 (of_z w64 z)) (pos 0) ≡ true → length (numeral z) ≡ length (digits m) + 1
  numeral_below t = rw (e, to_z-of_z {w = w64} h) (omega (arith, ap length (numeral-below z (test z true h t))))

  pub numeral_from : lt_z (to_z w64 (of_z w64 z)) (pos 0) ≡ false → length (numeral z) ≡ length (digits m)
  numeral_from t = rw (e, to_z-of_z {w = w64} h) (ap length (numeral-from z (test z false h t)))
