-- Numbers times a power of ten: the code's signs and magnitudes are the definition's numbers, and each lies in its range.
use mathlib.Core.Path.{◌≡◌, refl, ap, sym, ◌∙◌}
use mathlib.Core.List.{List, [], ◌∷◌}
use mathlib.Core.Bool.{Bool, true, false, cond, ◌&&◌, true≢false}
use Prim.Native.Nat.{ℕ, zero, suc, ◌*◌, ◌/◌, ◌%◌, ◌^◌, ◌≤◌, ◌<◌}
use native.Mathlib.Nat.{pow-le-pow_right, mul-le-mul}
use native.Mathlib.Omega.{arith}
use borrow.Author.Tests.{leb-true, le-leb, lt-leb, eq-eqb, ne_eqb}
use lib.Dec.{leb, eqb}
use lib.ListN.{length, drop}
use lib.IntN.{ℤ, pos, negsuc, nat_abs, ◌*ℤ◌, pos-ne-negsuc}
use lib.Signed.{lt_z}
use Rattle.signed.proofs.Signed.{below-zero, from_zero}
use Rattle.text_numerals.specs.Numbers.{Number, value, beyond, wrong, Form, INT, FLOAT, decimal, signed, not_empty, all_digits, whole_of, millionths, float_of, negative, unsigned_part, fixed_of, in_form, exponent_of, in_range, over, raised, times_power, mantissa, with_exponent, number_of}
use Rattle.text_numerals.specs.Internal.Parts.{whole_in, within}
use Rattle.text_numerals.proofs.Numerals.{and_true, millionths-below, signed_float, chosen, beyond_no, fixed_range}

-- ---- signs and magnitudes

pub signed_times : (z : ℤ) (p : ℕ) (s : Bool) → lt_z z (pos 0) ≡ s → signed s (nat_abs z * p) ≡ z *ℤ pos p
unfolding signed
signed_times z p true e = rw (below-zero z e)
signed_times z p false e = rw (from_zero z e)

pub signed-over : (z : ℤ) (p : ℕ) (s : Bool) → lt_z z (pos 0) ≡ s → signed s (nat_abs z / p) ≡ over z p
unfolding signed over
signed-over z p true e = rw (below-zero z e)
signed-over z p false e = rw (from_zero z e)

nat_abs-signed : (s : Bool) (n : ℕ) → nat_abs (signed s n) ≡ n
unfolding signed
nat_abs-signed false n = refl
nat_abs-signed true zero = refl
nat_abs-signed true (suc n) = refl

-- ---- FLOAT's range

signed_far : (s : Bool) (n : ℕ) → 9999999999999 < n → in_form FLOAT (signed s n) ≡ false
unfolding in_form signed
signed_far false n h = lt-leb n 9999999999999 h
signed_far true zero h = absurd (omega arith)
signed_far true (suc n) h = lt-leb n 9999999999998 (omega arith)

pub range_near : (s : Bool) (n : ℕ) → n ≤ 9999999999999 → in_range (signed s n) ≡ value (signed s n)
unfolding in_range
range_near s n h = rw (signed_float s n (omega arith))

pub range_far : (s : Bool) (n : ℕ) → 9999999999999 < n → in_range (signed s n) ≡ beyond
unfolding in_range
range_far s n h = rw (signed_far s n h)

pub in_range_lem : (z v : ℤ) → in_range z ≡ value v → (in_form FLOAT v ≡ true) × (z ≡ v)
unfolding in_range
in_range_lem z v e = let p = chosen (in_form FLOAT z) z v beyond (beyond_no v) e in (rw (← p.1) p.0, p.1)

-- a choice of two numbers is within a bound where both are
within_cond : (most : ℕ) (t : Bool) (a b : Number) → (t ≡ true → within most a ≡ true) → within most b ≡ true → within most (cond t a b) ≡ true
within_cond most true a b p q = p refl
within_cond most false a b p q = q

within-value : (most n : ℕ) (s : Bool) → n ≤ most → within most (value (signed s n)) ≡ true
unfolding within
within-value most n s h = rw (nat_abs-signed s n) (le-leb n most h)

pub float_within : (s : Bool) (ds fs : List ℕ) → all_digits ds ≡ true → all_digits fs ≡ true → within 9999999999999 (float_of s ds fs) ≡ true
unfolding float_of
float_within s ds fs d f =
    within_cond 9999999999999 (leb (length ds) 7 && leb (length fs) 6) (value (signed s (millionths ds fs))) beyond
    (λ e. let t = and_true (leb (length ds) 7) (leb (length fs) 6) e in
    let h = millionths-below ds fs d f (leb-true _ _ t.0) (leb-true _ _ t.1) in
    within-value 9999999999999 (millionths ds fs) s (omega arith))
    (unfold within in refl)

-- ---- exponents

six : (s : Bool) → ◌≡◌ {A = ℕ} (cond s 6 6) 6
six true = refl
six false = refl

pub exponent_whole : (word : List ℕ) → whole_in 1 6 6 word ≡ exponent_of word
unfolding whole_in exponent_of
exponent_whole word = rw (six (negative word))

pub exponent_within : (word : List ℕ) → within 6 (exponent_of word) ≡ true
unfolding exponent_of whole_of
exponent_within word =
    let u = unsigned_part word in
    within_cond 6 (not_empty u && all_digits u) (whole_of 1 6 (negative word) u) wrong
    (λ _. within_cond 6 (leb (length u) 1 && leb (decimal u) 6) (value (signed (negative word) (decimal u))) beyond
    (λ e. within-value 6 (decimal u) (negative word) (leb-true _ _ (and_true (leb (length u) 1) (leb (decimal u) 6) e).1))
    (unfold within in refl))
    (unfold within in refl)

-- by the sign of the exponent, of a magnitude and a power
module _ (z e : ℤ) (n p : ℕ) (size : n ≡ nat_abs z) (q : p ≡ 10 ^ nat_abs e) where
  pub raised_up : (s : Bool) → s ≡ lt_z z (pos 0) → false ≡ lt_z e (pos 0) → in_range (signed s (n * p)) ≡ raised z e
  unfolding raised
  raised_up s h k = rw (size, signed_times z p s (sym h), q, from_zero e (sym k))

  pub raised_down : (s : Bool) → s ≡ lt_z z (pos 0) → true ≡ lt_z e (pos 0) → n % p ≡ 0 → in_range (signed s (n / p)) ≡ raised z e
  unfolding raised
  raised_down s h k m = go e q (sym k)
    where
      go : (e : ℤ) → p ≡ 10 ^ nat_abs e → lt_z e (pos 0) ≡ true → in_range (signed s (n / p)) ≡ raised z e
      go (pos d) q k = absurd (pos-ne-negsuc d _ (below-zero (pos d) k))
      go (negsuc d) q k = rw (← q, ← size, eq-eqb _ _ m, size, signed-over z p s (sym h))

  pub raised-part : true ≡ lt_z e (pos 0) → (n % p ≡ 0 → ⊥) → raised z e ≡ beyond
  unfolding raised
  raised-part k m = go e q (sym k)
    where
      go : (e : ℤ) → p ≡ 10 ^ nat_abs e → lt_z e (pos 0) ≡ true → raised z e ≡ beyond
      go (pos d) q k = absurd (pos-ne-negsuc d _ (below-zero (pos d) k))
      go (negsuc d) q k = rw (← q, ← size, ne_eqb _ _ m)

pub power_some : (p d : ℕ) → p ≡ 10 ^ d → 0 < p
power_some p d e = rw e (pow-le-pow_right {n = 10} (omega arith) {i = 0} {j = d} (omega arith))

-- the greatest number times the greatest power is below 2 ^ 64
pub product_below : (n p d : ℕ) → n ≤ 9999999999999 → d ≤ 6 → p ≡ 10 ^ d → n * p < 2 ^ 64
product_below n p d h k e =
    let l : p ≤ 1000000 = rw e (pow-le-pow_right {n = 10} (omega arith) k) in
    let m = mul-le-mul h l in
    omega arith

-- ---- a word's value lies in its form's range

raised-range : (z e v : ℤ) → raised z e ≡ value v → in_form FLOAT v ≡ true
unfolding raised
raised-range z (pos d) v h = (in_range_lem _ v h).0
raised-range z (negsuc d) v h = go (eqb (nat_abs z % 10 ^ suc d) 0) h
  where
    go : (t : Bool) → cond t (in_range (over z (10 ^ suc d))) beyond ≡ value v → in_form FLOAT v ≡ true
    go true h = (in_range_lem _ v h).0
    go false h = absurd (beyond_no v h)

-- a product with a value has two values
pub record Product (n e : Number) (v : ℤ) : Type 0 where
  pub number : ℤ
  pub power : ℤ
  pub before : n ≡ value number
  pub after : e ≡ value power
  pub made : raised number power ≡ value v

is_value : Number → Bool
is_value (value z) = true
is_value beyond = false
is_value wrong = false

no_value : (n : Number) (v : ℤ) → is_value n ≡ false → n ≡ value v → ⊥
unfolding is_value
no_value n v e h = true≢false (sym (ap is_value h) ∙ e)

pub product : (n e : Number) (v : ℤ) → times_power n e ≡ value v → Product n e v
unfolding times_power is_value
product (value z) (value k) v h = record { number = z; power = k; before = refl; after = refl; made = h }
product (value z) beyond v h = absurd (no_value (times_power (value z) beyond) v refl h)
product (value z) wrong v h = absurd (no_value (times_power (value z) wrong) v refl h)
product beyond (value k) v h = absurd (no_value (times_power beyond (value k)) v refl h)
product beyond beyond v h = absurd (no_value (times_power beyond beyond) v refl h)
product beyond wrong v h = absurd (no_value (times_power beyond wrong) v refl h)
product wrong e v h = absurd (no_value (times_power wrong e) v refl h)

times_range : (n e : Number) (v : ℤ) → times_power n e ≡ value v → in_form FLOAT v ≡ true
times_range n e v h = let p = product n e v h in raised-range p.number p.power v p.made

with_range : (n : Number) (rest : List ℕ) (z : ℤ) → (n ≡ value z → in_form FLOAT z ≡ true) → with_exponent n rest ≡ value z → in_form FLOAT z ≡ true
unfolding with_exponent
with_range n [] z r h = r h
with_range n (b ∷ bs) z r h = times_range n (exponent_of bs) z h

pub number-range : (f : Form) (word : List ℕ) (z : ℤ) → number_of f word ≡ value z → in_form f z ≡ true
unfolding number_of
number-range INT word z h = fixed_range INT word z h
number-range FLOAT word z h = with_range (fixed_of FLOAT (mantissa word)) (drop (length (mantissa word)) word) z (fixed_range FLOAT (mantissa word) z) h
