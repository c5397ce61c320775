-- What a FLOAT with an exponent is: the bytes before the first `e`, times ten to an exact power; and nothing else has changed.
use mathlib.Core.Path.{◌≡◌, refl, ap, sym, ◌∙◌}
use mathlib.Core.Logic.{◌↔◌, ◌⊎◌, inl, inr}
use mathlib.Core.List.{List, [], ◌∷◌, ◌++◌}
use mathlib.Core.Bool.{Bool, true, false, cond, ◌&&◌, ◌||◌, and-false, true≢false, false≢true}
use Prim.Native.Nat.{ℕ, zero, suc, ◌+◌, ◌*◌, ◌/◌, ◌%◌, ◌^◌, ◌≤◌, ◌<◌}
use native.Mathlib.Nat.{zero-mul, zero-div, mul-mod_left, mul-div_cancel, div-mul_cancel, dvd_of_mod-eq-zero}
use native.Mathlib.Omega.{arith}
use borrow.Author.Tests.{leb-true, le-leb, eqb-true, eqb-false, eq-eqb, ne_eqb}
use lib.Dec.{leb, eqb}
use lib.ListN.{length, drop}
use lib.IntN.{ℤ, pos, negsuc, neg_ℤ, nat_abs, ◌*ℤ◌}
use Rattle.text_bytes.specs.Bytes.{between, is_digit}
use Rattle.text_runs.specs.Runs.{run}
use Rattle.text_numerals.specs.Numbers.{Number, value, beyond, wrong, FLOAT, decimal_from, decimal, signed, not_empty, all_digits, whole_of, number_from, after_digits, unsigned, negative, unsigned_part, fixed_of, in_form, exponent_of, in_range, over, raised, times_power, mantissa, with_exponent, number_of}
use Rattle.text_numerals.specs.Exponents.{has_exponent, minus, Power, Times, Makes}
use Rattle.text_numerals.proofs.Numerals.{and_true, digit-range, chosen, beyond_no, wrong_no, unsigned_yes, unsigned_no}
use Rattle.text_numerals.proofs.Reading.{tail, before_e, at_e, mantissa_ne, mantissa_eq, digit-not_e, byte_not_e, after_yes, after_no}
use Rattle.text_numerals.proofs.Raised.{in_range_lem, power_some, product}

-- ---- a word without an `e` means what it did

or_false : (a b : Bool) → (a || b) ≡ false → (a ≡ false) × (b ≡ false)
or_false false b e = (refl, e)
or_false true b e = absurd (true≢false e)

-- what stands before an `e`, and from it on
split_none : (bs : List ℕ) → has_exponent bs ≡ false → (mantissa bs ≡ bs) × (tail bs ≡ [])
unfolding has_exponent mantissa run tail
split_none [] e = (refl, refl)
split_none (b ∷ bs) e =
    let p = or_false (eqb b 101) (has_exponent bs) e in
    let m = before_e b bs (mantissa_ne b (eqb-false b 101 p.0)) in
    let h = split_none bs p.1 in
    (m.0 ∙ ap (◌∷◌ b) h.0, m.1 ∙ h.1)

split_at : (m x : List ℕ) → has_exponent m ≡ false → (mantissa (m ++ (101 ∷ x)) ≡ m) × (tail (m ++ (101 ∷ x)) ≡ 101 ∷ x)
unfolding has_exponent
split_at [] x e = at_e 101 x (mantissa_eq 101 refl)
split_at (b ∷ m) x e =
    let p = or_false (eqb b 101) (has_exponent m) e in
    let r = before_e b (m ++ (101 ∷ x)) (mantissa_ne b (eqb-false b 101 p.0)) in
    let h = split_at m x p.1 in
    (r.0 ∙ ap (◌∷◌ b) h.0, r.1 ∙ h.1)

pub exponent_free : (word : List ℕ) → has_exponent word ≡ false → number_of FLOAT word ≡ fixed_of FLOAT word
unfolding number_of with_exponent
exponent_free word e =
    let h = split_none word e in
    let t : drop (length (mantissa word)) word ≡ [] = unfold tail in h.1 in
    rw (t, h.0)

-- the number before the first `e` and what follows it
pub exponent_split : (m x : List ℕ) → has_exponent m ≡ false → number_of FLOAT (m ++ (101 ∷ x)) ≡ times_power (fixed_of FLOAT m) (exponent_of x)
unfolding number_of with_exponent
exponent_split m x e =
    let h = split_at m x e in
    let t : drop (length (mantissa (m ++ (101 ∷ x)))) (m ++ (101 ∷ x)) ≡ 101 ∷ x = unfold tail in h.1 in
    rw (t, h.0)

-- ---- a word with an `e` was no number

has_unsigned : (word : List ℕ) → has_exponent word ≡ true → has_exponent (unsigned_part word) ≡ true
unfolding has_exponent negative
has_unsigned [] e = absurd (false≢true e)
has_unsigned (b ∷ bs) e = go (eqb b 45) refl
  where
    go : (v : Bool) → eqb b 45 ≡ v → has_exponent (unsigned_part (b ∷ bs)) ≡ true
    go true k = rw (unsigned_yes (b ∷ bs) k) (rw (ne_eqb b 101 (byte_not_e b 45 k refl)) at e)
    go false k = rw (unsigned_no (b ∷ bs) k) e

has_after : (bs : List ℕ) → has_exponent bs ≡ true → has_exponent (after_digits bs) ≡ true
unfolding has_exponent
has_after [] e = absurd (false≢true e)
has_after (b ∷ bs) e = go (is_digit b) refl (has_after bs)
  where
    go : (v : Bool) → is_digit b ≡ v → (has_exponent bs ≡ true → has_exponent (after_digits bs) ≡ true) → has_exponent (after_digits (b ∷ bs)) ≡ true
    go true k h = rw (after_yes b bs k) (h (rw (ne_eqb b 101 (digit-not_e b k)) at e))
    go false k h = rw (after_no b bs k) e

not-digits : (bs : List ℕ) → has_exponent bs ≡ true → all_digits bs ≡ false
unfolding has_exponent all_digits
not-digits [] e = absurd (false≢true e)
not-digits (b ∷ bs) e = go (is_digit b) refl (not-digits bs)
  where
    go : (v : Bool) → is_digit b ≡ v → (has_exponent bs ≡ true → all_digits bs ≡ false) → (is_digit b && all_digits bs) ≡ false
    go true k h = rw k (h (rw (ne_eqb b 101 (digit-not_e b k)) at e))
    go false k h = rw k

from_wrong : (s : Bool) (ds bs : List ℕ) → has_exponent bs ≡ true → number_from FLOAT s ds bs ≡ wrong
unfolding has_exponent number_from
from_wrong s ds [] e = absurd (false≢true e)
from_wrong s ds (b ∷ bs) e = go (eqb b 46) refl
  where
    go : (v : Bool) → eqb b 46 ≡ v → number_from FLOAT s ds (b ∷ bs) ≡ wrong
    go true k = rw (not-digits bs (rw (ne_eqb b 101 (byte_not_e b 46 k refl)) at e), and-false (eqb b 46 && not_empty bs))
    go false k = rw k

pub exponent_new : (word : List ℕ) → has_exponent word ≡ true → fixed_of FLOAT word ≡ wrong
unfolding fixed_of unsigned
exponent_new word e = go (not_empty (run is_digit (unsigned_part word))) refl
  where
    go : (v : Bool) → not_empty (run is_digit (unsigned_part word)) ≡ v → fixed_of FLOAT word ≡ wrong
    go true k = rw (k, unsigned) (from_wrong (negative word) (run is_digit (unsigned_part word)) (after_digits (unsigned_part word)) (has_after (unsigned_part word) (has_unsigned word e)))
    go false k = rw (k, unsigned)

-- ---- raising and lowering are exact

-- a magnitude with a minus sign
nat_abs-neg : (n : ℕ) → nat_abs (neg_ℤ (pos n)) ≡ n
nat_abs-neg zero = refl
nat_abs-neg (suc n) = refl

over-neg : (n p : ℕ) → 0 / p ≡ 0 → over (neg_ℤ (pos n)) p ≡ neg_ℤ (pos (n / p))
unfolding over
over-neg zero p e = rw e
over-neg (suc n) p e = refl

neg_times : (n p : ℕ) → neg_ℤ (pos n) *ℤ pos p ≡ neg_ℤ (pos (n * p))
neg_times zero p = rw (zero-mul p)
neg_times (suc n) p = refl

-- a multiple is divided, and what is divided is a multiple
over_times : (v : ℤ) (p : ℕ) → 0 < p → (nat_abs (v *ℤ pos p) % p ≡ 0) × (over (v *ℤ pos p) p ≡ v)
unfolding over
over_times (pos n) p h = (mul-mod_left n p, ap pos (mul-div_cancel n h))
over_times (negsuc n) p h = (rw (nat_abs-neg (suc n * p)) (mul-mod_left (suc n) p), over-neg (suc n * p) p (zero-div p) ∙ ap (λ (k : ℕ). neg_ℤ (pos k)) (mul-div_cancel (suc n) h))

times_over : (z : ℤ) (p : ℕ) → nat_abs z % p ≡ 0 → over z p *ℤ pos p ≡ z
unfolding over
times_over (pos n) p e = ap pos (div-mul_cancel p (dvd_of_mod-eq-zero _ e))
times_over (negsuc n) p e = neg_times (suc n / p) p ∙ ap (λ (k : ℕ). neg_ℤ (pos k)) (div-mul_cancel p (dvd_of_mod-eq-zero _ e))

range_back : (v : ℤ) → in_form FLOAT v ≡ true → in_range v ≡ value v
unfolding in_range
range_back v r = rw r

lowered_back : (v : ℤ) (p : ℕ) → 0 < p → in_form FLOAT v ≡ true → cond (eqb (nat_abs (v *ℤ pos p) % p) 0) (in_range (over (v *ℤ pos p) p)) beyond ≡ value v
lowered_back v p h r = let o = over_times v p h in rw (eq-eqb _ _ o.0, o.1, range_back v r)

lowered : (z v : ℤ) (p : ℕ) (t : Bool) → eqb (nat_abs z % p) 0 ≡ t → cond t (in_range (over z p)) beyond ≡ value v → (v *ℤ pos p ≡ z) × (in_form FLOAT v ≡ true)
lowered z v p true k h = let r = in_range_lem (over z p) v h in (rw (← r.1) (times_over z p (eqb-true _ _ k)), r.0)
lowered z v p false k h = absurd (beyond_no v h)

pub raised-exact : (z e v : ℤ) → raised z e ≡ value v ↔ (Times z e v × (in_form FLOAT v ≡ true))
unfolding raised Times
raised-exact z (pos d) v = (λ h. let r = in_range_lem (z *ℤ pos (10 ^ d)) v h in (sym r.1, r.0), λ h. rw (← h.0) (range_back v h.1))
raised-exact z (negsuc d) v = (lowered z v (10 ^ suc d) (eqb (nat_abs z % 10 ^ suc d) 0) refl, λ h. rw (← h.0) (lowered_back v (10 ^ suc d) (power_some (10 ^ suc d) (suc d) refl) h.1))

-- ---- the values and the other words

pub exponent_taken : (m x : List ℕ) (v : ℤ) → has_exponent m ≡ false → number_of FLOAT (m ++ (101 ∷ x)) ≡ value v ↔ Makes m x v
unfolding times_power
exponent_taken m x v n = (there, back)
  where
    there : number_of FLOAT (m ++ (101 ∷ x)) ≡ value v → Makes m x v
    there h =
        let p = product (fixed_of FLOAT m) (exponent_of x) v (sym (exponent_split m x n) ∙ h) in
        let r = (raised-exact p.number p.power v).0 p.made in
        record { number = p.number; power = p.power; before = p.before; after = p.after; exact = r.0; range = r.1 }

    back : Makes m x v → number_of FLOAT (m ++ (101 ∷ x)) ≡ value v
    back k = exponent_split m x n ∙ rw (k.before, k.after) ((raised-exact k.number k.power v).1 (k.exact, k.range))

beyond-not-wrong : beyond ≡ wrong → ⊥
beyond-not-wrong e = let w : ◌≡◌ {A = ℕ} 0 1 = cc in omega arith

value-not-wrong : (z : ℤ) → value z ≡ wrong → ⊥
value-not-wrong z e = wrong_no z (sym e)

range_right : (z : ℤ) → in_range z ≡ wrong → ⊥
unfolding in_range
range_right z e = go (in_form FLOAT z) e
  where
    go : (t : Bool) → cond t (value z) beyond ≡ wrong → ⊥
    go true e = value-not-wrong z e
    go false e = beyond-not-wrong e

raised_right : (z k : ℤ) → raised z k ≡ wrong → ⊥
unfolding raised
raised_right z (pos d) e = range_right _ e
raised_right z (negsuc d) e = go (eqb (nat_abs z % 10 ^ suc d) 0) e
  where
    go : (t : Bool) → cond t (in_range (over z (10 ^ suc d))) beyond ≡ wrong → ⊥
    go true e = range_right _ e
    go false e = beyond-not-wrong e

either_wrong : (n e : Number) → times_power n e ≡ wrong ↔ ((n ≡ wrong) ⊎ (e ≡ wrong))
unfolding times_power
either_wrong n e = (there n e, back n e)
  where
    there : (n e : Number) → times_power n e ≡ wrong → (n ≡ wrong) ⊎ (e ≡ wrong)
    there (value z) (value k) h = absurd (raised_right z k h)
    there (value z) beyond h = absurd (beyond-not-wrong h)
    there (value z) wrong h = inr refl
    there beyond (value k) h = absurd (beyond-not-wrong h)
    there beyond beyond h = absurd (beyond-not-wrong h)
    there beyond wrong h = inr refl
    there wrong e h = inl refl

    right : (n : Number) → times_power n wrong ≡ wrong
    right (value z) = refl
    right beyond = refl
    right wrong = refl

    back : (n e : Number) → (n ≡ wrong) ⊎ (e ≡ wrong) → times_power n e ≡ wrong
    back n e (inl h) = rw h
    back n e (inr h) = rw h (right n)

pub exponent_wrong : (m x : List ℕ) → has_exponent m ≡ false → number_of FLOAT (m ++ (101 ∷ x)) ≡ wrong ↔ ((fixed_of FLOAT m ≡ wrong) ⊎ (exponent_of x ≡ wrong))
exponent_wrong m x n = rw (exponent_split m x n) (either_wrong (fixed_of FLOAT m) (exponent_of x))

-- ---- an exponent is an optional minus sign and one digit, 0 to 6

-- a word is its sign and what follows
sign-first : (word : List ℕ) → word ≡ minus (negative word) ++ unsigned_part word
unfolding negative minus
sign-first [] = unfold unsigned_part in refl
sign-first (b ∷ bs) = go (eqb b 45) refl
  where
    go : (v : Bool) → eqb b 45 ≡ v → b ∷ bs ≡ minus (eqb b 45) ++ unsigned_part (b ∷ bs)
    go true k = rw (unsigned_yes (b ∷ bs) k, k, eqb-true b 45 k)
    go false k = rw (unsigned_no (b ∷ bs) k, k)

one-digit : (ds : List ℕ) → not_empty ds ≡ true → all_digits ds ≡ true → length ds ≤ 1 → ds ≡ (48 + decimal ds) ∷ []
unfolding not_empty all_digits decimal decimal_from
one-digit [] n a h = absurd (false≢true n)
one-digit (b ∷ []) n a h = let r = digit-range b (and_true (is_digit b) true a).0 in ap (λ (c : ℕ). c ∷ []) (omega arith)
one-digit (b ∷ c ∷ ds) n a h = absurd (omega arith)

whole_chosen : (s : Bool) (ds : List ℕ) (e : ℤ) → whole_of 1 6 s ds ≡ value e → (length ds ≤ 1) × (decimal ds ≤ 6) × (signed s (decimal ds) ≡ e)
unfolding whole_of
whole_chosen s ds e h =
    let p = chosen (leb (length ds) 1 && leb (decimal ds) 6) (signed s (decimal ds)) e beyond (beyond_no e) h in
    let t = and_true (leb (length ds) 1) (leb (decimal ds) 6) p.0 in
    (leb-true _ _ t.0, leb-true _ _ t.1, p.1)

power_there : (x : List ℕ) (e : ℤ) → exponent_of x ≡ value e → Power x e
unfolding exponent_of
power_there x e h = go (not_empty (unsigned_part x) && all_digits (unsigned_part x)) refl h
  where
    go : (t : Bool) → (not_empty (unsigned_part x) && all_digits (unsigned_part x)) ≡ t → cond t (whole_of 1 6 (negative x) (unsigned_part x)) wrong ≡ value e → Power x e
    go true k h =
        let p = and_true (not_empty (unsigned_part x)) (all_digits (unsigned_part x)) k in
        let w = whole_chosen (negative x) (unsigned_part x) e h in
        record { sign = negative x; digit = decimal (unsigned_part x); most = omega (arith, w.1); written = sign-first x ∙ ap (◌++◌ (minus (negative x))) (one-digit (unsigned_part x) p.0 p.1 w.0); is = sym w.2 }
    go false k h = absurd (wrong_no e h)

digit_value : (d : ℕ) → d ≤ 6 → is_digit (48 + d) ≡ true
unfolding is_digit between
digit_value d h = rw (le-leb 48 (48 + d) (omega arith), le-leb (48 + d) 57 (omega arith))

power-written : (s : Bool) (d : ℕ) → d ≤ 6 → (negative (minus s ++ ((48 + d) ∷ [])) ≡ s) × (unsigned_part (minus s ++ ((48 + d) ∷ [])) ≡ (48 + d) ∷ [])
unfolding minus negative
power-written true d h = (refl, unsigned_yes (45 ∷ (48 + d) ∷ []) refl)
power-written false d h = let n = ne_eqb (48 + d) 45 (λ q. omega arith) in (n, unsigned_no ((48 + d) ∷ []) n)

decimal-one : (d : ℕ) → decimal ((48 + d) ∷ []) ≡ d
unfolding decimal decimal_from
decimal-one d = omega arith

power_back : (x : List ℕ) (e : ℤ) → Power x e → exponent_of x ≡ value e
unfolding exponent_of whole_of not_empty all_digits
power_back x e p =
    let w = power-written p.sign p.digit p.most in
    rw (p.written, w.0, w.1, digit_value p.digit p.most, decimal-one p.digit, le-leb p.digit 6 p.most, p.is)

pub exponent_power : (x : List ℕ) (e : ℤ) → exponent_of x ≡ value e ↔ Power x e
exponent_power x e = (power_there x e, power_back x e)
