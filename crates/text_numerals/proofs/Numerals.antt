-- Laws of digits, their values and the words that they make: by induction on the digits, and a word by what stands after them.
use mathlib.Core.Path.{◌≡◌, refl, sym, ◌∙◌}
use mathlib.Core.List.{List, [], ◌∷◌, ◌++◌}
use mathlib.Core.Bool.{Bool, true, false, cond, ◌&&◌, and-false, false≢true}
use Prim.Native.Nat.{ℕ, zero, suc, ◌+◌, ◌-◌, ◌*◌, ◌^◌, ◌≤◌, ◌<◌}
use native.Mathlib.Nat.{add-sub_cancel_left, one-mul, mul_assoc, pow-zero, pow-succ', mul-le-mul_right, mul-lt-mul_of_pos_right, pow-le-pow_right, lt_of_lt_of_le}
use native.Mathlib.Omega.{arith}
use borrow.Author.Tests.{leb-true, leb-false, le-leb, lt-leb}
use lib.Pow.{pow-add}
use lib.Dec.{leb, eqb}
use lib.ListN.{length, take, drop, get_or, length-drop, drop_of_length-le}
use lib.Seq.{drop-cons, drop-drop, take_all}
use lib.IntN.{ℤ}
use Rattle.text_bytes.specs.Bytes.{between, is_digit}
use Rattle.text_runs.specs.Runs.{run, part}
use Rattle.text_runs.proofs.Runs.{run_yes, run_no, run_take, run_length, run-within}
use Rattle.text_numerals.specs.Numbers.{Number, value, beyond, wrong, Form, INT, FLOAT, decimal_from, decimal, all_digits, not_empty, signed, int_most, whole_of, int_of, millionths, float_of, number_from, after_digits, unsigned, negative, unsigned_part, fixed_of, number_of, in_form}
use Rattle.text_numerals.specs.Internal.Parts.{whole_in}

pub negative_none : (word : List ℕ) → length word ≡ 0 → negative word ≡ false
unfolding negative
negative_none [] e = refl
negative_none (b ∷ bs) e = absurd (omega arith)

pub negative_some : (word : List ℕ) → negative word ≡ true → 0 < length word
unfolding negative
negative_some [] e = absurd (false≢true e)
negative_some (b ∷ bs) e = omega arith

pub negative-first : (word : List ℕ) → 0 < length word → negative word ≡ eqb (get_or word 0 0) 45
unfolding negative
negative-first [] h = absurd (omega arith)
negative-first (b ∷ bs) h = refl

-- ---- digits

pub and_true : (a b : Bool) → (a && b) ≡ true → (a ≡ true) × (b ≡ true)
and_true true b e = (refl, e)
and_true false b e = absurd (false≢true e)

pub between_true : (low high b : ℕ) → between low high b ≡ true → (low ≤ b) × (b ≤ high)
unfolding between
between_true low high b e = let p = and_true (leb low b) (leb b high) e in (leb-true _ _ p.0, leb-true _ _ p.1)

pub digit-range : (b : ℕ) → is_digit b ≡ true → (48 ≤ b) × (b ≤ 57)
unfolding is_digit
digit-range b e = between_true 48 57 b e

pub digits-at : (bs : List ℕ) (i : ℕ) → all_digits bs ≡ true → i < length bs → is_digit (get_or bs i 0) ≡ true
unfolding all_digits
digits-at [] i e h = absurd (omega arith)
digits-at (b ∷ bs) zero e h = (and_true (is_digit b) (all_digits bs) e).0
digits-at (b ∷ bs) (suc i) e h = digits-at bs i (and_true (is_digit b) (all_digits bs) e).1 (omega arith)

pub digits-take : (k : ℕ) (bs : List ℕ) → all_digits bs ≡ true → all_digits (take k bs) ≡ true
unfolding all_digits
digits-take zero bs e = refl
digits-take (suc k) [] e = refl
digits-take (suc k) (b ∷ bs) e = let p = and_true (is_digit b) (all_digits bs) e in rw (p.0, digits-take k bs p.1)

pub digits-run : (bs : List ℕ) → all_digits (run is_digit bs) ≡ true
unfolding all_digits run
digits-run [] = refl
digits-run (b ∷ bs) = go (is_digit b) refl (digits-run bs)
  where
    go : (v : Bool) → is_digit b ≡ v → all_digits (run is_digit bs) ≡ true → all_digits (run is_digit (b ∷ bs)) ≡ true
    go true e h = rw (run_yes is_digit b bs e, e, h)
    go false e h = rw (run_no is_digit b bs e)

-- where the run stops before the end, not all are digits
pub digits-short : (bs : List ℕ) → length (run is_digit bs) < length bs → all_digits bs ≡ false
unfolding all_digits run
digits-short [] h = absurd (omega arith)
digits-short (b ∷ bs) h = go (is_digit b) refl (digits-short bs)
  where
    go : (v : Bool) → is_digit b ≡ v → (length (run is_digit bs) < length bs → all_digits bs ≡ false) → all_digits (b ∷ bs) ≡ false
    go true e f = rw (e, f (let h' = rw (run_yes is_digit b bs e) at h in omega arith))
    go false e f = rw e

-- ---- the value of digits

decimal_from_snoc : (n : ℕ) (bs : List ℕ) (b : ℕ) → decimal_from n (bs ++ (b ∷ [])) ≡ decimal_from n bs * 10 + (b - 48)
unfolding decimal_from
decimal_from_snoc n [] b = refl
decimal_from_snoc n (d ∷ bs) b = decimal_from_snoc (n * 10 + (d - 48)) bs b

pub decimal_snoc : (bs : List ℕ) (b : ℕ) → decimal (bs ++ (b ∷ [])) ≡ decimal bs * 10 + (b - 48)
unfolding decimal
decimal_snoc bs b = decimal_from_snoc 0 bs b

decimal_from_bound : (n : ℕ) (bs : List ℕ) → all_digits bs ≡ true → decimal_from n bs < suc n * 10 ^ length bs
unfolding decimal_from all_digits
decimal_from_bound n [] e = rw (pow-zero 10) (omega arith)
decimal_from_bound n (b ∷ bs) e =
    let p = and_true (is_digit b) (all_digits bs) e in
    let d = digit-range b p.0 in
    let h = decimal_from_bound (n * 10 + (b - 48)) bs p.1 in
    let k : suc (n * 10 + (b - 48)) ≤ suc n * 10 = omega arith in
    lt_of_lt_of_le h (rw (pow-succ' 10 (length bs), ← mul_assoc (suc n) 10 (10 ^ length bs)) (mul-le-mul_right (10 ^ length bs) k))

pub decimal_bound : (bs : List ℕ) → all_digits bs ≡ true → decimal bs < 10 ^ length bs
unfolding decimal
decimal_bound bs e = rw (one-mul (10 ^ length bs)) at (decimal_from_bound 0 bs e)

-- at most k digits are below 10 ^ k
pub decimal-below : (bs : List ℕ) (k : ℕ) → all_digits bs ≡ true → length bs ≤ k → decimal bs < 10 ^ k
decimal-below bs k e h = lt_of_lt_of_le (decimal_bound bs e) (pow-le-pow_right (omega arith) h)

-- ---- words, by their sign and the digits from `start` to `end`

pub unsigned_yes : (word : List ℕ) → negative word ≡ true → unsigned_part word ≡ drop 1 word
unfolding unsigned_part
unsigned_yes word e = rw (e, unsigned_part)

pub unsigned_no : (word : List ℕ) → negative word ≡ false → unsigned_part word ≡ word
unfolding unsigned_part
unsigned_no word e = rw (e, unsigned_part)

pub not_empty_some : (bs : List ℕ) → 0 < length bs → not_empty bs ≡ true
unfolding not_empty
not_empty_some [] h = absurd (omega arith)
not_empty_some (b ∷ bs) h = refl

pub not_empty_none : (bs : List ℕ) → length bs ≡ 0 → not_empty bs ≡ false
unfolding not_empty
not_empty_none [] h = refl
not_empty_none (b ∷ bs) h = absurd (omega arith)

-- where the run reaches the end, it is all
pub run-all : (bs : List ℕ) → length bs ≤ length (run is_digit bs) → run is_digit bs ≡ bs
run-all bs h = sym (run_take is_digit bs) ∙ take_all _ bs h

-- INT, by the digits that bytes begin with or by all of the bytes
int_unsigned : (s : Bool) (bs : List ℕ) → unsigned INT s bs ≡ cond (not_empty bs && all_digits bs) (int_of s bs) wrong
unfolding unsigned number_from after_digits not_empty run
int_unsigned s [] = refl
int_unsigned s (b ∷ bs) = go (leb (length (b ∷ bs)) (length (run is_digit (b ∷ bs)))) refl
  where
    short : (v : Bool) → not_empty (run is_digit (b ∷ bs)) ≡ v → length (run is_digit (b ∷ bs)) < length (b ∷ bs) → unsigned INT s (b ∷ bs) ≡ wrong
    short true n h = rw (n, unsigned, drop-cons (b ∷ bs) (length (run is_digit (b ∷ bs))) 0 h)
    short false n h = rw (n, unsigned)

    go : (v : Bool) → leb (length (b ∷ bs)) (length (run is_digit (b ∷ bs))) ≡ v → unsigned INT s (b ∷ bs) ≡ cond (all_digits (b ∷ bs)) (int_of s (b ∷ bs)) wrong
    go true e =
        let same = run-all (b ∷ bs) (leb-true _ _ e) in
        let some : not_empty (run is_digit (b ∷ bs)) ≡ true = rw same in
        let none : drop (length (b ∷ bs)) (b ∷ bs) ≡ [] = drop_of_length-le (b ∷ bs) {i = length (b ∷ bs)} (omega arith) in
        rw (rw same at (digits-run (b ∷ bs))) (rw (some, unsigned, same, none))
    go false e =
        let h = leb-false _ _ e in
        rw (digits-short (b ∷ bs) h) (short (not_empty (run is_digit (b ∷ bs))) refl h)

most_chosen : (s : Bool) → cond s 2147483648 2147483647 ≡ int_most s
unfolding int_most
most_chosen true = refl
most_chosen false = refl

pub int_whole : (word : List ℕ) → number_of INT word ≡ whole_in 10 2147483647 2147483648 word
unfolding number_of fixed_of whole_in int_of
int_whole word = int_unsigned (negative word) (unsigned_part word) ∙ rw (most_chosen (negative word))

module _ (word : List ℕ) (start end : ℕ) (d : drop start word ≡ unsigned_part word) (e : end ≡ start + length (run is_digit (drop start word))) where
  -- the digits, and what stands after them
  pub lead_digits : part word start end ≡ run is_digit (unsigned_part word)
  unfolding part
  lead_digits = rw (e, add-sub_cancel_left, ← d) (run_take is_digit (drop start word))

  pub lead_after : after_digits (unsigned_part word) ≡ drop end word
  unfolding after_digits
  lead_after = rw (← d, drop-drop (length (run is_digit (drop start word))) start word, e)

  pub lead_order : start ≤ end
  lead_order = omega arith

  pub lead_within : start ≤ length word → end ≤ length word
  lead_within h = rw e (run-within is_digit word start h)

  pub lead_all : all_digits (part word start end) ≡ true
  lead_all = rw lead_digits (digits-run (unsigned_part word))

  -- digits alone
  module _ (digits most least : ℕ) where
    pub whole_more : end < length word → whole_in digits most least word ≡ wrong
    unfolding whole_in
    whole_more h = rw (digits-short (unsigned_part word) (rw (← d, length-drop) (omega arith)), and-false (not_empty (unsigned_part word)))

    pub whole_none : end ≡ start → whole_in digits most least word ≡ wrong
    unfolding whole_in
    whole_none n = go (leb (length word) end) refl
      where
        go : (v : Bool) → leb (length word) end ≡ v → whole_in digits most least word ≡ wrong
        go true k = rw (not_empty_none (unsigned_part word) (rw (← d, length-drop) (omega (arith, leb-true))))
        go false k = whole_more (omega (arith, leb-false))

    pub whole-all : start < end → length word ≤ end → whole_in digits most least word ≡ whole_of digits (cond (negative word) least most) (negative word) (part word start end)
    unfolding whole_in
    whole-all n h =
        let same : run is_digit (unsigned_part word) ≡ unsigned_part word = run-all (unsigned_part word) (rw (← d, length-drop) (omega arith)) in
        rw (lead_digits, same, not_empty_some (unsigned_part word) (rw (← d) (omega (arith, run_length is_digit (drop start word)))), rw same at (digits-run (unsigned_part word)))

  pub lead_int : start < end → length word ≤ end → number_of INT word ≡ int_of (negative word) (part word start end)
  unfolding int_of
  lead_int n h = int_whole word ∙ whole-all 10 2147483647 2147483648 n h ∙ rw (most_chosen (negative word))

-- ---- INT and FLOAT of digits

pub float_whole_long : (s : Bool) (ds fs : List ℕ) → 7 < length ds → float_of s ds fs ≡ beyond
unfolding float_of
float_whole_long s ds fs h = rw (lt-leb (length ds) 7 h)

pub float_fraction_long : (s : Bool) (ds fs : List ℕ) → length ds ≤ 7 → 6 < length fs → float_of s ds fs ≡ beyond
unfolding float_of
float_fraction_long s ds fs h k = rw (le-leb (length ds) 7 h, lt-leb (length fs) 6 k)

pub float_value : (s : Bool) (ds fs : List ℕ) → length ds ≤ 7 → length fs ≤ 6 → float_of s ds fs ≡ value (signed s (millionths ds fs))
unfolding float_of
float_value s ds fs h k = rw (le-leb (length ds) 7 h, le-leb (length fs) 6 k)

pub fraction_below : (fs : List ℕ) → all_digits fs ≡ true → length fs ≤ 6 → decimal fs * 10 ^ (6 - length fs) < 10 ^ 6
fraction_below fs e h =
    let scaled = mul-lt-mul_of_pos_right (decimal_bound fs e) (pow-le-pow_right {n = 10} (omega arith) {i = 0} {j = 6 - length fs} (omega arith)) in
    let six : length fs + (6 - length fs) ≡ 6 = omega arith in
    lt_of_lt_of_le scaled (rw (← pow-add 10 (length fs) (6 - length fs), six) (omega arith))

-- from the two values and what a digit after the point is worth
pub millionths-made : (ds fs : List ℕ) (u p : ℕ) {w k : ℕ} → u ≡ decimal ds → p ≡ decimal fs → w ≡ 10 ^ (6 - k) → length fs ≡ k → u * 1000000 + p * w ≡ millionths ds fs
unfolding millionths
millionths-made ds fs u p e f g h = rw (e, f, g, ← h)

pub millionths-below : (ds fs : List ℕ) → all_digits ds ≡ true → all_digits fs ≡ true → length ds ≤ 7 → length fs ≤ 6 → millionths ds fs < 10 ^ 13
unfolding millionths
millionths-below ds fs d f h k = let w = decimal-below ds 7 d h in let r = fraction_below fs f k in omega arith

pub whole_long : (digits most : ℕ) (s : Bool) (ds : List ℕ) → digits < length ds → whole_of digits most s ds ≡ beyond
unfolding whole_of
whole_long digits most s ds h = rw (lt-leb (length ds) digits h)

pub whole_large : (digits most : ℕ) (s : Bool) (ds : List ℕ) → length ds ≤ digits → most < decimal ds → whole_of digits most s ds ≡ beyond
unfolding whole_of
whole_large digits most s ds h k = rw (le-leb (length ds) digits h, lt-leb (decimal ds) most k)

pub whole-value : (digits most : ℕ) (s : Bool) (ds : List ℕ) → length ds ≤ digits → decimal ds ≤ most → whole_of digits most s ds ≡ value (signed s (decimal ds))
unfolding whole_of
whole-value digits most s ds h k = rw (le-leb (length ds) digits h, le-leb (decimal ds) most k)

pub int_value : (s : Bool) (ds : List ℕ) → length ds ≤ 10 → decimal ds ≤ int_most s → int_of s ds ≡ value (signed s (decimal ds))
unfolding int_of
int_value s ds h k = whole-value 10 (int_most s) s ds h k

-- ---- the values that a form can give

signed_int : (s : Bool) (n : ℕ) → n ≤ int_most s → in_form INT (signed s n) ≡ true
unfolding int_most in_form signed
signed_int false n h = le-leb n 2147483647 h
signed_int true zero h = refl
signed_int true (suc n) h = le-leb n 2147483647 (omega arith)

pub signed_float : (s : Bool) (n : ℕ) → n < 10 ^ 13 → in_form FLOAT (signed s n) ≡ true
unfolding in_form signed
signed_float false n h = le-leb n 9999999999999 (omega arith)
signed_float true zero h = refl
signed_float true (suc n) h = le-leb n 9999999999998 (omega arith)

-- what a choice between a value and a refusal says where it is a value
pub chosen : (t : Bool) (a z : ℤ) (other : Number) → (other ≡ value z → ⊥) → cond t (value a) other ≡ value z → (t ≡ true) × (a ≡ z)
chosen true a z other n e = (refl, cc)
chosen false a z other n e = absurd (n e)

pub beyond_no : (z : ℤ) → beyond ≡ value z → ⊥
beyond_no z e = let w : ◌≡◌ {A = ℕ} 0 1 = cc in omega arith

pub wrong_no : (z : ℤ) → wrong ≡ value z → ⊥
wrong_no z e = let w : ◌≡◌ {A = ℕ} 0 1 = cc in omega arith

int_range : (s : Bool) (ds : List ℕ) (z : ℤ) → int_of s ds ≡ value z → in_form INT z ≡ true
unfolding int_of whole_of
int_range s ds z e =
    let p = chosen (leb (length ds) 10 && leb (decimal ds) (int_most s)) (signed s (decimal ds)) z beyond (beyond_no z) e in
    let t = and_true (leb (length ds) 10) (leb (decimal ds) (int_most s)) p.0 in
    rw (← p.1) (signed_int s (decimal ds) (leb-true _ _ t.1))

float_range : (s : Bool) (ds fs : List ℕ) (z : ℤ) → all_digits ds ≡ true → all_digits fs ≡ true → float_of s ds fs ≡ value z → in_form FLOAT z ≡ true
unfolding float_of
float_range s ds fs z d f e =
    let p = chosen _ _ z beyond (beyond_no z) e in
    let t = and_true (leb (length ds) 7) (leb (length fs) 6) p.0 in
    rw (← p.1) (signed_float s (millionths ds fs) (millionths-below ds fs d f (leb-true _ _ t.0) (leb-true _ _ t.1)))

from-range : (f : Form) (s : Bool) (ds rest : List ℕ) (z : ℤ) → all_digits ds ≡ true → number_from f s ds rest ≡ value z → in_form f z ≡ true
unfolding number_from
from-range INT s ds [] z d e = int_range s ds z e
from-range INT s ds (b ∷ rest) z d e = absurd (wrong_no z e)
from-range FLOAT s ds [] z d e = float_range s ds [] z d (unfold all_digits in refl) e
from-range FLOAT s ds (b ∷ rest) z d e = go (eqb b 46 && not_empty rest && all_digits rest) refl e
  where
    go : (t : Bool) → (eqb b 46 && not_empty rest && all_digits rest) ≡ t → cond t (float_of s ds rest) wrong ≡ value z → in_form FLOAT z ≡ true
    go true c e = float_range s ds rest z d (and_true (eqb b 46 && not_empty rest) (all_digits rest) c).1 e
    go false c e = absurd (wrong_no z e)

-- the value of a word without an exponent lies in its form's range
pub fixed_range : (f : Form) (word : List ℕ) (z : ℤ) → fixed_of f word ≡ value z → in_form f z ≡ true
unfolding fixed_of unsigned
fixed_range f word z e = go (not_empty (run is_digit (unsigned_part word))) refl
  where
    go : (t : Bool) → not_empty (run is_digit (unsigned_part word)) ≡ t → in_form f z ≡ true
    go true c = from-range f (negative word) _ _ z (digits-run (unsigned_part word)) (rw (c, unsigned) at e)
    go false c = absurd (wrong_no z (rw (c, unsigned) at e))
