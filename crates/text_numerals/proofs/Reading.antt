-- A FLOAT read from left to right is the definition: its digits and its fraction stand before the first `e`, by induction on the bytes up to there.
use mathlib.Core.Path.{◌≡◌, refl, ap, sym, ◌∙◌}
use mathlib.Core.List.{List, [], ◌∷◌, cons-ne-nil}
use mathlib.Core.Bool.{Bool, true, false, cond, ◌&&◌, and-false}
use Prim.Native.Nat.{ℕ, suc, ◌+◌, ◌-◌, ◌<◌, ◌≤◌}
use native.Mathlib.Numerals.{add-one}
use native.Mathlib.Omega.{arith}
use borrow.Author.Tests.{leb-true, leb-false, eqb-true, eqb-false, eq-eqb, ne_eqb}
use lib.Dec.{leb, eqb}
use lib.ListN.{length, take, drop, get_or, length-drop, drop_of_length-le}
use lib.Seq.{drop-cons, take_all}
use Rattle.text_bytes.specs.Bytes.{is_digit}
use Rattle.text_runs.specs.Runs.{run, part}
use Rattle.text_runs.proofs.Runs.{run_yes, run_no}
use Rattle.text_numerals.specs.Numbers.{Number, wrong, FLOAT, not_empty, all_digits, float_of, number_from, after_digits, unsigned, negative, unsigned_part, fixed_of, exponent_of, times_power, in_mantissa, mantissa, with_exponent, number_of}
use Rattle.text_numerals.specs.Internal.Parts.{fraction_of, after_fraction, ends_in}
use Rattle.text_numerals.proofs.Numerals.{unsigned_yes, unsigned_no, digit-range, digits-run, digits-short, not_empty_some, not_empty_none, run-all, lead_digits, lead_after}

-- what stands from the first `e` on
unfoldable pub tail : List ℕ → List ℕ
tail bs = drop (length (mantissa bs)) bs

pub before_e : (b : ℕ) (bs : List ℕ) → in_mantissa b ≡ true → (mantissa (b ∷ bs) ≡ b ∷ mantissa bs) × (tail (b ∷ bs) ≡ tail bs)
unfolding mantissa tail
before_e b bs e = let r = run_yes in_mantissa b bs e in (r, rw r)

pub at_e : (b : ℕ) (bs : List ℕ) → in_mantissa b ≡ false → (mantissa (b ∷ bs) ≡ []) × (tail (b ∷ bs) ≡ b ∷ bs)
unfolding mantissa tail
at_e b bs e = let r = run_no in_mantissa b bs e in (r, rw r)

nothing : (mantissa [] ≡ []) × (tail [] ≡ [])
unfolding mantissa run tail
nothing = (refl, refl)

pub mantissa_ne : (b : ℕ) → (b ≡ 101 → ⊥) → in_mantissa b ≡ true
unfolding in_mantissa
mantissa_ne b h = rw (ne_eqb b 101 h)

pub mantissa_eq : (b : ℕ) → b ≡ 101 → in_mantissa b ≡ false
unfolding in_mantissa
mantissa_eq b h = rw (eq-eqb b 101 h)

-- bytes that are no `e`: a digit, and one that is another byte
pub digit-not_e : (b : ℕ) → is_digit b ≡ true → b ≡ 101 → ⊥
digit-not_e b e q = let r = digit-range b e in omega arith

pub byte_not_e : (b c : ℕ) → eqb b c ≡ true → eqb c 101 ≡ false → b ≡ 101 → ⊥
byte_not_e b c e f q = eqb-false c 101 f (sym (eqb-true b c e) ∙ q)

-- ---- the digits that bytes begin with stand before the first `e`

pub after_yes : (b : ℕ) (bs : List ℕ) → is_digit b ≡ true → after_digits (b ∷ bs) ≡ after_digits bs
unfolding after_digits
after_yes b bs e = rw (run_yes is_digit b bs e)

pub after_no : (b : ℕ) (bs : List ℕ) → is_digit b ≡ false → after_digits (b ∷ bs) ≡ b ∷ bs
unfolding after_digits
after_no b bs e = rw (run_no is_digit b bs e)

record Digits (bs : List ℕ) : Type 0 where
  same : run is_digit (mantissa bs) ≡ run is_digit bs
  after : after_digits (mantissa bs) ≡ mantissa (after_digits bs)
  left : tail bs ≡ tail (after_digits bs)

digits-before : (bs : List ℕ) → Digits bs
unfolding mantissa run after_digits tail
digits-before [] = record { same = refl; after = refl; left = refl }
digits-before (b ∷ bs) = go (is_digit b) refl (in_mantissa b) refl (digits-before bs)
  where
    go : (v : Bool) → is_digit b ≡ v → (w : Bool) → in_mantissa b ≡ w → Digits bs → Digits (b ∷ bs)
    go true e w _ h =
        let m = before_e b bs (mantissa_ne b (digit-not_e b e)) in
        record {
          same = rw (m.0, run_yes is_digit b (mantissa bs) e, run_yes is_digit b bs e, h.same);
          after = rw (m.0, after_yes b (mantissa bs) e, after_yes b bs e) h.after;
          left = rw (after_yes b bs e) (m.1 ∙ h.left);
        }
    go false e true k h =
        let m = before_e b bs k in
        record {
          same = rw (m.0, run_no is_digit b (mantissa bs) e, run_no is_digit b bs e);
          after = rw (m.0, after_no b (mantissa bs) e, after_no b bs e) (sym m.0);
          left = rw (after_no b bs e);
        }
    go false e false k h =
        let m = at_e b bs k in
        record {
          same = rw (m.0, run_no is_digit b bs e);
          after = rw (m.0, after_no b bs e) (sym m.0);
          left = rw (after_no b bs e);
        }

-- ---- and so does the minus sign

record Sign (word : List ℕ) : Type 0 where
  same : negative (mantissa word) ≡ negative word
  after : unsigned_part (mantissa word) ≡ mantissa (unsigned_part word)
  left : tail word ≡ tail (unsigned_part word)

sign-before : (word : List ℕ) → Sign word
unfolding mantissa run negative unsigned_part tail
sign-before [] = record { same = refl; after = refl; left = refl }
sign-before (b ∷ bs) = go (eqb b 45) refl (in_mantissa b) refl
  where
    go : (v : Bool) → eqb b 45 ≡ v → (w : Bool) → in_mantissa b ≡ w → Sign (b ∷ bs)
    go true e w _ =
        let m = before_e b bs (mantissa_ne b (byte_not_e b 45 e refl)) in
        let p = unsigned_yes (b ∷ bs) e in
        record { same = rw m.0; after = ap unsigned_part m.0 ∙ unsigned_yes (b ∷ mantissa bs) e ∙ ap mantissa (sym p); left = m.1 ∙ ap tail (sym p) }
    go false e true k =
        let m = before_e b bs k in
        let p = unsigned_no (b ∷ bs) e in
        record { same = rw m.0; after = ap unsigned_part m.0 ∙ unsigned_no (b ∷ mantissa bs) e ∙ sym m.0 ∙ ap mantissa (sym p); left = ap tail (sym p) }
    go false e false k =
        let m = at_e b bs k in
        let p = unsigned_no (b ∷ bs) e in
        record { same = rw (m.0, e); after = ap unsigned_part m.0 ∙ sym m.0 ∙ ap mantissa (sym p); left = ap tail (sym p) }

-- ---- what stands after the digits

with_wrong : (bs : List ℕ) → with_exponent wrong bs ≡ wrong
unfolding with_exponent times_power
with_wrong [] = refl
with_wrong (b ∷ bs) = refl

-- where nothing stands before an `e`, what is left is nothing or an exponent; else it is neither
module _ (n : Number) where
  plain-ends : (bs : List ℕ) → mantissa bs ≡ [] → with_exponent n (tail bs) ≡ ends_in n bs
  unfolding with_exponent ends_in mantissa run tail
  plain-ends [] e = refl
  plain-ends (b ∷ bs) e = go (eqb b 101) refl
    where
      go : (v : Bool) → eqb b 101 ≡ v → with_exponent n (tail (b ∷ bs)) ≡ ends_in n (b ∷ bs)
      go true k = rw ((at_e b bs (mantissa_eq b (eqb-true b 101 k))).1, k)
      go false k = absurd (cons-ne-nil b (mantissa bs) (sym (before_e b bs (mantissa_ne b (eqb-false b 101 k))).0 ∙ e))

  other-ends : (bs : List ℕ) → 0 < length (mantissa bs) → ends_in n bs ≡ wrong
  unfolding ends_in mantissa run
  other-ends [] h = absurd (omega arith)
  other-ends (b ∷ bs) h = go (eqb b 101) refl
    where
      go : (v : Bool) → eqb b 101 ≡ v → ends_in n (b ∷ bs) ≡ wrong
      go true k = absurd (let z : length (mantissa (b ∷ bs)) ≡ 0 = rw (at_e b bs (mantissa_eq b (eqb-true b 101 k))).0 in omega arith)
      go false k = rw k

-- ---- fractions

pub fraction_point : (b : ℕ) (bs : List ℕ) → eqb b 46 ≡ true → fraction_of (b ∷ bs) ≡ run is_digit bs
unfolding fraction_of
fraction_point b bs e = rw (e, fraction_of)

pub fraction_none : (b : ℕ) (bs : List ℕ) → eqb b 46 ≡ false → fraction_of (b ∷ bs) ≡ []
unfolding fraction_of
fraction_none b bs e = rw (e, fraction_of)

pub fraction_all : (bs : List ℕ) → all_digits (fraction_of bs) ≡ true
unfolding fraction_of all_digits
fraction_all [] = refl
fraction_all (b ∷ bs) = go (eqb b 46) refl
  where
    go : (v : Bool) → eqb b 46 ≡ v → all_digits (fraction_of (b ∷ bs)) ≡ true
    go true e = rw (fraction_point b bs e) (digits-run bs)
    go false e = rw (fraction_none b bs e)

pub after_some : (bs : List ℕ) → not_empty (fraction_of bs) ≡ true → after_fraction bs ≡ drop (suc (length (fraction_of bs))) bs
unfolding after_fraction
after_some bs h = rw (h, after_fraction)

pub after_none : (bs : List ℕ) → not_empty (fraction_of bs) ≡ false → after_fraction bs ≡ bs
unfolding after_fraction
after_none bs h = rw (h, after_fraction)

-- the digits of a fraction are all that stands before the `e`, or something else does
module _ (s : Bool) (ds : List ℕ) where
  -- after a point
  point_ends : (bs : List ℕ) → with_exponent (cond (not_empty (mantissa bs) && all_digits (mantissa bs)) (float_of s ds (mantissa bs)) wrong) (tail bs) ≡ cond (not_empty (run is_digit bs)) (ends_in (float_of s ds (run is_digit bs)) (after_digits bs)) wrong
  unfolding after_digits
  point_ends bs = go (leb (length (mantissa bs)) (length (run is_digit bs))) refl (not_empty (run is_digit bs)) refl
    where
      d : Digits bs
      d = digits-before bs

      counted : length (run is_digit (mantissa bs)) ≡ length (run is_digit bs)
      counted = ap length d.same

      rest_none : length (mantissa bs) ≤ length (run is_digit bs) → mantissa (after_digits bs) ≡ []
      rest_none h = sym d.after ∙ drop_of_length-le (mantissa bs) {i = length (run is_digit (mantissa bs))} (omega (arith, counted))

      rest_some : length (run is_digit bs) < length (mantissa bs) → 0 < length (mantissa (after_digits bs))
      rest_some h = rw (← d.after, length-drop) (omega (arith, counted))

      go : (v : Bool) → leb (length (mantissa bs)) (length (run is_digit bs)) ≡ v → (w : Bool) → not_empty (run is_digit bs) ≡ w → with_exponent (cond (not_empty (mantissa bs) && all_digits (mantissa bs)) (float_of s ds (mantissa bs)) wrong) (tail bs) ≡ cond (not_empty (run is_digit bs)) (ends_in (float_of s ds (run is_digit bs)) (after_digits bs)) wrong
      go true e w n =
          let all : mantissa bs ≡ run is_digit bs = sym (run-all (mantissa bs) (omega (arith, leb-true (length (mantissa bs)) (length (run is_digit bs)) e, counted))) ∙ d.same in
          rw (all, digits-run bs) (chosen_ends w n)
        where
          chosen_ends : (w : Bool) → not_empty (run is_digit bs) ≡ w → with_exponent (cond (not_empty (run is_digit bs) && true) (float_of s ds (run is_digit bs)) wrong) (tail bs) ≡ cond (not_empty (run is_digit bs)) (ends_in (float_of s ds (run is_digit bs)) (after_digits bs)) wrong
          chosen_ends true n = rw n (rw d.left (plain-ends _ (after_digits bs) (rest_none (leb-true (length (mantissa bs)) (length (run is_digit bs)) e))))
          chosen_ends false n = rw n (with_wrong (tail bs))
      go false e w n = rw (digits-short (mantissa bs) (omega (arith, leb-false (length (mantissa bs)) (length (run is_digit bs)) e, counted)), and-false (not_empty (mantissa bs)), with_wrong (tail bs)) (others w n)
        where
          others : (w : Bool) → not_empty (run is_digit bs) ≡ w → wrong ≡ cond (not_empty (run is_digit bs)) (ends_in (float_of s ds (run is_digit bs)) (after_digits bs)) wrong
          others true n = rw n (sym (other-ends _ (after_digits bs) (rest_some (leb-false (length (mantissa bs)) (length (run is_digit bs)) e))))
          others false n = rw n

  ends-from : (bs : List ℕ) → with_exponent (number_from FLOAT s ds (mantissa bs)) (tail bs) ≡ ends_in (float_of s ds (fraction_of bs)) (after_fraction bs)
  unfolding number_from fraction_of after_fraction after_digits not_empty with_exponent ends_in
  ends-from [] = rw (nothing.0, nothing.1)
  ends-from (b ∷ bs) = go (eqb b 46) refl (eqb b 101) refl
    where
      point : (v : Bool) → not_empty (run is_digit bs) ≡ v → eqb b 46 ≡ true → cond (not_empty (run is_digit bs)) (ends_in (float_of s ds (run is_digit bs)) (after_digits bs)) wrong ≡ ends_in (float_of s ds (fraction_of (b ∷ bs))) (after_fraction (b ∷ bs))
      point true n e =
          let f = fraction_point b bs e in
          let a : after_fraction (b ∷ bs) ≡ after_digits bs = after_some (b ∷ bs) (ap not_empty f ∙ n) ∙ rw f in
          rw (n, a, f)
      point false n e =
          let a = after_none (b ∷ bs) (ap not_empty (fraction_point b bs e) ∙ n) in
          rw (n, a, ne_eqb b 101 (byte_not_e b 46 e refl))

      go : (v : Bool) → eqb b 46 ≡ v → (w : Bool) → eqb b 101 ≡ w → with_exponent (number_from FLOAT s ds (mantissa (b ∷ bs))) (tail (b ∷ bs)) ≡ ends_in (float_of s ds (fraction_of (b ∷ bs))) (after_fraction (b ∷ bs))
      go true e w _ =
          let m = before_e b bs (mantissa_ne b (byte_not_e b 46 e refl)) in
          rw (m.0, m.1, e) (point_ends bs ∙ point (not_empty (run is_digit bs)) refl e)
      go false e true k =
          let f = fraction_none b bs e in
          let m = at_e b bs (mantissa_eq b (eqb-true b 101 k)) in
          rw (m.0, m.1, f, after_none (b ∷ bs) (ap not_empty f), k)
      go false e false k =
          let f = fraction_none b bs e in
          let m = before_e b bs (mantissa_ne b (eqb-false b 101 k)) in
          rw (m.0, e, with_wrong (tail (b ∷ bs)), f, after_none (b ∷ bs) (ap not_empty f), k)

-- ---- a word, by its sign and the digits after it

float_split : (word : List ℕ) → number_of FLOAT word ≡ with_exponent (unsigned FLOAT (negative (mantissa word)) (unsigned_part (mantissa word))) (tail word)
unfolding number_of fixed_of tail
float_split word = refl

float_parts : (word : List ℕ) → number_of FLOAT word ≡ with_exponent (unsigned FLOAT (negative word) (mantissa (unsigned_part word))) (tail (unsigned_part word))
float_parts word = let s = sign-before word in float_split word ∙ rw (s.same, s.after, s.left)

float_from : (word : List ℕ) → not_empty (run is_digit (unsigned_part word)) ≡ true → number_of FLOAT word ≡ ends_in (float_of (negative word) (run is_digit (unsigned_part word)) (fraction_of (after_digits (unsigned_part word)))) (after_fraction (after_digits (unsigned_part word)))
unfolding unsigned
float_from word n =
    let d = digits-before (unsigned_part word) in
    let some : not_empty (run is_digit (mantissa (unsigned_part word))) ≡ true = ap not_empty d.same ∙ n in
    float_parts word ∙ rw (some, unsigned, d.same, d.after, d.left) (ends-from (negative word) (run is_digit (unsigned_part word)) (after_digits (unsigned_part word)))

float_none : (word : List ℕ) → not_empty (run is_digit (unsigned_part word)) ≡ false → number_of FLOAT word ≡ wrong
unfolding unsigned
float_none word n =
    let none : not_empty (run is_digit (mantissa (unsigned_part word))) ≡ false = ap not_empty (digits-before (unsigned_part word)).same ∙ n in
    float_parts word ∙ rw (none, unsigned) (with_wrong (tail (unsigned_part word)))

module _ (word : List ℕ) (start end : ℕ) (d : drop start word ≡ unsigned_part word) (e : end ≡ start + length (run is_digit (drop start word))) where
  pub lead_none : end ≡ start → number_of FLOAT word ≡ wrong
  lead_none n = float_none word (not_empty_none (run is_digit (unsigned_part word)) (rw (← d) (omega arith)))

  pub lead_float : start < end → number_of FLOAT word ≡ ends_in (float_of (negative word) (part word start end) (fraction_of (drop end word))) (after_fraction (drop end word))
  lead_float n = rw (lead_digits word start end d e, ← lead_after word start end d e) (float_from word (not_empty_some (run is_digit (unsigned_part word)) (rw (← d) (omega arith))))

-- ---- what is left, by its first byte

pub ends_end : (n : Number) (word : List ℕ) (at : ℕ) → length word ≤ at → ends_in n (drop at word) ≡ n
unfolding ends_in
ends_end n word at h = rw (drop_of_length-le word h)

pub ends-other : (n : Number) (word : List ℕ) (at : ℕ) → at < length word → (get_or word at 0 ≡ 101 → ⊥) → ends_in n (drop at word) ≡ wrong
unfolding ends_in
ends-other n word at h k = rw (drop-cons word at 0 h, ne_eqb _ _ k)

pub ends_exponent : (n : Number) (word : List ℕ) (at : ℕ) → at < length word → get_or word at 0 ≡ 101 → ends_in n (drop at word) ≡ times_power n (exponent_of (drop (suc at) word))
unfolding ends_in
ends_exponent n word at h k = rw (drop-cons word at 0 h, eq-eqb _ _ k)

-- the bytes past an offset, as the code takes them
pub rest-after : (word : List ℕ) (at : ℕ) → take (length word - (at + 1)) (drop (at + 1) word) ≡ drop (suc at) word
rest-after word at = rw (add-one at) (take_all (length word - suc at) (drop (suc at) word) (rw length-drop (omega arith)))
