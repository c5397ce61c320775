-- A head by its tests, and the value of eight digits as an INT.
use mathlib.Core.Path.{◌≡◌, refl, ap, sym, ◌∙◌}
use mathlib.Core.Bool.{Bool, true, false, ◌&&◌}
use mathlib.Core.List.{List}
use mathlib.Core.Option.{none, some}
use Prim.Native.Nat.{ℕ, ◌+◌, ◌^◌, ◌≤◌, ◌<◌}
use native.Mathlib.Omega.{arith}
use borrow.Author.Tests.{eq-eqb, ne_eqb}
use lib.Dec.{eqb}
use lib.IntN.{ℤ, pos, nat_abs}
use lib.ListN.{length, take, drop, get_or, length-take}
use lib.Seq.{take_all, length-take-le}
use Rattle.text_bytes.specs.Bytes.{is_digit}
use Rattle.text_runs.specs.Runs.{run, part}
use Rattle.text_numerals.specs.Numbers.{INT, value, beyond, wrong, number_of, int_of, int_most, signed, all_digits, decimal, negative}
use Rattle.text_numbers.specs.Internal.Answers.{number_named}
use Rattle.text_runs.specs.Internal.Answers.{test_named}
use Rattle.text_runs.specs.declared.run.Run.TheVariants.{Digits}
use Rattle.text_numbers.specs.declared.number.NumberError.{NumberError}
use Rattle.text_numbers.specs.declared.number.NumberError.TheVariants.{Beyond, Malformed}
use Rattle.text_runs.proofs.Runs.{run_length, run_take}
use Rattle.text_numerals.proofs.Numerals.{and_true, negative-first, digits-at, digit-range, digits-short, digits-run, unsigned_no, lead_int, int_value, decimal-below}
use Rattle.pair_head.specs.Division.{is_head, head_of}
use Rattle.pair_head.specs.Answers.{length_named}
use Rattle.std.proofs.Common.{Option as Optional, Some, Result, Ok, Err}

module _ (bs : List ℕ) where
  pub head-size : (length bs ≡ 9 → ⊥) → head_of bs ≡ none
  unfolding head_of is_head
  head-size h = rw (ne_eqb (length bs) 9 h, head_of)

  pub head-digits : length bs ≡ 9 → all_digits (take 8 bs) ≡ false → head_of bs ≡ none
  unfolding head_of is_head
  head-digits l h = rw (eq-eqb (length bs) 9 l, h, head_of)

  pub head_feed : length bs ≡ 9 → all_digits (take 8 bs) ≡ true → (get_or bs 8 0 ≡ 10 → ⊥) → head_of bs ≡ none
  unfolding head_of is_head
  head_feed l d h = rw (eq-eqb (length bs) 9 l, d, ne_eqb (get_or bs 8 0) 10 h, head_of)

  pub head-is : length bs ≡ 9 → all_digits (take 8 bs) ≡ true → get_or bs 8 0 ≡ 10 → head_of bs ≡ some (decimal (take 8 bs))
  unfolding head_of is_head
  head-is l d h = rw (eq-eqb (length bs) 9 l, d, eq-eqb (get_or bs 8 0) 10 h, head_of)

-- eight digits say less than a hundred million
pub head-below : (bs : List ℕ) (h : Optional ℕ) (n : ℕ) → length_named h ≡ head_of bs → h ≡ Some n → n < 100000000
unfolding length_named head_of is_head
head-below bs h n e q = go (is_head bs) refl
  where
    is : some n ≡ head_of bs
    is = sym (ap length_named q) ∙ e

    go : (v : Bool) → is_head bs ≡ v → n < 100000000
    go true t =
        let a = and_true (eqb (length bs) 9) (all_digits (take 8 bs)) (and_true (eqb (length bs) 9 && all_digits (take 8 bs)) (eqb (get_or bs 8 0) 10) t).0 in
        let v : some n ≡ some (decimal (take 8 bs)) = is ∙ rw (t, head_of) in
        let w : n ≡ decimal (take 8 bs) = cc in
        let b : decimal (take 8 bs) < 10 ^ 8 = decimal-below (take 8 bs) 8 a.1 (omega (arith, length-take 8 bs)) in
        omega arith
    go false t =
        let v : some n ≡ none = is ∙ rw (t, head_of) in
        let z : ◌≡◌ {A = ℕ} 0 1 = cc in
        absurd (omega (arith, z))

-- eight bytes of which the first eight are a run of digits
module _ (ds : List ℕ) (l : length ds ≡ 8) (r : 8 ≤ length (run is_digit ds)) where
  count : 8 ≡ 0 + length (run is_digit (drop 0 ds))
  count = omega (arith, run_length is_digit ds)

  whole : part ds 0 8 ≡ ds
  unfolding part
  whole = take_all 8 ds (omega arith)

  -- the run is all eight
  pub eight_digits : all_digits ds ≡ true
  eight_digits = let same : run is_digit ds ≡ ds = sym (run_take is_digit ds) ∙ take_all (length (run is_digit ds)) ds (omega arith) in rw same at (digits-run ds)

  not_negative : negative ds ≡ false
  not_negative =
      let d = digit-range (get_or ds 0 0) (digits-at ds 0 eight_digits (omega arith)) in
      negative-first ds (omega arith) ∙ ne_eqb (get_or ds 0 0) 45 (λ e. omega arith)

  pub eight_value : number_of INT ds ≡ value (pos (decimal ds))
  eight_value =
      let below : decimal ds < 10 ^ 8 = decimal-below ds 8 eight_digits (omega arith) in
      let digits : number_of INT ds ≡ int_of false ds = rw (not_negative, whole) at (lead_int ds 0 8 (sym (unsigned_no ds not_negative)) count (omega arith) (omega arith)) in
      digits ∙ int_value false ds (omega arith) (unfold int_most in omega arith) ∙ (unfold signed in refl)

-- nine bytes, of which the first e are digits
module _ (bs : List ℕ) (l : length bs ≡ 9) (e : ℕ) (r : e ≡ 0 + length (run (test_named Digits) (drop 0 (take 8 bs)))) where
  first_eight : length (take 8 bs) ≡ 8
  first_eight = length-take-le 8 bs (omega arith)

  run_count : e ≡ length (run is_digit (take 8 bs))
  unfolding test_named
  run_count = let same : e ≡ 0 + length (run is_digit (take 8 bs)) = r in omega arith

  pub too_few : e < 8 → head_of bs ≡ none
  too_few h = head-digits bs l (digits-short (take 8 bs) (omega (arith, run_count, first_eight)))

  module _ (h : 8 ≤ e) where
    run-whole : 8 ≤ length (run is_digit (take 8 bs))
    run-whole = omega (arith, run_count)

    pub no_feed : (get_or bs 8 0 ≡ 10 → ⊥) → head_of bs ≡ none
    no_feed n = head_feed bs l (eight_digits (take 8 bs) first_eight run-whole) n

    -- what INT gives of the digits is their value
    pub head-value : (p : Result ℤ NumberError) (z : ℤ) (m : ℕ) → get_or bs 8 0 ≡ 10 → number_named p ≡ number_of INT (take 8 bs) → p ≡ Ok z → m ≡ nat_abs z → head_of bs ≡ some m
    unfolding number_named
    head-value p z m f n q a =
        let v : value z ≡ value (pos (decimal (take 8 bs))) = sym (ap number_named q) ∙ n ∙ eight_value (take 8 bs) first_eight run-whole in
        let w : z ≡ pos (decimal (take 8 bs)) = cc in
        head-is bs l (eight_digits (take 8 bs) first_eight run-whole) f ∙ ap some (sym (a ∙ ap nat_abs w))

    pub never_refused : (p : Result ℤ NumberError) (e : NumberError) → number_named p ≡ number_of INT (take 8 bs) → p ≡ Err e → ⊥
    unfolding number_named
    never_refused p Beyond n q =
        let v : beyond ≡ value (pos (decimal (take 8 bs))) = sym (ap number_named q) ∙ n ∙ eight_value (take 8 bs) first_eight run-whole in
        cc
    never_refused p Malformed n q =
        let v : wrong ≡ value (pos (decimal (take 8 bs))) = sym (ap number_named q) ∙ n ∙ eight_value (take 8 bs) first_eight run-whole in
        cc
