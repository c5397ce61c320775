-- A digit more, by the law of a decimal's last digit; ten digits do not overflow.
use Rattle.std.proofs.Common.{◌≡◌, ◌<◌, ◌≤◌, ◌^◌, ℕ, List, true, length, take, get_or, arith, rules, add-one}
use Rattle.std.proofs.Math.Seq.{take-suc}
use Rattle.std.proofs.lemmas.Grind.{common_steps}
use Rattle.text_numerals.specs.Numbers.{decimal, decimal_from, all_digits}
use Rattle.text_numerals.proofs.Numerals.{digit-range, digits-at, digits-take, decimal-below, decimal_snoc}
use Rattle.text_numbers.proofs.number.decimal.Goals as goal

-- fewer than ten digits have been taken
small : (ds : List ℕ) (i v : ℕ) → all_digits ds ≡ true → length ds ≤ 10 → i < length ds → v ≡ decimal (take i ds) → v < 10 ^ 9
small ds i v a n h e = rw e (decimal-below (take i ds) 9 (digits-take i ds a) (grind (arith, common_steps)))

digit : (ds : List ℕ) (i : ℕ) → all_digits ds ≡ true → i < length ds → (48 ≤ get_or ds i 0) × (get_or ds i 0 ≤ 57)
digit ds i a h = digit-range _ (digits-at ds i a h)

pub loop-b-init : goal.loop-b-init
unfolding decimal decimal_from
loop-b-init c = search rules

pub overflow_mul-value : goal.overflow_mul-value
overflow_mul-value c = let h = small c.args.digits.now c.loop-b.b-index c.loop-b.value c.requires.all c.requires.few c.loop-b-test.true c.loop-b.invariant in omega arith

pub overflow_sub-b : goal.overflow_sub-b
overflow_sub-b c = (digit c.args.digits.now c.loop-b.b-index c.requires.all c.loop-b-test.true).0

pub overflow_add-value : goal.overflow_add-value
overflow_add-value c =
    let h = small c.args.digits.now c.loop-b.b-index c.loop-b.value c.requires.all c.requires.few c.loop-b-test.true c.loop-b.invariant in
    let d = digit c.args.digits.now c.loop-b.b-index c.requires.all c.loop-b-test.true in
    omega (arith, c.from.ensures)

pub loop-b-preserved : goal.loop-b-preserved
loop-b-preserved c = rw (add-one c.loop-b.b-index, take-suc c.args.digits.now c.loop-b.b-index 0 c.loop-b-test.true, decimal_snoc, ← c.loop-b.invariant, c.from.ensures)
