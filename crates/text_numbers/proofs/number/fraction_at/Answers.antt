-- `fraction_at` finds the fraction, by whether there is a point and a digit after it.
use Rattle.std.proofs.Common.{◌≡◌, ◌+◌, ℕ, suc, List, length, drop, arith, add-one}
use Rattle.text_bytes.specs.Bytes.{is_digit}
use Rattle.text_runs.specs.Runs.{run}
use Rattle.text_runs.specs.Internal.Answers.{test_named}
use Rattle.text_numbers.proofs.Fractions.{no_fraction, fraction_end, fraction_other, fraction_bare, fraction_digits}
use Rattle.text_numbers.proofs.number.fraction_at.Goals as goal
use Rattle.text_numbers.proofs.number.fraction_at.Goals.{else-end-word-via-then-end-word+else-word-end-eq46, else-end-word-via-else-end-word}

-- the run of digits after the point
ended : (at last : ℕ) (word : List ℕ) → last ≡ at + 1 + length (run is_digit (drop (at + 1) word)) → last ≡ suc at + length (run is_digit (drop (suc at) word))
ended at last word e = rw (← add-one at) e

pub returns-then-from-last : goal.returns-then-from-last
unfolding test_named
returns-then-from-last c =
    rw add-one (fraction_digits c.args.word.now c.args.end c.run_end-last.result c.if-end-word.true c.if-word-end-eq46.true (ended _ _ _ c.run_end-last.ensures) (omega arith))

pub returns-else-from-last : goal.returns-else-from-last
unfolding test_named
returns-else-from-last c =
    let e = ended c.args.end c.run_end-last.result c.args.word.now c.run_end-last.ensures in
    no_fraction _ _ c.requires (fraction_bare _ _ _ c.if-end-word.true c.if-word-end-eq46.true e (omega arith))

pub returns-else-end-word : goal.returns-else-end-word
returns-else-end-word c = elim c.else-end-word.branch [
  | else-end-word-via-then-end-word+else-word-end-eq46 w ↦ no_fraction _ _ c.requires (fraction_other _ _ w.if-end-word.true w.if-word-end-eq46.false)
  | else-end-word-via-else-end-word w ↦ no_fraction _ _ c.requires (fraction_end _ _ w.if-end-word.false)
]
