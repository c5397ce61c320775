-- `line_end` lies from `at` on and within the text, as a run does.
use native.Mathlib.Omega.{arith}
use borrow.Author.Rules.{rules}
use Rattle.text_runs.specs.Internal.Answers.{test_named}
use Rattle.text_runs.specs.declared.run.Run.TheVariants.{Line}
use Rattle.text_runs.proofs.Runs.{run-within}
use Rattle.pair_vectors.proofs.line_end.Statement.{statement}
use Rattle.pair_vectors.proofs.line_end.Tie as tie

run-end-requires : tie.Need-run_end-requires
run-end-requires c κs = search rules

returns : tie.Need-returns
returns c =
    let s = c.before.before in
    omega (arith, c.run_end.ensures, run-within (test_named Line) s.args.text.now s.args.at s.requires)

pub line_end_spec : {M : Type 1} → statement M
line_end_spec = tie.close (tie.spec run-end-requires returns)
