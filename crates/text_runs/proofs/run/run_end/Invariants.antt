-- `run_end` is the run's end: the runs from `from` and from `i` end at one place.
use Rattle.std.proofs.Common.{◌≡◌, ◌+◌, length, drop}
use Rattle.text_runs.specs.Runs.{run}
use Rattle.text_runs.specs.Internal.Answers.{test_named}
use Rattle.text_runs.proofs.run.run_end.Given as goal

abbrev pub invariant-loop-i : goal.invariant-loop-i
invariant-loop-i l = l.from + length (run (test_named l.kind) (drop l.from l.text)) ≡ l.i + length (run (test_named l.kind) (drop l.i l.text))
