-- `divide_at` is the definition, by the tests on the length.
use Rattle.std.proofs.Common.{sym, arith}
use Rattle.pair_head.specs.Answers.{division_named}
use Rattle.pair_head.proofs.Divisions.{held, past, long, long_past}
use Rattle.pair_head.proofs.division.divide_at.Goals as goal
use Rattle.pair_head.proofs.division.divide_at.Goals.{then-length-left-2-via-then-length-left-2, then-length-left-2-via-else-length-left-2+then-length-left-3}

pub returns-then-length-left-clause-answer : goal.returns-then-length-left-clause-answer
unfolding division_named
returns-then-length-left-clause-answer c = sym (held _ _ _ c.if-length-le65536.true c.if-length-left.true)

pub returns-else-length-left-clause-answer : goal.returns-else-length-left-clause-answer
unfolding division_named
returns-else-length-left-clause-answer c = sym (past _ _ _ c.if-length-le65536.true c.if-length-left.false)

pub returns-then-length-left-2-clause-answer : goal.returns-then-length-left-2-clause-answer
unfolding division_named
returns-then-length-left-2-clause-answer c = sym (long c.args.left c.args.more c.args.length c.if-length-le65536.false (elim c.then-length-left-2.branch [
  | then-length-left-2-via-then-length-left-2 w ↦ omega (arith, w.if-length-left-2.true)
  | then-length-left-2-via-else-length-left-2+then-length-left-3 w ↦ omega (arith, w.if-length-left-2.false, w.if-length-left-3.true)
]))

pub returns-clause-answer : goal.returns-clause-answer
unfolding division_named
returns-clause-answer c = sym (long_past _ _ _ c.if-length-le65536.false (omega arith))
