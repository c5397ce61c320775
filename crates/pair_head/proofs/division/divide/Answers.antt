-- `divide` by what is read of the first nine bytes.
use Rattle.std.proofs.Common.{sym, ◌∙◌}
use Rattle.pair_head.specs.Answers.{division_named}
use Rattle.pair_head.proofs.Divisions.{too_short, by_length, by_none}
use Rattle.pair_head.proofs.division.divide.Goals as goal

pub returns-then-text-lt9-clause-answer : goal.returns-then-text-lt9-clause-answer
unfolding division_named
returns-then-text-lt9-clause-answer c = sym (too_short c.args.text.now c.args.more c.if-text-lt9.true)

pub returns-in_default-clause-answer : goal.returns-in_default-clause-answer
unfolding division_named
returns-in_default-clause-answer c = sym (by_none c.args.text.now c.args.more c.parse_head.result c.parse_head.ensures c.in_default.is)

pub returns-clause-answer : goal.returns-clause-answer
returns-clause-answer c = c.divide_at.ensures.answer ∙ sym (by_length c.args.text.now c.args.more c.parse_head.result c.parse_head.ensures c.in-Some.length c.in-Some.is)
