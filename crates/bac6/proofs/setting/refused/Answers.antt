-- `refused` is the answer of a refusal, its counts those of no rows.
use Rattle.bac6.specs.Answers.{refused_with}
use Rattle.bac6.proofs.setting.refused.Goals as goal

pub returns : goal.returns
unfolding refused_with
returns c = rw (c.from.ensures, c.no_figure.ensures)
