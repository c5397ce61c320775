-- `refused` is the answer of a refusal, its counts those of no rows.
use Rattle.std.proofs.Common.{ap}
use Rattle.table_counts.specs.declared.counts.MovementCounts.{MovementCounts}
use Rattle.tra4.specs.Answers.{refused_with}
use Rattle.tra4.proofs.setting.refused.Goals as goal

pub returns : goal.returns
unfolding refused_with
returns c = ap (λ (n : MovementCounts). record { refusal = c.args.e.number; place = c.args.e.place; file = 1; total = 0; counts = n }) c.no_movement.ensures
