-- `refused` is the reply of a refusal.
use mathlib.Core.Path.{ap}
use borrow.Author.Rules.{rules}
use Rattle.table_counts.specs.declared.counts.MovementCounts.{MovementCounts}
use Rattle.pair_movement.specs.Moved.{moved_reply}
use Rattle.pair_movement.proofs.moving.refused.Statement.{statement}
use Rattle.pair_movement.proofs.moving.refused.Tie as tie

no-movement-requires : tie.Need-no_movement-requires
no-movement-requires c κs = search rules

returns : tie.Need-returns
unfolding moved_reply
returns c = ap (λ (n : MovementCounts). record { refusal = c.args.number; place = c.args.place; file = c.args.file; total = 0; counts = n }) c.no_movement.ensures

pub refused_spec : {M : Type 1} → statement M
refused_spec = tie.close (tie.spec no-movement-requires returns)
