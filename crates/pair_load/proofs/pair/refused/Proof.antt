-- `refused` is the reply of a refusal.
use mathlib.Core.Path.{ap₂}
use borrow.Author.Rules.{rules}
use Rattle.table_counts.specs.declared.counts.FigureCounts.{FigureCounts}
use Rattle.table_counts.specs.declared.counts.MovementCounts.{MovementCounts}
use Rattle.pair_load.specs.Answers.{pair_reply}
use Rattle.pair_load.proofs.pair.refused.Statement.{statement}
use Rattle.pair_load.proofs.pair.refused.Tie as tie

no-figure-requires : tie.Need-no_figure-requires
no-figure-requires c κs = search rules

no-movement-requires : tie.Need-no_movement-requires
no-movement-requires c κs = search rules

returns : tie.Need-returns
unfolding pair_reply
returns c =
    let a = c.args in
    ap₂ (λ (n : FigureCounts) (m : MovementCounts). record { refusal = a.number; place = a.place; file = a.file; figure_total = 0; figure = n; movement_total = 0; movement = m }) c.no_figure.ensures c.no_movement.ensures

pub refused_spec : {M : Type 1} → statement M
refused_spec = tie.close (tie.spec no-figure-requires no-movement-requires returns)
