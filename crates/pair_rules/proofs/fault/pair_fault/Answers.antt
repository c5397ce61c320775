-- `pair_fault` is the definition: 21 where a table does not hold its counts, else the rules.
use Rattle.std.proofs.Common.{sym, ◌∙◌}
use Rattle.pair_rules.proofs.Faults.{unheld_figure, unheld_movement, held_tables}
use Rattle.pair_rules.proofs.fault.pair_fault.Goals as goal
use Rattle.pair_rules.proofs.fault.pair_fault.Goals.{then-not-holds_figure-via-then-not-holds_figure, then-not-holds_figure-via-else-not-holds_figure+then-not-holds_movement}

pub returns-then-not-holds_figure : goal.returns-then-not-holds_figure
returns-then-not-holds_figure c = elim c.then-not-holds_figure.branch [
  | then-not-holds_figure-via-then-not-holds_figure w ↦ unheld_figure _ _ _ _ _ _ (sym c.holds_figure.ensures ∙ w.if-not-holds_figure.true)
  | then-not-holds_figure-via-else-not-holds_figure+then-not-holds_movement w ↦ unheld_movement _ _ _ _ _ _ (sym c.holds_figure.ensures ∙ w.if-not-holds_figure.false) (sym w.holds_movement.ensures ∙ w.if-not-holds_movement.true)
]

pub rows_fault-requires : goal.rows_fault-requires
rows_fault-requires c = (sym c.holds_figure.ensures ∙ c.if-not-holds_figure.false, sym c.holds_movement.ensures ∙ c.if-not-holds_movement.false)

pub returns : goal.returns
returns c = c.rows_fault.ensures ∙ sym (held_tables _ _ _ _ _ _ (sym c.holds_figure.ensures ∙ c.if-not-holds_figure.false) (sym c.holds_movement.ensures ∙ c.if-not-holds_movement.false))
