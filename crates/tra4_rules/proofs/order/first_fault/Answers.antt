-- `first_fault` is the first of four faults, by the law of each.
use Rattle.std.proofs.Common.{sym, ◌∙◌}
use Rattle.std.proofs.lemmas.Result.{err_from_is_err_and}
use mir.Facts.{to_z-of_z}
use Rattle.refusal.proofs.Rules.{refused_by, clear_by, or-clear, or-fault}
use Rattle.tra4_rules.specs.Internal.Order.{tables_fault}
use Rattle.tra4_rules.proofs.order.first_fault.Goals as goal

pub returns-in_err-counts_fault : goal.returns-in_err-counts_fault
unfolding tables_fault
returns-in_err-counts_fault c =
    let p = err_from_is_err_and c.from_residual.result c.from_residual.ensures.1 in
    rw (p.1, p.2) (sym (or-fault _ (refused_by c.counts_fault.ensures c.in_err-counts_fault.was)))

pub returns-in_err-total_fault : goal.returns-in_err-total_fault
unfolding tables_fault
returns-in_err-total_fault c =
    let p = err_from_is_err_and c.from_residual-in_err-total_fault.result c.from_residual-in_err-total_fault.ensures.1 in
    let told = rw (to_z-of_z c.ranges.total) at c.total_fault.ensures in
    rw (p.1, p.2) (sym (or-clear _ (clear_by c.counts_fault.ensures c.in_ok-counts_fault.was) ∙ or-fault _ (refused_by told c.in_err-total_fault.was)))

pub returns-in_err-keys_fault : goal.returns-in_err-keys_fault
unfolding tables_fault
returns-in_err-keys_fault c =
    let p = err_from_is_err_and c.from_residual-in_err-keys_fault.result c.from_residual-in_err-keys_fault.ensures.1 in
    let total = rw (to_z-of_z c.ranges.total) at c.total_fault.ensures in
    let told = rw (to_z-of_z c.ranges.total) at c.keys_fault.ensures in
    rw (p.1, p.2) (sym (or-clear _ (clear_by c.counts_fault.ensures c.in_ok-counts_fault.was) ∙ or-clear _ (clear_by total c.in_ok-total_fault.was) ∙ or-fault _ (refused_by told c.in_err-keys_fault.was)))

pub returns : goal.returns
unfolding tables_fault
returns c =
    let total = rw (to_z-of_z c.ranges.total) at c.total_fault.ensures in
    let keys = rw (to_z-of_z c.ranges.total) at c.keys_fault.ensures in
    rw (to_z-of_z c.ranges.total) at c.patterns_fault.ensures
    ∙ sym (or-clear _ (clear_by c.counts_fault.ensures c.in_ok-counts_fault.was) ∙ or-clear _ (clear_by total c.in_ok-total_fault.was) ∙ or-clear _ (clear_by keys c.in_ok-keys_fault.was))
