-- `counts_fault` is the first of two faults, by the law of each.
use Rattle.std.proofs.Common.{sym, ◌∙◌}
use Rattle.std.proofs.lemmas.Result.{err_from_is_err_and}
use Rattle.refusal.proofs.Rules.{refused_by, clear_by, or-clear, or-fault}
use Rattle.table_counts.specs.Counts.{figure_lists, figure_mosts}
use Rattle.bac6_rules.specs.Internal.Order.{counts_fault}
use Rattle.bac6_rules.proofs.order.counts_fault.Goals as goal

pub returns-in_err-too_many : goal.returns-in_err-too_many
unfolding figure_lists counts_fault figure_mosts
returns-in_err-too_many c =
    let p = err_from_is_err_and c.from_residual.result c.from_residual.ensures.1 in
    rw (p.1, p.2) (sym (or-fault _ (refused_by c.too_many.ensures c.in_err-too_many.was)))

pub returns : goal.returns
unfolding figure_lists counts_fault figure_mosts
returns c = c.normals_fault.ensures ∙ sym (or-clear _ (clear_by c.too_many.ensures c.in_ok-too_many.was))
