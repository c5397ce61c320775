-- `later_fault` is the first of three faults, by the law of each.
use Rattle.std.proofs.Common.{refl, sym, ◌∙◌}
use Rattle.std.proofs.lemmas.Result.{err_from_is_err_and}
use Rattle.refusal.proofs.Rules.{refused_by, clear_by, or-clear, or-fault}
use Rattle.bac6_rules.specs.Internal.Order.{later_fault}
use Rattle.bac6_rules.proofs.order.later_fault.Goals as goal

pub returns-in_err-claims : goal.returns-in_err-claims
unfolding later_fault
returns-in_err-claims c =
    let p = err_from_is_err_and c.from_residual.result c.from_residual.ensures.1 in
    rw (p.1, p.2) (sym (or-fault _ (refused_by refl c.in_err-claims.was)))

pub returns-in_err-material_fault : goal.returns-in_err-material_fault
unfolding later_fault
returns-in_err-material_fault c =
    let p = err_from_is_err_and c.from_residual-in_err-material_fault.result c.from_residual-in_err-material_fault.ensures.1 in
    rw (p.1, p.2) (sym (or-clear _ (clear_by refl c.in_ok-claims.was) ∙ or-fault _ (refused_by c.material_fault.ensures c.in_err-material_fault.was)))

pub returns : goal.returns
unfolding later_fault
returns c = c.face_fault.ensures ∙ sym (or-clear _ (clear_by refl c.in_ok-claims.was) ∙ or-clear _ (clear_by c.material_fault.ensures c.in_ok-material_fault.was))
