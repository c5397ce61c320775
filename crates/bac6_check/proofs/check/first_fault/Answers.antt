-- `first_fault` is the first of two faults, by the law of each.
use Rattle.std.proofs.Common.{refl, sym, ◌∙◌}
use Rattle.std.proofs.lemmas.Result.{err_from_is_err_and}
use Rattle.refusal.proofs.Rules.{refused_by, clear_by, or-clear, or-fault}
use Rattle.bac6_rules.specs.Internal.Order.{tables_fault}
use Rattle.bac6_check.specs.Internal.Rows.{rows_fault}
use Rattle.bac6_check.proofs.Parts.{left-placed, left-same}
use Rattle.bac6_check.proofs.check.first_fault.Goals as goal

pub returns-in_err-counts_fault : goal.returns-in_err-counts_fault
unfolding rows_fault tables_fault
returns-in_err-counts_fault c =
    let e = refused_by c.counts_fault.ensures c.in_err-counts_fault.was in
    let p = err_from_is_err_and c.from_residual.result c.from_residual.ensures.1 in
    record {
      answer = rw (p.1, p.2) (sym (or-fault _ e));
      content = left-same c.args.n c.args.rows.now _ e refl;
    }

pub returns : goal.returns
unfolding rows_fault tables_fault
returns c =
    let e = clear_by c.counts_fault.ensures c.in_ok-counts_fault.was in
    record {
      answer = c.placed_fault.ensures.answer ∙ sym (or-clear _ e);
      content = left-placed c.args.n c.args.rows.now _ e c.placed_fault.ensures.content;
    }
