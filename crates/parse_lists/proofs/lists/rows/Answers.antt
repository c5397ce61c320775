-- `rows` reads one row a turn, until its list ends.
use mathlib.Core.Path.{refl, sym, ◌∙◌}
use native.Mathlib.Nat.{zero-add}
use native.Mathlib.Omega.{arith}
use Rattle.parse_cursor.proofs.Steps.{from-same, parsed_exit, stopped}
use Rattle.parse_spec.proofs.TokenCounts.{lex_at_count}
use Rattle.parse_rows.proofs.Before.{earlier}
use Rattle.parse_rows.proofs.Into.{row_past}
use Rattle.parse_lists.proofs.ListsInto.{rows_all, rows_end_lem, rows_more, rows_stop, rows_off, rows_fall}
use Rattle.parse_lists.proofs.lists.rows.Goals as goal

pub loop-ended-init : goal.loop-ended-init
loop-ended-init c = (from-same _ _ _ _ (rows_all _ _ _ _ _ _), refl, rw zero-add (lex_at_count _ _), refl, omega arith)

pub returns-in_err-ended-clause-meaning : goal.returns-in_err-ended-clause-meaning
returns-in_err-ended-clause-meaning c =
    parsed_exit _ _ _ _ c.from_residual-in_err-ended.ensures.1
    (rw c.in_ok-d.was (c.loop-ended.invariant.0 ∙ rows_off _ _ _ _ _ _ _ _ _ (sym c.in_err-ended.ensures)))

pub returns-then-ended-clause-meaning : goal.returns-then-ended-clause-meaning
returns-then-ended-clause-meaning c =
    rw c.in_ok-d.was (sym (c.loop-ended.invariant.0 ∙ rows_end_lem _ _ _ _ _ _ _ _ _ _ _ c.in_ok-ended.ensures c.if-ended.true))

pub returns-in_err-d-2-clause-meaning : goal.returns-in_err-d-2-clause-meaning
returns-in_err-d-2-clause-meaning c =
    parsed_exit _ _ _ _ c.from_residual-in_err-d-2.ensures.1
    (rw c.in_ok-d.was (c.loop-ended.invariant.0 ∙ rows_stop _ _ _ _ _ _ _ _ _ _ _ c.in_ok-ended.ensures c.if-ended.false (stopped _ _ _ c.in_err-d-2.ensures.meaning)))

pub returns-in_err-d-2-clause-before : goal.returns-in_err-d-2-clause-before
returns-in_err-d-2-clause-before c =
    let l = c.loop-ended in
    earlier _ l.i _ _ c.row_tail.auto.out l.invariant.4 c.row_tail.ensures.before ∙ l.invariant.3

pub loop-ended-smaller : goal.loop-ended-smaller
loop-ended-smaller c = rows_fall _ _ _ _ _ _ _ _ _ c.in_ok-ended.ensures _ _ _ c.in_ok-d-2.ensures.meaning

pub loop-ended-preserved : goal.loop-ended-preserved
loop-ended-preserved c =
    let l = c.loop-ended in
    let long = c.row_tail.auto.out in
    let next = row_past l.i _ _ _ _ _ c.advance.ensures c.advance-i.ensures in
    let fewer = rows_fall _ _ _ _ _ _ _ _ _ c.in_ok-ended.ensures _ _ _ c.in_ok-d-2.ensures.meaning in (
      l.invariant.0 ∙ rows_more _ _ _ _ _ _ _ _ _ _ _ c.in_ok-ended.ensures _ _ c.in_ok-d-2.ensures.meaning c.if-ended.false _ next,
      long ∙ l.invariant.1,
      omega arith,
      earlier _ l.i _ _ long l.invariant.4 c.row_tail.ensures.before ∙ l.invariant.3,
      omega (arith, next, long, l.invariant.4),
    )
