-- `some_rows` is the first row and then the others, counted with it.
use mathlib.Core.Path.{sym, ◌∙◌}
use native.Mathlib.Omega.{arith}
use Rattle.parse_cursor.proofs.Steps.{parsed_exit}
use Rattle.parse_lists.proofs.RowCounts.{rows-counted}
use Rattle.parse_rows.proofs.Before.{before_step}
use Rattle.parse_rows.proofs.Into.{row_past}
use Rattle.parse_lists.proofs.ListsInto.{some_join, some_off}
use Rattle.parse_lists.proofs.lists.some_rows.Goals as goal

pub returns-in_err-more-clause-meaning : goal.returns-in_err-more-clause-meaning
returns-in_err-more-clause-meaning c =
    parsed_exit _ _ _ _ c.from_residual.ensures.1
    (some_off _ _ _ _ _ _ _ _ _ _ _ c.row-first.ensures.meaning (row_past _ _ _ _ _ _ c.advance.ensures c.advance-i.ensures) (sym c.in_err-more.ensures.meaning))

pub returns-in_err-more-clause-before : goal.returns-in_err-more-clause-before
returns-in_err-more-clause-before c =
    before_step _ _ _ _ _ c.rows.auto.out (row_past _ _ _ _ _ _ c.advance.ensures c.advance-i.ensures) c.rows.ensures.before ∙ c.row-first.ensures.before

pub overflow_add-result : goal.overflow_add-result
overflow_add-result c = omega (arith, rows-counted _ _ _ _ _ _ _ _ _ _ _ c.in_ok-more.ensures.meaning, c.well_formed)

pub returns-clause-meaning : goal.returns-clause-meaning
returns-clause-meaning c =
    some_join _ _ _ _ _ _ _ _ _ _ _ c.row-first.ensures.meaning (row_past _ _ _ _ _ _ c.advance.ensures c.advance-i.ensures) _ _ _ c.in_ok-more.ensures.meaning

pub returns-clause-before : goal.returns-clause-before
returns-clause-before c =
    before_step _ _ _ _ _ c.rows.auto.out (row_past _ _ _ _ _ _ c.advance.ensures c.advance-i.ensures) c.rows.ensures.before ∙ c.row-first.ensures.before
