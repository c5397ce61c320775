-- `row_tail` is the keyword, the numbers in front and those after them, and the closing bracket.
use mathlib.Core.Path.{◌∙◌}
use Rattle.parse_numbers.specs.Internal.Answers.{form_named}
use Rattle.parse_rows.specs.Internal.Into.{row_tail}
use Rattle.parse_cursor.proofs.Steps.{seq, closed_at}
use Rattle.parse_rows.proofs.Before.{before_step}
use Rattle.parse_rows.proofs.Into.{cells-joined}
use Rattle.parse_rows.proofs.cells.row_tail.Goals as goal

pub returns-clause-meaning : goal.returns-clause-meaning
unfolding row_tail form_named
returns-clause-meaning c =
    seq _ _ _ _ _ _ c.keyword.ensures
    (closed_at _ _ _ _ _ _ (cells-joined _ _ _ _ _ _ _ _ _ _ c.numbers-d.ensures.meaning c.advance-i.ensures c.numbers.ensures.meaning) c.closing.ensures)

pub returns-clause-before : goal.returns-clause-before
returns-clause-before c = before_step _ _ _ _ _ c.numbers.auto.out c.advance-i.ensures c.numbers.ensures.before ∙ c.numbers-d.ensures.before
