-- `row` is the opening bracket and then what stands after it.
use mathlib.Core.Path.{sym, ◌∙◌}
use Rattle.parse_cursor.proofs.Steps.{seq, from-same}
use Rattle.parse_rows.proofs.Into.{row_parts}
use Rattle.parse_rows.proofs.cells.row.Goals as goal

pub returns-clause-meaning : goal.returns-clause-meaning
returns-clause-meaning c = seq _ _ _ _ _ _ c.opening.ensures c.row_tail.ensures.meaning ∙ sym (from-same _ _ _ _ (row_parts _ _ _ _ _ _))
