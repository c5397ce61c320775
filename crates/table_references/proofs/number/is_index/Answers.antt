-- None, or a row: one law for each.
use Rattle.std.proofs.Common.{sym, ◌∙◌}
use Rattle.signed.proofs.Tests.{tested}
use Rattle.table_references.specs.References.{is_none, is_row}
use Rattle.table_references.proofs.Numbers.{index_none, index_row}
use Rattle.table_references.proofs.number.is_index.Goals as goal

pub returns-then-is_none : goal.returns-then-is_none
returns-then-is_none c = let e = c.if-is_none.true in e ∙ sym (index_none _ _ (sym (tested is_none _ c.ranges.z c.is_none.ensures) ∙ e))

pub returns-else-is_none : goal.returns-else-is_none
returns-else-is_none c = tested (is_row _) _ c.ranges.z c.is_row.ensures ∙ sym (index_row _ _ (sym (tested is_none _ c.ranges.z c.is_none.ensures) ∙ c.if-is_none.false))
