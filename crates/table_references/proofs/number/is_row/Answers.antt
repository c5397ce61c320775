-- A number from 0 on is compared as it stands, and any other is no row.
use Rattle.std.proofs.Common.{sym, ◌∙◌}
use mir.Facts.{to_z-of_z}
use Rattle.signed.proofs.Tests.{natural_from, negative_from}
use Rattle.table_references.proofs.Numbers.{negative-row, natural_row}
use Rattle.table_references.proofs.number.is_row.Goals as goal

pub returns-then-z-ge0 : goal.returns-then-z-ge0
returns-then-z-ge0 c = rw (to_z-of_z c.ranges.z) (sym (natural_row _ _ (natural_from _ c.ranges.z c.if-z-ge0.true)))

pub returns-else-z-ge0 : goal.returns-else-z-ge0
returns-else-z-ge0 c = c.if-z-ge0.false ∙ sym (negative-row _ _ (negative_from _ c.ranges.z c.if-z-ge0.false))
