-- `width` is the sign and as many digits as the logarithm says.
use Rattle.std.proofs.Common.{refl, sym, ◌∙◌}
use Rattle.report_text.proofs.Numerals.{digits-log, numeral_below, numeral_from}
use Rattle.report_rows.proofs.row.width.Goals as goal

pub returns-then-z-lt0 : goal.returns-then-z-lt0
returns-then-z-lt0 c =
    let i = c.ilog10.ensures in
    rw (numeral_below c.args.z _ c.ranges.z c.magnitude.ensures c.if-z-lt0.true, digits-log _ _ _ c.max.ensures i.power_le i.next_power_gt) refl

pub returns-else-z-lt0 : goal.returns-else-z-lt0
returns-else-z-lt0 c =
    let i = c.ilog10.ensures in
    sym (numeral_from c.args.z _ c.ranges.z c.magnitude.ensures c.if-z-lt0.false ∙ digits-log _ _ _ c.max.ensures i.power_le i.next_power_gt)
