-- `is_level` is the definition: a number below zero is no level, and any other is compared as it stands.
use Rattle.std.proofs.Common.{sym, ◌∙◌}
use mir.Facts.{to_z-of_z}
use Rattle.bac6_material_rules.proofs.Materials.{negative_level, natural_level}
use Rattle.bac6_material_rules.proofs.material.is_level.Goals as goal

pub returns-then-z-ge0 : goal.returns-then-z-ge0
returns-then-z-ge0 c =
    let e = rw (to_z-of_z c.ranges.z) at c.if-z-ge0.true in
    rw (to_z-of_z c.ranges.z) (sym (natural_level _ e))

pub returns-else-z-ge0 : goal.returns-else-z-ge0
returns-else-z-ge0 c =
    let e = rw (to_z-of_z c.ranges.z) at c.if-z-ge0.false in
    rw (to_z-of_z c.ranges.z) (e ∙ sym (negative_level _ e))
