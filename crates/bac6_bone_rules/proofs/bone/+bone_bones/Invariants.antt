-- The measures are twice the rows left, and one more for a list, which hands its row to its first bone.
use Rattle.std.proofs.Common.{◌+◌, ◌-◌, ◌*◌}
use Rattle.bac6_bone_rules.proofs.bone.+bone_bones.Given as goal

abbrev pub decreases-bone : goal.decreases-bone
decreases-bone l = 2 * (l.rows - l.row)

abbrev pub decreases-bones : goal.decreases-bones
decreases-bones l = 2 * (l.rows - l.row) + 1
