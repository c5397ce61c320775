-- `bone_fields` reads chunks turn by turn: the fields that the row, the claims and the flags stand for, and from which the rest is read.
use Rattle.bac6_bone.proofs.Turns.{Between}
use Rattle.bac6_bone.proofs.bone.bone_fields.Given as goal

abbrev pub invariant-loop-chunk : goal.invariant-loop-chunk
invariant-loop-chunk l = Between l.text l.initial.at l.left l.at l.points l.bone (l.fine, l.initial.owners) l.seen (l.row, (l.free, l.owners))

abbrev pub decreases-loop-chunk : goal.decreases-loop-chunk
decreases-loop-chunk l = l.left
