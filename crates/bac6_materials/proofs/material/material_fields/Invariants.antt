-- `material_fields` reads chunks turn by turn: the fields that the row and the flags stand for, and from which the rest is read.
use Rattle.std.proofs.Common.{◌≡◌, length}
use Rattle.bac6_materials.proofs.Chunks.{Between}
use Rattle.bac6_materials.proofs.material.material_fields.Given as goal

abbrev pub invariant-loop-chunk : goal.invariant-loop-chunk
invariant-loop-chunk l = Between l.text l.initial.at l.left l.at l.seen l.row × (length l.row ≡ 9)

abbrev pub decreases-loop-chunk : goal.decreases-loop-chunk
decreases-loop-chunk l = l.left
