-- `corners` is the row's numbers one after the other, and the row set down.
use Rattle.parse_numbers.specs.Internal.Answers.{form_named}
use Rattle.bac6_face.proofs.Faces.{blank_bits, corners-joined}
use Rattle.bac6_face.proofs.face.corners.Goals as goal

pub returns : goal.returns
unfolding form_named
returns c =
    rw c.store.ensures
    (corners-joined _ _ _ _ _ _ c.requires _ _ _ _ _ _ _ _ _ _ (blank_bits _ _ _ _ c.ranges.material c.ranges.group c.from.ensures c.requires) c.from-width.ensures c.numbers-vertices.ensures.meaning c.closing-d.ensures c.row-uvs.ensures.meaning c.closing.ensures)
