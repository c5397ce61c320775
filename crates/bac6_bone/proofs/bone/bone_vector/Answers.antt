-- `bone_vector` is three numbers, set down in the row, and the closing bracket.
use Rattle.parse_numbers.specs.Internal.Answers.{form_named}
use Rattle.bac6_bone.proofs.Values.{vector_read}
use Rattle.bac6_bone.proofs.bone.bone_vector.Goals as goal

pub returns : goal.returns
unfolding form_named
returns c = vector_read _ _ _ _ _ _ _ c.requires.0 c.requires.1 c.numbers-d.ensures.meaning c.closing.ensures
