-- `size_fine` is the definition, by the bits of 3 and 4.
use Rattle.std.proofs.Common.{sym}
use Rattle.player_face_tests.proofs.Corners.{size-three, size-other}
use Rattle.player_face_tests.proofs.face_corners.size_fine.Goals as goal

pub returns-then-z-eq3 : goal.returns-then-z-eq3
returns-then-z-eq3 c = rw c.if-z-eq3.true (sym (size-three _ c.ranges.z c.if-z-eq3.true))

pub returns-else-z-eq3 : goal.returns-else-z-eq3
returns-else-z-eq3 c = sym (size-other _ c.ranges.z c.if-z-eq3.false)
