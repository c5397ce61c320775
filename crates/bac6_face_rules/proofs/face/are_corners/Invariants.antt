-- `are_corners` looks at one corner a turn: the corners left, over what is known so far, settle all.
use Rattle.std.proofs.Common.{◌≡◌, take, drop}
use Rattle.bac6_face_rules.specs.Internal.Rows.{corners_known}
use Rattle.bac6_face_rules.proofs.Faces.{left}
use Rattle.bac6_face_rules.proofs.face.are_corners.Given as goal

abbrev pub invariant-loop-k : goal.invariant-loop-k
invariant-loop-k l = corners_known l.used l.points l.uvs l.f ≡ left l.points l.uvs l.none l.rows (drop l.k (take l.used (drop 2 l.f))) (drop l.k (take l.used (drop 6 l.f)))
