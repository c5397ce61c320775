-- `list_corners` puts a face's lines a turn.
use Rattle.report_lists.proofs.Turns.{Turn}
use Rattle.corner_listing.specs.Corners.{face_lines}
use Rattle.corner_listing.proofs.corners.list_corners.Given as goal

abbrev pub invariant-loop-face : goal.invariant-loop-face
invariant-loop-face l = Turn (face_lines l.n l.table) 784 l.first l.end 0 l.initial.buf l.face l.filled l.buf
