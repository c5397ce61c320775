-- One owner a turn, from the last to the first: which owners are still to be tested, and which corner is the first without a bone among the others.
use Rattle.table_columns.specs.Columns.{face_vertices}
use Rattle.player_why.proofs.OwnedCorners.{Midway}
use Rattle.player_why.proofs.owning.owned.Given as goal

abbrev pub invariant-loop-i : goal.invariant-loop-i
invariant-loop-i l = Midway l.f.n l.f.table.now (face_vertices l.row) l.used l.first l.i
