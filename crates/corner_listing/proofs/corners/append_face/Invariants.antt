-- `append_face` puts a corner's lines a turn.
use Rattle.player_spec.specs.Lookups.{corner_in}
use Rattle.player_spec.specs.Answers.{numbered}
use Rattle.report_lists.proofs.Turns.{Turn}
use Rattle.corner_listing.specs.Corners.{corner_lines}
use Rattle.corner_listing.proofs.corners.append_face.Given as goal

abbrev pub invariant-loop-k : goal.invariant-loop-k
invariant-loop-k l = Turn (λ k. corner_lines l.face k (numbered (corner_in l.counts l.table l.face k))) 196 0 4 l.n l.initial.buf l.k l.filled l.buf
