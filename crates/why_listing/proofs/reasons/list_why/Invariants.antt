-- `list_why` puts a frame's line a turn.
use Rattle.player_spec.specs.Lookups.{why_in}
use Rattle.player_spec.specs.Answers.{numbered}
use Rattle.report_lists.proofs.Turns.{Turn}
use Rattle.why_listing.specs.Reasons.{why_parts}
use Rattle.why_listing.proofs.reasons.list_why.Given as goal

abbrev pub invariant-loop-at : goal.invariant-loop-at
invariant-loop-at l = Turn (λ at. why_parts l.face at (numbered (why_in l.n l.table l.m l.moves l.face at))) 74 l.first l.end 0 l.initial.buf l.at l.filled l.buf
