-- `list_shown` puts a frame's line a turn.
use Rattle.std.proofs.Common.{[], ◌∷◌}
use Rattle.player_spec.specs.Lookups.{shown_in}
use Rattle.player_spec.specs.Answers.{numbered}
use Rattle.report_lists.proofs.Turns.{Turn}
use Rattle.shown_listing.specs.Faces.{shown_line}
use Rattle.shown_listing.proofs.faces.list_shown.Given as goal

abbrev pub invariant-loop-at : goal.invariant-loop-at
invariant-loop-at l = Turn (λ at. shown_line l.face at (numbered (shown_in l.n l.table l.m l.moves l.face at)) ∷ []) 69 l.first l.end 0 l.initial.buf l.at l.filled l.buf
