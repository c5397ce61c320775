-- `list_samples` puts a frame's line a turn.
use Rattle.std.proofs.Common.{[], ◌∷◌}
use Rattle.player_spec.specs.Lookups.{sample_in}
use Rattle.player_spec.specs.Answers.{numbered}
use Rattle.report_lists.proofs.Turns.{Turn}
use Rattle.sample_listing.specs.Samples.{sample_line}
use Rattle.sample_listing.proofs.samples.list_samples.Given as goal

abbrev pub invariant-loop-at : goal.invariant-loop-at
invariant-loop-at l = Turn (λ at. sample_line l.bone l.channel at (numbered (sample_in l.n l.table l.bone l.channel at)) ∷ []) 112 l.first l.end 0 l.initial.buf l.at l.filled l.buf
