-- The flags left to look at are covered where all are.
use Rattle.std.proofs.Common.{◌≡◌}
use Rattle.parse_spec.specs.Internal.Fields.{covers_all}
use Rattle.parse_chunks.proofs.chunk.covers.Given as goal

abbrev pub invariant-loop-need : goal.invariant-loop-need
invariant-loop-need l = covers_all l.needed l.seen ≡ covers_all l.need-iterator.a.rest.now l.need-iterator.b.rest.now
