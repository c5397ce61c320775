-- `covers` is the definition: each pair of flags is one step of it.
use mathlib.Core.Path.{sym, ◌∙◌}
use Rattle.std.proofs.lemmas.Slice.Zip.{either_empty_from_Zip}
use Rattle.parse_chunks.proofs.Stored.{covers_end, covers_missing, covers_set, covers_free}
use Rattle.parse_chunks.proofs.chunk.covers.Goals as goal
use Rattle.parse_chunks.proofs.chunk.covers.Goals.{else-need-via-then-need+else-not-set, else-need-via-else-need}

pub returns-then-not-set : goal.returns-then-not-set
returns-then-not-set c =
    sym (c.loop-need.invariant ∙ rw (c.in-Some.ensures.steps.0, c.in-Some.ensures.steps.1) (covers_missing _ _ _ _ c.if-need.true c.if-not-set.true))

pub loop-need-preserved : goal.loop-need-preserved
loop-need-preserved c =
    c.loop-need.invariant
    ∙ rw (c.in-Some.ensures.steps.0, c.in-Some.ensures.steps.1)
    (elim c.else-need.branch [
      | else-need-via-then-need+else-not-set w ↦ covers_set _ _ _ _ w.if-not-set.false
      | else-need-via-else-need w ↦ covers_free _ _ _ _ w.if-need.false
    ])

pub returns : goal.returns
returns c = sym (c.loop-need.invariant ∙ covers_end _ _ (either_empty_from_Zip c.loop-need.need-iterator c.next.new.self _ c.in-None.is c.next.ensures.steps))
