-- `name_span` is the definition, by its tests on the pair.
use Rattle.std.proofs.lemmas.Int.{to_z-of_z}
use Rattle.player_names.proofs.Spans.{place-below, length-below, length_over, end_over, end_within}
use Rattle.player_names.proofs.names.name_span.Goals as goal
use Rattle.player_names.proofs.names.name_span.Goals.{then-place-lt0-via-then-place-lt0, then-place-lt0-via-else-place-lt0+then-long-lt0, then-place-lt0-via-else-place-lt0+else-long-lt0+then-long-gt255}

pub returns-then-place-lt0 : goal.returns-then-place-lt0
returns-then-place-lt0 c =
    let f = to_z-of_z _ _ c.ranges.place in
    let g = to_z-of_z _ _ c.ranges.long in
    elim c.then-place-lt0.branch [
      | then-place-lt0-via-then-place-lt0 w ↦ place-below _ _ _ (rw f at w.if-place-lt0.true)
      | then-place-lt0-via-else-place-lt0+then-long-lt0 w ↦ length-below _ _ _ (rw g at w.if-long-lt0.true)
      | then-place-lt0-via-else-place-lt0+else-long-lt0+then-long-gt255 w ↦ length_over _ _ _ (rw g at w.if-long-gt255.true)
    ]

pub returns-then-size-end : goal.returns-then-size-end
returns-then-size-end c =
    let f = to_z-of_z _ _ c.ranges.place in
    let g = to_z-of_z _ _ c.ranges.long in
    end_over _ _ _ (rw f at c.if-place-lt0.false) (rw g at c.if-long-lt0.false) (rw g at c.if-long-gt255.false) (rw (f, g) at c.if-size-end.true)

pub returns : goal.returns
returns c =
    let f = to_z-of_z _ _ c.ranges.place in
    let g = to_z-of_z _ _ c.ranges.long in
    rw (f, g) (end_within _ _ _ (rw f at c.if-place-lt0.false) (rw g at c.if-long-lt0.false) (rw g at c.if-long-gt255.false) (rw (f, g) at c.if-size-end.false))
