-- `replaces` is the definition, by its tests one after the other.
use Rattle.std.proofs.Common.{◌∙◌, inl, inr}
use borrow.Author.Tests.{lt-leb, ne_eqb}
use Rattle.std.proofs.lemmas.Int.{to_z-of_z}
use Rattle.player_patterns.proofs.Lines.{other-group, later, in_time}
use Rattle.player_patterns.proofs.line.replaces.Goals as goal
use Rattle.player_patterns.proofs.line.replaces.Goals.{then-g-group, else-g-group}

pub returns-then-frame-at : goal.returns-then-frame-at
returns-then-frame-at c flag =
    let f = to_z-of_z _ _ c.ranges.f in
    let g = to_z-of_z _ _ c.ranges.g in
    rw f (in_time _ _ _ _ _ flag (rw g at c.if-frame-at.true.0) (rw f at c.if-frame-at.true.1))

pub returns-else-frame-at : goal.returns-else-frame-at
returns-else-frame-at c flag =
    let f = to_z-of_z _ _ c.ranges.f in
    let g = to_z-of_z _ _ c.ranges.g in
    elim c.if-g-group.branch [
      | then-g-group w ↦
          elim c.if-frame-at.either [
            | inl h ↦ w.t-8-is ∙ lt-leb _ _ h.1 ∙ later _ _ _ _ _ flag (rw g at h.0) (rw f at h.1)
            | inr n ↦ absurd (n w.if-g-group.true)
          ]
      | else-g-group w ↦ w.t-8-is ∙ ne_eqb _ _ w.if-g-group.false ∙ other-group _ _ _ _ _ flag (rw g at w.if-g-group.false)
    ]
