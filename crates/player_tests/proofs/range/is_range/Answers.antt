-- `is_range` is the definition, by its bounds.
use Rattle.std.proofs.Common.{sym, ◌∙◌}
use Rattle.std.proofs.lemmas.Int.{to_z-of_z}
use Rattle.tra4_text.proofs.Zero.{zero_yes, zero_no, zero_bits}
use Rattle.player_tests.proofs.Numbers.{range_none, range-below, range_count, range-end}
use Rattle.player_tests.proofs.range.is_range.Goals as goal
use Rattle.player_tests.proofs.range.is_range.Goals.{then-first-ge0, else-first-ge0}

pub returns-then-count-eq0 : goal.returns-then-count-eq0
returns-then-count-eq0 c = zero_bits _ c.ranges.first ∙ range_none _ _ _ (zero_yes _ c.ranges.count c.if-count-eq0.true)

pub returns-then-count-gt0 : goal.returns-then-count-gt0
returns-then-count-gt0 c =
    let f = to_z-of_z _ _ c.ranges.first in
    let g = to_z-of_z _ _ c.ranges.count in
    elim c.if-first-ge0.branch [
      | then-first-ge0 w ↦ rw (f, g) (range-end _ _ _ (rw f at w.if-first-ge0.true) (rw g at (sym w.value-is ∙ c.if-count-gt0.true)))
      | else-first-ge0 w ↦ cc
    ]

pub returns-else-count-gt0 : goal.returns-else-count-gt0
returns-else-count-gt0 c =
    let f = to_z-of_z _ _ c.ranges.first in
    let g = to_z-of_z _ _ c.ranges.count in
    let no = c.if-count-gt0.false in
    let some = zero_no _ c.if-count-eq0.false in
    elim c.if-first-ge0.branch [
      | then-first-ge0 w ↦ no ∙ range_count _ _ _ some (rw g at (sym w.value-is ∙ no))
      | else-first-ge0 w ↦ no ∙ range-below _ _ _ some (rw f at w.if-first-ge0.false)
    ]
