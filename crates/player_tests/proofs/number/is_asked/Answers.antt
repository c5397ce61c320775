-- `is_asked` is the definition, by its two bounds.
use Rattle.std.proofs.Common.{sym, ◌∙◌}
use Rattle.std.proofs.lemmas.Int.{to_z-of_z}
use Rattle.player_tests.proofs.Numbers.{asked_low, asked_high, asked_fine}
use Rattle.player_tests.proofs.number.is_asked.Goals as goal
use Rattle.player_tests.proofs.number.is_asked.Goals.{then-total-ge1, else-total-ge1}

pub returns-then-total-le32767 : goal.returns-then-total-le32767
returns-then-total-le32767 c =
    let f = to_z-of_z _ _ c.ranges.total in
    elim c.if-total-ge1.branch [
      | then-total-ge1 w ↦ rw f (asked_fine _ _ (rw f at w.if-total-ge1.true) (rw f at (sym w.value-is ∙ c.if-total-le32767.true)))
      | else-total-ge1 w ↦ cc
    ]

pub returns-else-total-le32767 : goal.returns-else-total-le32767
returns-else-total-le32767 c =
    let f = to_z-of_z _ _ c.ranges.total in
    let no = c.if-total-le32767.false in
    elim c.if-total-ge1.branch [
      | then-total-ge1 w ↦ no ∙ asked_high _ _ (rw f at w.if-total-ge1.true) (rw f at (sym w.value-is ∙ no))
      | else-total-ge1 w ↦ no ∙ asked_low _ _ (rw f at w.if-total-ge1.false)
    ]
