-- `line_fine` is the definition, by its tests one after the other.
use Rattle.std.proofs.Common.{sym, ◌∙◌}
use Rattle.std.proofs.lemmas.Int.{to_z-of_z}
use Rattle.player_patterns.proofs.Lines.{pattern_bad, group_bad, by_flag}
use Rattle.player_patterns.proofs.line.line_fine.Goals as goal
use Rattle.player_patterns.proofs.line.line_fine.Goals.{then-pattern_fits, else-pattern_fits}

pub returns-then-is_row : goal.returns-then-is_row
returns-then-is_row c =
    let r = c.ranges in
    let g = to_z-of_z _ _ r.g in
    elim c.if-pattern_fits.branch [
      | then-pattern_fits w ↦
          (rw (to_z-of_z _ _ r.flag) at c.is_row-then-is_row.ensures)
          ∙ by_flag _ _ _ _ _ (sym (rw (to_z-of_z _ _ r.total, to_z-of_z _ _ r.f, g) at (w.if-pattern_fits.ensures c.args.flag))) (sym (rw g at w.is_row.ensures) ∙ sym w.value-is ∙ c.if-is_row.true)
      | else-pattern_fits w ↦ cc
    ]

pub returns-else-is_row : goal.returns-else-is_row
returns-else-is_row c =
    let r = c.ranges in
    let g = to_z-of_z _ _ r.g in
    elim c.if-pattern_fits.branch [
      | then-pattern_fits w ↦
          c.if-is_row.false
          ∙ group_bad _ _ _ _ _ (sym (rw (to_z-of_z _ _ r.total, to_z-of_z _ _ r.f, g) at (w.if-pattern_fits.ensures c.args.flag))) (sym (rw g at w.is_row.ensures) ∙ sym w.value-is ∙ c.if-is_row.false)
      | else-pattern_fits w ↦
          c.if-is_row.false ∙ pattern_bad _ _ _ _ _ (sym (rw (to_z-of_z _ _ r.total, to_z-of_z _ _ r.f, g) at (w.if-pattern_fits.ensures c.args.flag)))
    ]
