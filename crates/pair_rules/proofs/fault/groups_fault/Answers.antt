-- Each step by the law of the lines that are left.
use Rattle.std.proofs.Common.{ap, sym, ◌∙◌}
use mir.Syntax.{w64}
use mir.Facts.{to_z-of_z}
use Rattle.table_references.specs.References.{is_row}
use Rattle.pair_rules.proofs.Turns.{lines_all, lines_more, lines_bad, lines_end}
use Rattle.pair_rules.proofs.fault.groups_fault.Goals as goal

pub loop-row-init : goal.loop-row-init
loop-row-init c = lines_all _ _ _

pub returns-then-not-is_row : goal.returns-then-not-is_row
returns-then-not-is_row c = sym (c.loop-row.invariant ∙ lines_bad _ _ _ _ c.loop-row-test.true (sym (c.is_row.ensures ∙ ap (is_row _) (to_z-of_z {w = w64} (record { sfits = c.group-1.given }))) ∙ c.if-not-is_row.true))

pub loop-row-preserved : goal.loop-row-preserved
loop-row-preserved c = c.loop-row.invariant ∙ lines_more _ _ _ _ c.loop-row-test.true (sym (c.is_row.ensures ∙ ap (is_row _) (to_z-of_z {w = w64} (record { sfits = c.group-1.given }))) ∙ c.if-not-is_row.false)

pub returns : goal.returns
returns c = sym (c.loop-row.invariant ∙ lines_end _ _ _ _ c.loop-row-test.false)
