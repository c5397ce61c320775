-- A table without an end is none that holds.
use Rattle.table_figure.proofs.Founds.{found}
use Rattle.table_figure.proofs.Mosts.{figure_none}
use Rattle.player_face_tests.proofs.figure.Figure.of.Goals as goal

pub returns-then-sections-eq0 : goal.returns-then-sections-eq0
returns-then-sections-eq0 c = figure_none _ _ _ c.figure_in-sections.ensures c.if-sections-eq0.true

pub invariant_of-result : goal.invariant_of-result
invariant_of-result c = record { found = found _ _ _ c.figure_in-sections.ensures c.if-sections-eq0.false }
