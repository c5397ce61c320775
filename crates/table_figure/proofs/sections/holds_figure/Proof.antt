-- `holds_figure` says whether the sections end.
use Rattle.table_figure.proofs.Mosts.{figure-ended}
use borrow.Author.Rules.{rules}
use Rattle.table_figure.proofs.sections.holds_figure.Statement.{statement}
use Rattle.table_figure.proofs.sections.holds_figure.Tie as tie

figure-in-requires : tie.Need-figure_in-requires
figure-in-requires c κs = search rules

returns : tie.Need-returns
returns c = figure-ended _ _ _ c.figure_in.ensures

pub holds_figure_spec : {M : Type 1} → statement M
holds_figure_spec = tie.close (tie.spec figure-in-requires returns)
