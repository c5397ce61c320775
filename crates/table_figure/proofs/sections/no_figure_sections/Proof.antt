-- `no_figure_sections` gives zeros, by computation.
use mathlib.Core.Path.{refl}
use Rattle.table_figure.specs.Sections.{no_figure_sections}
use Rattle.table_figure.proofs.sections.no_figure_sections.Statement.{statement}
use Rattle.table_figure.proofs.sections.no_figure_sections.Tie as tie

returns : tie.Need-returns
unfolding no_figure_sections
returns c = refl

pub no_figure_sections_spec : {M : Type 1} → statement M
no_figure_sections_spec = tie.close (tie.spec returns)
