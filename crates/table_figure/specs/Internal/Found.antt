-- A figure's sections as a lookup has them, in a table that holds what its counts say.
use Rattle.std.specs.Prelude.{◌≡◌, List, true, ℤ}
use Rattle.table_counts.specs.declared.counts.FigureCounts.{FigureCounts}
use Rattle.table_figure.specs.declared.sections.FigureSections.{FigureSections}
use Rattle.table_figure.specs.Sections.{holds_figure, figure_sections}

pub record Found (n : FigureCounts) (table : List ℤ) (s : FigureSections) : Type 0 where
  pub held : holds_figure n table ≡ true
  pub sections : s ≡ figure_sections n
