-- `figure_in` is the definition: past both tests the sections are those of the counts.
use mathlib.Core.Path.{◌≡◌, refl, ap, sym, ◌∙◌}
use mathlib.Core.Bool.{true}
use native.Mathlib.Omega.{arith}
use borrow.Author.Tests.{not-true, not-false}
use Rattle.table_figure.specs.declared.sections.FigureSections.{FigureSections}
use Rattle.table_figure.specs.Sections.{few_in_figure, figure_end, figure_sections}
use Rattle.table_figure.proofs.Mosts.{figure-within, figure-many, figure-short, figure_there}
use borrow.Author.Rules.{rules}
use Rattle.table_figure.proofs.sections.figure_in.Statement.{statement}
use Rattle.table_figure.proofs.sections.figure_in.Tie as tie

few : (e : tie.Else-not-few_in_figure) → few_in_figure e.args.n ≡ true
few e = sym e.few_in_figure.ensures ∙ not-false _ e.if-not-few_in_figure.false-raw

-- where the sections of the counts end
ends : (m : tie.After-figure_sections-s) → m.figure_sections-s.result.end ≡ figure_end m.args.n
ends m = ap (λ (s : FigureSections). s.end) m.figure_sections-s.ensures ∙ unfold figure_sections in refl

few-in-figure-requires : tie.Need-few_in_figure-requires
few-in-figure-requires c κs = search rules

no-figure-sections-requires : tie.Need-no_figure_sections-requires
no-figure-sections-requires c κs = search rules

returns : tie.Need-returns-then-not-few_in_figure
returns c = c.no_figure_sections.ensures ∙ figure-many _ _ (sym c.few_in_figure.ensures ∙ not-true _ c.if-not-few_in_figure.true-raw)

figure-sections-requires : tie.Need-figure_sections-s-requires
figure-sections-requires c κs = figure-within _ (few c)

no-figure-sections-requires-2 : tie.Need-no_figure_sections-requires-then-table-s
no-figure-sections-requires-2 c κs = search rules

returns-2 : tie.Need-returns-then-table-s
returns-2 c = (let h = c.if-table-s.true in let e = ends c.before.before.before in c.no_figure_sections-then-table-s.ensures ∙ figure-short _ _ (few c.before.before.before.before) (omega arith))

returns-3 : tie.Need-returns
returns-3 c = (let h = c.if-table-s.false in let e = ends c.before.before in c.figure_sections-s.ensures ∙ figure_there _ _ (few c.before.before.before) (omega arith))

pub figure_in_spec : {M : Type 1} → statement M
figure_in_spec = tie.close (tie.spec few-in-figure-requires no-figure-sections-requires returns figure-sections-requires no-figure-sections-requires-2 returns-2 returns-3)
