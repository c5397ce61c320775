-- Each step by the law of the test over all bones, once the table holds its counts.
use Rattle.std.proofs.Common.{◌≡◌, true, sym, ◌∙◌}
use Rattle.table_figure.specs.Sections.{holds_figure}
use Rattle.pair_rules.proofs.Turns.{named-all, named_more, named_none, named_end}
use Rattle.pair_rules.proofs.BoneNames.{unheld_names, held-names, figure_some}
use Rattle.pair_rules.proofs.names.has_names.Goals as goal
use Rattle.pair_rules.proofs.names.has_names.Goals.{Else-not-holds_figure}

held : (c : Else-not-holds_figure) → holds_figure c.args.n c.args.table.now ≡ true
held c = sym c.holds_figure.ensures ∙ c.if-not-holds_figure.false

pub returns-then-not-holds_figure : goal.returns-then-not-holds_figure
returns-then-not-holds_figure c = sym (unheld_names _ _ _ (sym c.holds_figure.ensures ∙ c.if-not-holds_figure.true))

pub loop-row-init : goal.loop-row-init
loop-row-init c = held-names _ _ _ (held (goal.at.loop-row-init c).Else-not-holds_figure) ∙ named-all _ _

pub returns-then-not-has_name : goal.returns-then-not-has_name
returns-then-not-has_name c =
    let h = held (goal.at.returns-then-not-has_name c).Else-not-holds_figure in
    sym (c.loop-row.invariant ∙ named_none _ _ _ c.loop-row-test.true (sym (figure_some _ _ _ h _ c.loop-row-test.true) ∙ sym c.has_name.ensures ∙ c.if-not-has_name.true))

pub loop-row-preserved : goal.loop-row-preserved
loop-row-preserved c =
    let h = held (goal.at.loop-row-preserved c).Else-not-holds_figure in
    c.loop-row.invariant ∙ named_more _ _ _ c.loop-row-test.true (sym (figure_some _ _ _ h _ c.loop-row-test.true) ∙ sym c.has_name.ensures ∙ c.if-not-has_name.false)

pub returns : goal.returns
returns c = sym (c.loop-row.invariant ∙ named_end _ _ _ c.loop-row-test.false)
