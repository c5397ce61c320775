-- `find` is the label: each name's span, and the movement's where it is not empty.
use Rattle.std.proofs.Common.{ap, ◌∙◌}
use Rattle.std.proofs.Math.Option.{some}
use Rattle.player_label.specs.Internal.Answers.{named}
use Rattle.player_label.proofs.Chosen.{no_figure-name, no_movement-name, by_figure, by_movement}
use Rattle.player_label.proofs.labels.find.Goals as goal

pub returns-in_err-f : goal.returns-in_err-f
returns-in_err-f c = ap named c.from_residual.ensures ∙ no_figure-name _ _ _ _ _ _ _ c.in_err-f.ensures

pub returns-in_err-v : goal.returns-in_err-v
returns-in_err-v c = ap named c.from_residual-in_err-v.ensures ∙ no_movement-name _ _ _ _ _ _ _ c.in_err-v.ensures

pub returns-then-v : goal.returns-then-v
returns-then-v c = ap some c.part.ensures ∙ by_movement _ _ _ _ _ _ _ _ _ _ _ c.in_ok-f.ensures c.in_ok-v.ensures c.if-v.true

pub returns : goal.returns
returns c = ap some c.part-2.ensures ∙ by_figure _ _ _ _ _ _ _ _ _ _ _ c.in_ok-f.ensures c.in_ok-v.ensures c.if-v.false
