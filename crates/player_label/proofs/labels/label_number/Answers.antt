-- `label_number` is 21 where `find` refuses, else 0.
use Rattle.player_spec.specs.Answers.{numbered}
use Rattle.player_label.proofs.labels.label_number.Goals as goal

pub returns-in-Some : goal.returns-in-Some
unfolding numbered
returns-in-Some c = rw (← c.in-Some.ensures)

pub returns-in-None : goal.returns-in-None
unfolding numbered
returns-in-None c = rw (← c.in-None.ensures)
