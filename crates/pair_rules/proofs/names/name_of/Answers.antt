-- `name_of` is the part that was found, or nothing.
use Rattle.std.proofs.Common.{◌∙◌, arith}
use Rattle.text_runs.proofs.Parts.{part_none}
use Rattle.player_names.specs.Names.{part_at}
use Rattle.player_label.specs.Labels.{or_empty}
use Rattle.pair_rules.proofs.names.name_of.Goals as goal

pub returns-in-None : goal.returns-in-None
unfolding part_at or_empty
returns-in-None c = rw c.in-None.is (c.part.ensures ∙ part_none _ _ _ (omega arith))

pub returns-in-Some : goal.returns-in-Some
unfolding part_at or_empty
returns-in-Some c = rw c.in-Some.is c.part-in-Some.ensures
