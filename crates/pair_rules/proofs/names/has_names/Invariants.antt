-- `has_names` is the definition: the loop carries what is left of the test over all bones.
use Rattle.std.proofs.Common.{◌≡◌}
use Rattle.parse_spec.specs.Fields.{is_some}
use Rattle.player_names.specs.Names.{figure_name}
use Rattle.player_label.specs.BoneNames.{names_in}
use Rattle.pair_rules.proofs.Turns.{named_left}
use Rattle.pair_rules.proofs.names.has_names.Given as goal

abbrev pub invariant-loop-row : goal.invariant-loop-row
invariant-loop-row l = is_some (names_in l.figure l.n l.table) ≡ named_left (figure_name l.figure l.n l.table) l.n.bones l.row
