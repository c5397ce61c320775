-- `names_fault` is the definition: the loop carries what is left of the rows.
use Rattle.std.proofs.Common.{◌≡◌}
use Rattle.player_names.specs.Names.{figure_name, movement_name}
use Rattle.pair_text.specs.Rules.{names_fault}
use Rattle.player_label.specs.BoneNames.{names_from}
use Rattle.pair_rules.proofs.Turns.{fault_left}
use Rattle.pair_rules.proofs.names.names_fault.Given as goal

abbrev pub invariant-loop-row : goal.invariant-loop-row
invariant-loop-row l = record {
  bones : l.bones ≡ l.n.bones;
  left : names_fault 0 (names_from (figure_name l.figure l.n l.table) 0 l.n.bones) (names_from (movement_name l.movement l.moves) 0 l.m.bones) ≡ fault_left (figure_name l.figure l.n l.table) (movement_name l.movement l.moves) l.bones l.row;
}
