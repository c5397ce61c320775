-- `append_labels` puts a bone's line a turn.
use Rattle.player_label.specs.Labels.{label_in, or_empty}
use Rattle.report_lists.proofs.Turns.{Turn}
use Rattle.label_listing.specs.Lines.{label_parts}
use Rattle.label_listing.proofs.append_labels.Given as goal

abbrev pub invariant-loop-bone : goal.invariant-loop-bone
invariant-loop-bone l = Turn (λ bone. label_parts bone (or_empty (label_in l.figure l.n l.table l.movement l.m l.moves bone))) 283 0 l.n.bones l.filled l.initial.buf l.bone l.at l.buf
