-- `keys_fault` walks the bones: rule 15 is rule 15 from key row `row` on, over the counts of the bone rows from `i` on.
use Rattle.std.proofs.Common.{◌≡◌, ◌-◌, ◌*◌, ◌≤◌, length, drop}
use Rattle.tra4_text.specs.Rules.{keys_fault}
use Rattle.tra4_keys.specs.Internal.Keys.{key_counts, channels_in, keys_from}
use Rattle.tra4_keys.proofs.key.keys_fault.Given as goal

abbrev pub invariant-loop-i : goal.invariant-loop-i
invariant-loop-i l = record {
  within : l.row * 2 ≤ length l.keys;
  same : keys_fault l.total 0 (channels_in l.bone_count l.bones l.keys) ≡ keys_from l.total l.keys l.row (key_counts (l.bone_count - l.i) (drop (l.i * 22) l.bones));
}
