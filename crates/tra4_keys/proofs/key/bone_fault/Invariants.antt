-- `bone_fault` walks the channels: rule 15 over the bone and whatever follows is rule 15 from `at` on, over the counts that are left.
use Rattle.std.proofs.Common.{◌≡◌, List, ◌++◌, ℕ, ◌+◌, ◌*◌, ◌≤◌, length, drop}
use Rattle.tra4_keys.specs.Internal.Keys.{pair_counts, bone_counts, keys_from}
use Rattle.tra4_keys.proofs.key.bone_fault.Given as goal

abbrev pub invariant-loop-channel : goal.invariant-loop-channel
invariant-loop-channel l = record {
  within : l.at * 2 ≤ length l.keys;
  same : (more : List ℕ) → keys_from l.total l.keys l.row (bone_counts l.bone ++ more) ≡ keys_from l.total l.keys l.at (pair_counts (drop (l.channel * 2 + 2) l.bone) ++ more);
}
