-- Between two chunks the tables stand for the channels that have been read, and from those the rest is read.
use Rattle.std.proofs.Common.{◌≡◌, length}
use Rattle.tra4_channels.proofs.Turns.{Between}
use Rattle.tra4_channels.proofs.channel.channel_chunks.Given as goal

abbrev pub invariant-loop-kind : goal.invariant-loop-kind
invariant-loop-kind l = record {
  between : Between l.text l.at l.left l.d l.seen l.ranges l.keys l.count;
  flags : length l.seen ≡ 10;
  ranges_long : length l.ranges ≡ length l.initial.ranges;
  keys_long : length l.keys ≡ length l.initial.keys;
}

abbrev pub decreases-loop-kind : goal.decreases-loop-kind
decreases-loop-kind l = l.left
