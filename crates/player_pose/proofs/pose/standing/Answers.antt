-- `standing` is the definition: the code's table is the pose, and past it both are 0.
use Rattle.std.proofs.Common.{rules}
use Rattle.player_spec.specs.Samples.{pose, standing}
use Rattle.player_pose.proofs.Channels.{no_channel}
use Rattle.player_pose.proofs.pose.standing.Goals as goal

pub returns-then-channel-lt10 : goal.returns-then-channel-lt10
unfolding standing pose
returns-then-channel-lt10 c = search rules

pub returns-else-channel-lt10 : goal.returns-else-channel-lt10
returns-else-channel-lt10 c = no_channel _ c.if-channel-lt10.false
