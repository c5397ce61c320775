-- `channel_sample` is its definition: a frame that cannot be asked for is refused, and else the pass over the keys is the answer.
use Rattle.std.proofs.Common.{◌≡◌, sym, ap, ◌∙◌, true}
use Rattle.std.proofs.Math.Option.{some}
use Rattle.std.proofs.lemmas.Int.{to_z-of_z}
use Rattle.player_spec.specs.Lookups.{is_asked}
use Rattle.player_spec.specs.Answers.{numbered}
use Rattle.player_channel.specs.Answers.{sampled}
use Rattle.player_channel.specs.Internal.Passing.{fraction, finished}
use Rattle.player_channel.proofs.Asked.{not_asked, played, key-rows}
use Rattle.player_channel.proofs.channel.channel_sample.Goals as goal
use Rattle.player_channel.proofs.channel.channel_sample.Goals.{Else-not-is_asked}

pub returns-then-not-is_asked : goal.returns-then-not-is_asked
unfolding numbered
returns-then-not-is_asked c = ap numbered (not_asked _ _ _ _ (sym (rw (to_z-of_z _ _ c.ranges.total) at c.is_asked.ensures) ∙ c.if-not-is_asked.true))

asked : (c : Else-not-is_asked) → is_asked c.args.total c.args.at ≡ true
asked c = sym (rw (to_z-of_z _ _ c.ranges.total) at c.is_asked.ensures) ∙ c.if-not-is_asked.false

pub pass_over-requires : goal.pass_over-requires
pass_over-requires c = rw (to_z-of_z _ _ c.ranges.total) (key-rows _ _ _ (asked (goal.at.pass_over-requires c).Else-not-is_asked))

pub returns-in_err-p : goal.returns-in_err-p
unfolding numbered finished
returns-in_err-p c =
    ap sampled c.from_residual.ensures
    ∙ ap numbered ((rw (to_z-of_z _ _ c.ranges.total) at c.in_err-p.ensures) ∙ played _ _ _ _ (asked (goal.at.returns-in_err-p c).Else-not-is_asked))

pub returns : goal.returns
unfolding numbered finished fraction
returns c = ap numbered (ap some c.value_of.ensures ∙ (rw (to_z-of_z _ _ c.ranges.total) at c.in_ok-p.ensures) ∙ played _ _ _ _ (asked (goal.at.returns c).Else-not-is_asked))
