-- `channel_chunks` reads chunks turn by turn, by the laws of a turn.
use Rattle.std.proofs.Common.{refl, sym, ◌∙◌, arith}
use Rattle.std.proofs.lemmas.Result.{err_from_is_err_and}
use Rattle.text_bytes.specs.Bytes.{bytes}
use Rattle.tra4_channels.proofs.Turns.{between_start, channels_off, channels_end, channel-left, channel-sizes, channel_stop, channel_on}
use Rattle.tra4_channels.proofs.channel.channel_chunks.Goals as goal

pub loop-kind-init : goal.loop-kind-init
loop-kind-init c = record { between = between_start _ _ _ _ _ refl c.requires.0 c.requires.1; flags = refl; ranges_long = refl; keys_long = refl }

pub returns-in_err-kind : goal.returns-in_err-kind
unfolding bytes
returns-in_err-kind c =
    let p = err_from_is_err_and c.from_residual.result c.from_residual.ensures.1 in
    rw (p.1, p.2) (channels_off _ _ _ _ _ _ _ _ c.loop-kind.invariant.between (sym c.in_err-kind.ensures.kind_value))

pub returns-in_default : goal.returns-in_default
unfolding bytes
returns-in_default c = channels_end _ _ _ _ _ _ _ _ c.loop-kind.invariant.between _ _ c.in_ok-kind.ensures.kind_value c.in_default.is

pub channel_keys-requires : goal.channel_keys-requires
unfolding bytes
channel_keys-requires c = channel-sizes _ _ _ _ _ _ _ _ c.loop-kind.invariant.between _ _ c.in_ok-kind.ensures.kind_value c.in-Some.k c.in-Some.is

pub returns-in_err-n : goal.returns-in_err-n
unfolding bytes
returns-in_err-n c =
    let p = err_from_is_err_and c.from_residual-in_err-n.result c.from_residual-in_err-n.ensures.1 in
    rw (p.1, p.2) (channel_stop _ _ _ _ _ _ _ _ c.loop-kind.invariant.between _ _ c.in_ok-kind.ensures.kind_value c.in-Some.k c.in-Some.is _ (c.args.ranges.now, c.args.keys.now) (rw c.in_err-n.was at c.channel_keys.ensures))

pub overflow_sub-left : goal.overflow_sub-left
unfolding bytes
overflow_sub-left c = omega (arith, channel-left _ _ _ _ _ _ _ _ c.loop-kind.invariant.between _ _ c.in_ok-kind.ensures.kind_value c.in-Some.k c.in-Some.is)

pub loop-kind-smaller : goal.loop-kind-smaller
unfolding bytes
loop-kind-smaller c = omega (arith, channel-left _ _ _ _ _ _ _ _ c.loop-kind.invariant.between _ _ c.in_ok-kind.ensures.kind_value c.in-Some.k c.in-Some.is)

pub loop-kind-preserved : goal.loop-kind-preserved
unfolding bytes
loop-kind-preserved c =
    let l = c.loop-kind.invariant in
    record {
      between = channel_on _ _ _ _ _ _ _ _ c.loop-kind.invariant.between _ _ c.in_ok-kind.ensures.kind_value c.in-Some.k c.in-Some.is _ _ _ _ (rw c.in_ok-n.was at c.channel_keys.ensures) _ (rw c.in-Some.is at c.in_ok-kind.ensures.seen_after);
      flags = c.next_chunk.auto.seen ∙ l.flags;
      ranges_long = c.channel_keys.auto.ranges ∙ l.ranges_long;
      keys_long = c.channel_keys.auto.keys ∙ l.keys_long;
    }
