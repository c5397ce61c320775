-- Each channel by the law of one step.
use Rattle.std.proofs.Common.{◌+◌, ◌*◌, pos, slice_index_or, refl, ◌∙◌, arith, rules}
use Rattle.std.proofs.lemmas.Result.{err_from_is_err_and}
use mir.Syntax.{w64}
use mir.Facts.{to_z-of_z}
use Rattle.refusal.proofs.Rules.{refused_by, clear_by, or-clear, or-fault}
use Rattle.tra4_keys.specs.Internal.Keys.{Walked}
use Rattle.tra4_keys.proofs.Keys.{pairs_last, bone-counts, channel_step}
use Rattle.tra4_keys.proofs.key.bone_fault.Goals as goal

pub loop-channel-init : goal.loop-channel-init
loop-channel-init c = record { within = c.requires.1; same = λ more. rw bone-counts refl }

pub returns-in_err-channel_fault : goal.returns-in_err-channel_fault
unfolding Walked
returns-in_err-channel_fault c =
    let a = c.args in
    let f = slice_index_or a.bone.now (c.loop-channel.channel * 2 + 3) (pos 0) in
    let e = rw (to_z-of_z {w = w64} {z = f} (search rules)) at c.rows_within-count.ensures in
    let told = rw (to_z-of_z c.ranges.total) at c.channel_fault.ensures in
    let p = err_from_is_err_and c.from_residual.result c.from_residual.ensures.1 in
    rw (p.1, p.2) (λ more. channel_step _ _ _ _ _ _ _ _ more (rw (to_z-of_z c.ranges.total) at (c.loop-channel.invariant.same more)) (omega arith) c.loop-channel.invariant.within e told ∙ or-fault _ (refused_by refl c.in_err-channel_fault.was))

pub loop-channel-preserved : goal.loop-channel-preserved
loop-channel-preserved c =
    let a = c.args in
    let f = slice_index_or a.bone.now (c.loop-channel.channel * 2 + 3) (pos 0) in
    let e = rw (to_z-of_z {w = w64} {z = f} (search rules)) at c.rows_within-count.ensures in
    let told = rw (to_z-of_z c.ranges.total) at c.channel_fault.ensures in
    record {
      within = omega arith;
      same = λ more. rw (to_z-of_z c.ranges.total) (channel_step _ _ _ _ _ _ _ _ more (rw (to_z-of_z c.ranges.total) at (c.loop-channel.invariant.same more)) (omega arith) c.loop-channel.invariant.within e told ∙ or-clear _ (clear_by refl c.in_ok-channel_fault.was));
    }

pub returns : goal.returns
unfolding Walked
returns c =
    (c.loop-channel.invariant.within, λ more. rw (to_z-of_z c.ranges.total) at (c.loop-channel.invariant.same more) ∙ rw (pairs_last (c.loop-channel.channel * 2 + 2) c.args.bone.now (omega arith)))
