-- `set_bone` lays a bone's keys and its row, or tells that there are too many keys, by the law of each end.
use Rattle.std.proofs.Common.{arith}
use Rattle.signed.proofs.Signed.{bits_pos}
use Rattle.tra4_bone.proofs.Gathered.{held_ranged, held-total}
use Rattle.tra4_bone.proofs.Keeping.{set-over, set_beyond, set-laid}
use Rattle.tra4_bone.proofs.bone.set_bone.Goals as goal

pub returns-in_err-n : goal.returns-in_err-n
returns-in_err-n c = λ fs h. rw c.from_residual.ensures (set-over _ _ _ _ _ _ fs _ _ _ (rw c.in_err-n.was at h) _ _)

pub overflow_sub-n : goal.overflow_sub-n
overflow_sub-n c = (rw c.in_ok-n.was at c.requires.0.1).most

pub returns-then-n-count : goal.returns-then-n-count
returns-then-n-count c = λ fs h. set_beyond _ _ _ _ _ _ fs _ _ _ (rw c.in_ok-n.was at h) c.if-n-count.true _ _

pub lay_keys-requires : goal.lay_keys-requires
lay_keys-requires c =
    let a = c.requires in
    let h = rw c.in_ok-n.was at a.0.1 in
    (h.width, (held_ranged a.0.0 _ _ _ h).within, h.room, omega (arith, held-total a.0.0 _ _ _ h, c.if-n-count.false, h.most))

pub returns : goal.returns
returns c =
    let l = c.lay_keys.ensures in
    λ fs h. set-laid _ _ _ _ _ _ fs _ _ _ (rw c.in_ok-n.was at h) c.if-n-count.false _ _ _ _ _ _ _ (bits_pos c.args.name.place c.requires.1) (bits_pos c.args.name.length c.requires.2) c.store.ensures c.advance.ensures l.numbers c.store-2.ensures l.content
