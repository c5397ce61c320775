-- `lay_keys` is the definition, each range by the law of what is left.
use Rattle.std.proofs.Common.{◌+◌, ◌*◌, ◌<◌, ◌≤◌, length, ◌∙◌, arith}
use Rattle.tra4_bone.proofs.Ranges.{left-all, left_next, left-numbers, left-content, range-here, next_small}
use Rattle.tra4_bone.proofs.laying.lay_keys.Goals as goal

pub loop-k-init : goal.loop-k-init
loop-k-init c = left-all _ _ _ _ c.requires.1 c.requires.3

pub lay_range-next-requires : goal.lay_range-next-requires
lay_range-next-requires c =
    let l = c.loop-k in
    let w = l.invariant.width ∙ c.requires.0 in
    let b : l.k * 2 + 1 < length l.ranges = omega arith in
    (b, range-here _ _ _ _ _ _ _ _ l.invariant b, c.requires.2, next_small _ _ _ _ _ _ _ _ l.invariant b)

pub loop-k-preserved : goal.loop-k-preserved
loop-k-preserved c =
    let l = c.loop-k in
    let w = l.invariant.width ∙ c.requires.0 in
    let e = c.lay_range-next.ensures in
    let b : l.k * 2 + 1 < length l.ranges = omega arith in
    left_next _ _ _ _ _ _ _ _ l.invariant b c.requires.2 _ _ _ _ (omega arith) e.number e.content e.next

pub returns : goal.returns
returns c =
    let l = c.loop-k in
    let w = l.invariant.width ∙ c.requires.0 in
    let e : length l.ranges ≤ l.k * 2 = omega arith in
    record { numbers = left-numbers _ _ _ _ _ _ _ _ l.invariant e; content = left-content _ _ _ _ _ _ _ _ l.invariant e }
