-- Each step by the law of a walk over a channel's keys.
use Rattle.std.proofs.Common.{◌≡◌, ◌+◌, ◌-◌, ◌*◌, suc, pos, slice_index_or, true, false, ◌&&◌, sym, ◌∙◌, arith, rules}
use mir.Syntax.{w64}
use mir.Facts.{to_z-of_z}
use Rattle.tra4_text.specs.Rules.{is_frame, rises}
use Rattle.tra4_frames.specs.Internal.Frames.{before_of}
use Rattle.tra4_frames.proofs.Frames.{walk_start, walk_over, walk_passed, walk_found}
use Rattle.tra4_frames.proofs.channel.channel_fault.Goals as goal

pub loop-i-init : goal.loop-i-init
unfolding before_of
loop-i-init c = walk_start _ _ _ _

pub returns-then-not-key_fits : goal.returns-then-not-key_fits
returns-then-not-key_fits c =
    let a = c.args in
    let i = c.loop-i.i in
    let f = slice_index_or a.keys.now (i * 2) (pos 0) in
    let e : (is_frame a.total f && rises (before_of c.loop-i.before) f) ≡ false = sym (rw (to_z-of_z c.ranges.total, to_z-of_z {w = w64} {z = f} (search rules)) at c.key_fits.ensures) ∙ c.if-not-key_fits.true in
    let n : a.end - a.row - i ≡ suc (a.end - a.row - (i + 1)) = omega arith in
    sym (rw (to_z-of_z c.ranges.total) at c.loop-i.invariant ∙ rw n (walk_found _ _ _ _ _ _ (omega arith) e))

pub loop-i-preserved : goal.loop-i-preserved
unfolding before_of
loop-i-preserved c =
    let a = c.args in
    let i = c.loop-i.i in
    let f = slice_index_or a.keys.now (i * 2) (pos 0) in
    let e : (is_frame a.total f && rises (before_of c.loop-i.before) f) ≡ true = sym (rw (to_z-of_z c.ranges.total, to_z-of_z {w = w64} {z = f} (search rules)) at c.key_fits.ensures) ∙ c.if-not-key_fits.false in
    let n : a.end - a.row - i ≡ suc (a.end - a.row - (i + 1)) = omega arith in
    let s : a.row + (i + 1) ≡ suc (a.row + i) = omega arith in
    let b : (i + 1) * 2 ≡ i * 2 + 2 = omega arith in
    rw (to_z-of_z c.ranges.total, to_z-of_z {w = w64} {z = f} (search rules)) (rw (to_z-of_z c.ranges.total) at c.loop-i.invariant ∙ rw (n, s, b) (walk_passed _ _ _ _ _ _ (omega arith) e))

pub returns : goal.returns
returns c = sym (rw (to_z-of_z c.ranges.total) at c.loop-i.invariant ∙ walk_over _ _ _ _ _ _ (λ h. omega arith))
