-- `key_fits` is the definition: a frame out of range fits nowhere, and any other by what may follow.
use Rattle.std.proofs.Common.{◌≡◌, refl, sym, ◌∙◌, true, rules}
use mir.Syntax.{w64}
use mir.Facts.{to_z-of_z}
use Rattle.tra4_text.specs.Rules.{is_frame, rises}
use Rattle.tra4_text.proofs.Zero.{zero_bits}
use Rattle.tra4_frames.specs.Internal.Frames.{before_of}
use Rattle.tra4_frames.proofs.channel.key_fits.Goals as goal

pub returns-in-None : goal.returns-in-None
unfolding before_of rises
returns-in-None c =
    let f = c.ranges in
    let e : is_frame c.args.total c.args.frame ≡ true = sym (rw (to_z-of_z f.total, to_z-of_z f.frame) at c.is_frame.ensures) ∙ c.if-is_frame.true in
    zero_bits _ f.frame ∙ rw (e, c.in-None.is)

pub returns-in-Some : goal.returns-in-Some
unfolding before_of rises
returns-in-Some c =
    let f = c.ranges in
    let e : is_frame c.args.total c.args.frame ≡ true = sym (rw (to_z-of_z f.total, to_z-of_z f.frame) at c.is_frame.ensures) ∙ c.if-is_frame.true in
    rw (e, c.in-Some.is, to_z-of_z f.frame, to_z-of_z {w = w64} {z = c.in-Some.earlier} (search rules)) refl
