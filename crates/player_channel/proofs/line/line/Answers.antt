-- `line` is the sum over the frames between, in lowest terms.
use Rattle.std.proofs.Common.{◌≡◌, ap, sym, ◌∙◌, ◌-◌, ℤ, pos, ◌+ℤ◌, to_z, of_z, w64, arith}
use Rattle.std.specs.Prelude.{nat_abs, ◌*ℤ◌}
use Rattle.tra4_text.specs.Movement.{frame_of}
use Rattle.player_spec.specs.Fractions.{lowest}
use Rattle.player_spec.specs.Samples.{key_frame, key_value, line}
use Rattle.player_fractions.specs.Halving.{terms_left}
use Rattle.player_fractions.proofs.Sizes.{sum_small}
use Rattle.player_channel.proofs.Sizes.{sum_bits}
use Rattle.player_channel.proofs.line.line.Goals as goal
use Rattle.player_channel.proofs.line.line.Goals.{After-weighted}

-- the sum that was passed on
summed : (c : After-weighted) → let a = c.args in to_z w64 (of_z w64 c.weighted.result) ≡ a.v *ℤ pos (a.g - a.at) +ℤ a.w *ℤ pos (a.at - a.f)
summed c = let a = c.args in sum_bits a.v a.w (a.g - a.at) (a.at - a.f) c.requires.0 c.requires.1 (let h = c.requires in omega arith) _ c.ranges.v c.ranges.w c.weighted.ensures

pub lowest-requires : goal.lowest-requires
lowest-requires c =
    let a = c.args in
    let h = c.requires in
    (rw (summed (goal.at.lowest-requires c).After-weighted) (sum_small a.v a.w (a.g - a.at) (a.at - a.f) h.0 h.1 (omega arith)), omega arith, omega arith)

pub returns : goal.returns
unfolding line key_frame key_value frame_of
returns c =
    let d = c.args.g - c.args.f in
    let e = summed (goal.at.returns c).After-weighted in
    (c.lowest.ensures.0 ∙ ap (λ (z : ℤ). lowest z d) e, ap (λ (z : ℤ). terms_left 200 (nat_abs z) d) (sym e) ∙ c.lowest.ensures.1)
