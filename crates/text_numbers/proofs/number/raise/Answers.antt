-- `raise` is the definition, by the sign of the exponent.
use Rattle.std.proofs.Common.{◌^◌, ℕ, ℤ, Bool, pos, nat_abs, refl, sym, ap, ◌∙◌}
use mir.Facts.{to_z-of_z}
use lib.Signed.{lt_z}
use Rattle.signed.proofs.Tests.{tested}
use Rattle.text_numbers.specs.Internal.Answers.{number_named}
use Rattle.text_numerals.proofs.Raised.{raised_up, raised_down, raised-part, power_some, product_below}
use Rattle.text_numbers.proofs.number.raise.Goals as goal

abbrev below : ℤ → Bool
below z = lt_z z (pos 0)

pub nonzero_rem-n : goal.nonzero_rem-n
nonzero_rem-n c = power_some _ _ c.pow-p.ensures

pub returns-then-n-p-ne0 : goal.returns-then-n-p-ne0
unfolding number_named
returns-then-n-p-ne0 c =
    let a = c.args in
    let n = c.magnitude-n.ensures ∙ ap nat_abs (to_z-of_z c.ranges.z) in
    let p = c.pow-p.ensures ∙ ap (λ (d : ℕ). 10 ^ d) (c.magnitude.ensures ∙ ap nat_abs (to_z-of_z c.ranges.e)) in
    sym (raised-part a.z a.e _ _ n p (tested below a.e c.ranges.e (sym c.if-e-lt0.true)) c.if-n-p-ne0.true)

pub nonzero_div-n : goal.nonzero_div-n
nonzero_div-n c = power_some _ _ c.pow-p.ensures

pub returns-then-e-lt0 : goal.returns-then-e-lt0
returns-then-e-lt0 c =
    let a = c.args in
    let n = c.magnitude-n.ensures ∙ ap nat_abs (to_z-of_z c.ranges.z) in
    let p = c.pow-p.ensures ∙ ap (λ (d : ℕ). 10 ^ d) (c.magnitude.ensures ∙ ap nat_abs (to_z-of_z c.ranges.e)) in
    c.in_range.ensures ∙ raised_down a.z a.e _ _ n p _ (tested below a.z c.ranges.z refl) (tested below a.e c.ranges.e (sym c.if-e-lt0.true)) c.if-n-p-ne0.false

pub overflow_mul-n : goal.overflow_mul-n
overflow_mul-n c =
    let n = c.magnitude-n.ensures ∙ ap nat_abs (to_z-of_z c.ranges.z) in
    let p = c.pow-p.ensures ∙ ap (λ (d : ℕ). 10 ^ d) (c.magnitude.ensures ∙ ap nat_abs (to_z-of_z c.ranges.e)) in
    record { fits = product_below _ _ (nat_abs c.args.e) (rw n c.requires.0) c.requires.1 p }

pub returns : goal.returns
returns c =
    let a = c.args in
    let n = c.magnitude-n.ensures ∙ ap nat_abs (to_z-of_z c.ranges.z) in
    let p = c.pow-p.ensures ∙ ap (λ (d : ℕ). 10 ^ d) (c.magnitude.ensures ∙ ap nat_abs (to_z-of_z c.ranges.e)) in
    c.in_range-2.ensures ∙ raised_up a.z a.e _ _ n p _ (tested below a.z c.ranges.z refl) (tested below a.e c.ranges.e (sym c.if-e-lt0.false))
