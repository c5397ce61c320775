-- In a turn both are even and two steps are left; behind the loop they are not both even, and their common factor is odd.
use Rattle.std.proofs.Common.{sym, ◌∙◌, ◌<◌, arith}
use Rattle.player_fractions.proofs.Factors.{factor_some, terms_halves}
use Rattle.player_fractions.proofs.Steps.{enough_by, even_is, terms_last, terms_some, both_of, next_halves}
use Rattle.player_channel.proofs.halving.terms.Goals as goal
use Rattle.player_channel.proofs.halving.terms.Goals.{After-common-found}

pub overflow_sub-left : goal.overflow_sub-left
overflow_sub-left c = terms_some _ _ _ (sym c.both_even.ensures ∙ c.loop-left-test.true) (enough_by _ _ c.loop-left.invariant.3 c.requires.1)

pub loop-left-smaller : goal.loop-left-smaller
loop-left-smaller c =
    let h = terms_some _ _ _ (sym c.both_even.ensures ∙ c.loop-left-test.true) (enough_by _ _ c.loop-left.invariant.3 c.requires.1) in
    omega arith

pub loop-left-preserved : goal.loop-left-preserved
loop-left-preserved c =
    let i = c.loop-left.invariant in
    let both = sym c.both_even.ensures ∙ c.loop-left-test.true in
    let e = both_of _ _ both in
    let h = terms_halves _ _ (even_is _ e.0) (even_is _ e.1) in
    let z = even_is _ e.1 in
    (h.0 ∙ i.0, h.1 ∙ i.1, omega (arith, z, i.2), sym (next_halves _ _ _ both (enough_by _ _ i.3 c.requires.1)) ∙ i.3)

pub common-found-requires : goal.common-found-requires
common-found-requires c =
    let not-both = sym c.both_even.ensures ∙ c.loop-left-test.false in
    (not-both, enough_by _ _ (sym (terms_last _ _ _ not-both)) (enough_by _ _ c.loop-left.invariant.3 c.requires.1))

some-factor : (c : After-common-found) → 0 < c.common-found.result.factor
some-factor c = rw c.common-found.ensures.0 (factor_some _ _ c.loop-left.invariant.2)

pub nonzero_div-result : goal.nonzero_div-result
nonzero_div-result c = some-factor (goal.at.nonzero_div-result c).After-common-found

pub nonzero_div-result-2 : goal.nonzero_div-result-2
nonzero_div-result-2 c = some-factor (goal.at.nonzero_div-result-2 c).After-common-found

pub returns : goal.returns
returns c =
    let i = c.loop-left.invariant in
    let r = c.common-found.ensures in
    (rw r.0 i.0, rw r.0 i.1, sym i.3 ∙ terms_last _ _ _ (sym c.both_even.ensures ∙ c.loop-left-test.false) ∙ r.1)
