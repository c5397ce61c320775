-- `common` hands on the odd number as the second, and the common factor is that of the two in either order.
use Rattle.std.proofs.Common.{sym, ◌∙◌}
use Rattle.player_fractions.proofs.Factors.{factor_swap}
use Rattle.player_fractions.proofs.Steps.{enough_by, odd_is, other_odd, common_even, common_odd}
use Rattle.player_channel.proofs.halving.common.Goals as goal

pub odd_factor-requires : goal.odd_factor-requires
odd_factor-requires c =
    let e = sym c.is_even.ensures ∙ c.if-is_even.true in
    (odd_is _ (other_odd _ _ c.requires.0 e), enough_by _ _ (sym (common_even _ _ _ e)) c.requires.1)

pub returns-then-is_even : goal.returns-then-is_even
returns-then-is_even c =
    let e = sym c.is_even.ensures ∙ c.if-is_even.true in
    (c.odd_factor.ensures.0, common_even _ _ _ e ∙ c.odd_factor.ensures.1)

pub odd_factor-requires-2 : goal.odd_factor-requires-2
odd_factor-requires-2 c =
    let e = sym c.is_even.ensures ∙ c.if-is_even.false in
    (odd_is _ e, enough_by _ _ (sym (common_odd _ _ _ e)) c.requires.1)

pub returns : goal.returns
returns c =
    let e = sym c.is_even.ensures ∙ c.if-is_even.false in
    (c.odd_factor-2.ensures.0 ∙ factor_swap _ _, common_odd _ _ _ e ∙ c.odd_factor-2.ensures.1)
