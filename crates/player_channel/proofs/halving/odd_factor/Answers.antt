-- In a turn a step is left; behind the loop the other number is the factor.
use Rattle.std.proofs.Common.{sym, ◌∙◌, ◌<◌, arith}
use Rattle.player_fractions.specs.Halving.{odd_left, Enough}
use Rattle.player_fractions.proofs.Factors.{factor-zero, factor_half, factor_less, factor-rest}
use Rattle.player_fractions.proofs.Steps.{enough_by, even_is, odd_is, none_done, odd_some, next_even, next_less, next_more}
use Rattle.player_channel.proofs.halving.odd_factor.Goals as goal
use Rattle.player_channel.proofs.halving.odd_factor.Goals.{In-loop-x}

module _ (c : In-loop-x) where
  enough : let l = c.loop-x in Enough (odd_left l.left l.x l.odd)
  enough = enough_by _ _ c.loop-x.invariant.2 c.requires.1

  one_left : 0 < c.loop-x.left
  one_left = odd_some _ _ _ c.loop-x-test.true enough

pub overflow_sub-left : goal.overflow_sub-left
overflow_sub-left c = one_left (goal.at.overflow_sub-left c).In-loop-x

pub loop-x-smaller-then-is_even : goal.loop-x-smaller-then-is_even
loop-x-smaller-then-is_even c = let h = one_left (goal.at.loop-x-smaller-then-is_even c).In-loop-x in omega arith

pub loop-x-preserved-then-is_even : goal.loop-x-preserved-then-is_even
loop-x-preserved-then-is_even c =
    let t = (goal.at.loop-x-preserved-then-is_even c).In-loop-x in
    let i = c.loop-x.invariant in
    let e = sym c.is_even.ensures ∙ c.if-is_even.true in
    (factor_half _ _ (even_is _ e) i.1 ∙ i.0, i.1, sym (next_even _ _ _ c.loop-x-test.true (enough t) e) ∙ i.2)

pub loop-x-smaller-then-x-odd : goal.loop-x-smaller-then-x-odd
loop-x-smaller-then-x-odd c = let h = one_left (goal.at.loop-x-smaller-then-x-odd c).In-loop-x in omega arith

pub loop-x-preserved-then-x-odd : goal.loop-x-preserved-then-x-odd
loop-x-preserved-then-x-odd c =
    let t = (goal.at.loop-x-preserved-then-x-odd c).In-loop-x in
    let i = c.loop-x.invariant in
    let e = sym c.is_even.ensures ∙ c.if-is_even.false in
    let h = c.if-x-odd.true in
    (factor_less _ _ (omega arith) ∙ i.0, odd_is _ e, sym (next_less _ _ _ c.loop-x-test.true (enough t) e h) ∙ i.2)

pub loop-x-smaller : goal.loop-x-smaller
loop-x-smaller c = let h = one_left (goal.at.loop-x-smaller c).In-loop-x in omega arith

pub loop-x-preserved : goal.loop-x-preserved
loop-x-preserved c =
    let t = (goal.at.loop-x-preserved c).In-loop-x in
    let i = c.loop-x.invariant in
    let e = sym c.is_even.ensures ∙ c.if-is_even.false in
    (factor-rest _ _ c.if-x-odd.false ∙ i.0, i.1, sym (next_more _ _ _ c.loop-x-test.true (enough t) e c.if-x-odd.false) ∙ i.2)

pub returns : goal.returns
returns c =
    let l = c.loop-x in
    (rw c.loop-x-test.false (factor-zero l.odd) ∙ l.invariant.0, sym l.invariant.2 ∙ none_done _ _ _ c.loop-x-test.false)
