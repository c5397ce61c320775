-- `lowest` is the definition, by the number's sign.
use Rattle.std.proofs.Common.{◌≡◌, ap, sym, ◌∙◌, ℕ}
use Rattle.std.specs.Prelude.{nat_abs}
use Rattle.std.proofs.Math.Option.{some}
use Rattle.std.proofs.lemmas.Int.{to_z-of_z}
use Rattle.player_channel.specs.Internal.Answers.{ratio}
use Rattle.player_fractions.specs.Halving.{terms_left}
use Rattle.player_fractions.proofs.Steps.{enough_200}
use Rattle.player_channel.proofs.Terms.{terms_fit, negated_fits, negative_terms, natural_terms}
use Rattle.player_channel.proofs.fraction.lowest.Goals as goal
use Rattle.player_channel.proofs.fraction.lowest.Goals.{After-magnitude-size, After-terms-t}

sized : (c : After-magnitude-size) → c.magnitude-size.result ≡ nat_abs c.args.z
sized c = rw (to_z-of_z _ _ c.ranges.z) at c.magnitude-size.ensures

pub terms-t-requires : goal.terms-t-requires
terms-t-requires c =
    let m = (goal.at.terms-t-requires c).After-magnitude-size in
    (c.requires.1, enough_200 _ _ (rw (sized m) c.requires.0) c.requires.1 c.requires.2)

-- what is left of the steps
left_is : (c : After-terms-t) → c.magnitude-size.result ≡ nat_abs c.args.z → terms_left 200 (nat_abs c.args.z) c.args.d ≡ some c.terms-t.result.left
left_is c e = ap (λ (n : ℕ). terms_left 200 n c.args.d) (sym e) ∙ c.terms-t.ensures.2

pub overflow_cast-result : goal.overflow_cast-result
overflow_cast-result c = let t = c.terms-t.ensures in terms_fit _ _ _ _ _ c.ranges.z c.requires.0 c.magnitude-size.ensures t.0 t.1

pub overflow_sub-result : goal.overflow_sub-result
overflow_sub-result c = let t = c.terms-t.ensures in negated_fits _ _ _ _ _ c.ranges.z c.requires.0 c.magnitude-size.ensures t.0 t.1

pub returns-then-z-lt0 : goal.returns-then-z-lt0
unfolding ratio
returns-then-z-lt0 c =
    let g = goal.at.returns-then-z-lt0 c in
    let t = c.terms-t.ensures in
    (negative_terms _ _ _ _ _ c.ranges.z c.requires.0 c.magnitude-size.ensures t.0 t.1 c.if-z-lt0.true, left_is g.After-terms-t (sized g.After-magnitude-size))

pub overflow_cast-result-2 : goal.overflow_cast-result-2
overflow_cast-result-2 c = let t = c.terms-t.ensures in terms_fit _ _ _ _ _ c.ranges.z c.requires.0 c.magnitude-size.ensures t.0 t.1

pub returns : goal.returns
unfolding ratio
returns c =
    let g = goal.at.returns c in
    let t = c.terms-t.ensures in
    (natural_terms _ _ _ _ _ c.ranges.z c.requires.0 c.magnitude-size.ensures t.0 t.1 c.if-z-lt0.false, left_is g.After-terms-t (sized g.After-magnitude-size))
