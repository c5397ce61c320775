-- `same` is equality of bytes in order.
use Rattle.std.proofs.Common.{◌≡◌, ◌&&◌, ℕ, Bool, List, [], ◌∷◌, eqb, nat_eq, refl, ap, ◌∙◌}
use lib.Pointwise.{pointwise}
use Rattle.text_runs.specs.Runs.{same}
use Rattle.text_parts.proofs.slice.same.Goals as goal

pointwise-same : (a b : List ℕ) → pointwise nat_eq a b ≡ same a b
unfolding same
pointwise-same [] [] = refl
pointwise-same [] (y ∷ b) = refl
pointwise-same (x ∷ a) [] = refl
pointwise-same (x ∷ a) (y ∷ b) = ap (λ (v : Bool). eqb x y && v) (pointwise-same a b)

pub returns : goal.returns
returns c = c.eq.ensures ∙ pointwise-same c.args.a.now c.args.b.now
