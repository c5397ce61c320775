-- `label` is the part that `find` names, and an empty one where it names none.
use Rattle.std.proofs.Common.{◌≡◌, refl, ap, ◌∙◌, ℕ, List, [], Option, Some, None, unwrap_or, Bor}
use Rattle.player_label.specs.Labels.{or_empty}
use Rattle.player_label.specs.Internal.Answers.{named}
use Rattle.player_label.proofs.labels.label.Goals as goal

or_nothing : (o : Option (Bor (List ℕ))) (e : Bor (List ℕ)) → e.now ≡ [] → (unwrap_or o e).now ≡ or_empty (named o)
unfolding or_empty
or_nothing None e h = h
or_nothing (Some t) e h = refl

pub returns : goal.returns
returns c = ap (λ (t : Bor (List ℕ)). t.now) c.unwrap_or.ensures ∙ or_nothing c.find.result _ refl ∙ ap or_empty c.find.ensures
