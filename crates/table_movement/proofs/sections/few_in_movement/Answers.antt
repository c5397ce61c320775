-- `few_in_movement` is the definition, by rule 8's answer.
use Rattle.std.proofs.Common.{◌≡◌, ℕ, List, Result, Ok, Err, refl, ap, ◌∙◌}
use Rattle.std.specs.Result.{is_ok}
use Rattle.refusal.specs.declared.checked.Refusal.{Refusal}
use Rattle.refusal.specs.Faults.{is_clear}
use Rattle.refusal.specs.Rules.{too_many}
use Rattle.refusal.specs.Internal.Answers.{refusal}
use Rattle.table_counts.specs.Counts.{movement_mosts}
use Rattle.table_movement.specs.Sections.{few_in_movement}
use Rattle.table_movement.proofs.sections.few_in_movement.Goals as goal

ok-clear : {A : Type 0} (r : Result A Refusal) → is_ok r ≡ is_clear (refusal r)
unfolding is_clear
ok-clear (Ok a) = refl
ok-clear (Err e) = refl

pub returns : goal.returns
unfolding few_in_movement movement_mosts
returns c = c.is_ok.ensures.value ∙ ok-clear c.too_many.result ∙ ap is_clear (c.too_many.ensures ∙ ap (λ (l : List ℕ). too_many 0 l movement_mosts) c.rows.ensures)
