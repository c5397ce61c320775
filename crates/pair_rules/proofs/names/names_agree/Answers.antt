-- `names_agree` is the definition, by the lengths.
use Rattle.std.proofs.Common.{sym, ◌∙◌}
use borrow.Author.Tests.{eqb-true, eqb-false}
use Rattle.pair_rules.proofs.BoneNames.{first_empty, second_empty, both_some}
use Rattle.pair_rules.proofs.names.names_agree.Goals as goal
use Rattle.pair_rules.proofs.names.names_agree.Goals.{then-is_empty-via-then-is_empty, then-is_empty-via-else-is_empty+then-is_empty-2}

pub returns-then-is_empty : goal.returns-then-is_empty
returns-then-is_empty c = elim c.then-is_empty.branch [
  | then-is_empty-via-then-is_empty w ↦ first_empty _ _ (eqb-true _ _ (sym c.is_empty.ensures ∙ w.if-is_empty.true))
  | then-is_empty-via-else-is_empty+then-is_empty-2 w ↦ second_empty _ _ (eqb-true _ _ (sym w.is_empty-else-is_empty.ensures ∙ w.if-is_empty-2.true))
]

pub returns : goal.returns
returns c = c.same.ensures ∙ both_some _ _ (eqb-false _ _ (sym c.is_empty.ensures ∙ c.if-is_empty.false)) (eqb-false _ _ (sym c.is_empty-else-is_empty.ensures ∙ c.if-is_empty-2.false))
