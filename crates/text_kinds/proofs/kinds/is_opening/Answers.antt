-- `is_opening` compares the kind: one law for every such test.
use Rattle.std.proofs.Common.{refl}
use Rattle.text_tokens.specs.declared.token.Kind.TheVariants.{Opening}
use Rattle.text_kinds.specs.Kinds.{is_opening}
use Rattle.text_kinds.proofs.KindTests.{by_kind}
use Rattle.text_kinds.proofs.kinds.is_opening.Goals as goal

pub returns : goal.returns
unfolding is_opening
returns c = by_kind Opening is_opening (record { bracket = refl; end_bracket = refl; string = λ bs. refl; word = λ bs. refl; end = refl }) _ _ c.eq.ensures
