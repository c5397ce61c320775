-- `is_closing` compares the kind: one law for every such test.
use Rattle.std.proofs.Common.{refl}
use Rattle.text_tokens.specs.declared.token.Kind.TheVariants.{Closing}
use Rattle.text_kinds.specs.Kinds.{is_closing}
use Rattle.text_kinds.proofs.KindTests.{by_kind}
use Rattle.text_kinds.proofs.kinds.is_closing.Goals as goal

pub returns : goal.returns
unfolding is_closing
returns c = by_kind Closing is_closing (record { bracket = refl; end_bracket = refl; string = λ bs. refl; word = λ bs. refl; end = refl }) _ _ c.eq.ensures
