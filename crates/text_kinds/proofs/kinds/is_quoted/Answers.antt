-- `is_quoted` compares the kind: one law for every such test.
use Rattle.std.proofs.Common.{refl}
use Rattle.text_tokens.specs.declared.token.Kind.TheVariants.{Quoted}
use Rattle.text_kinds.specs.Internal.Kinds.{is_quoted}
use Rattle.text_kinds.proofs.KindTests.{by_kind}
use Rattle.text_kinds.proofs.kinds.is_quoted.Goals as goal

pub returns : goal.returns
unfolding is_quoted
returns c = by_kind Quoted is_quoted (record { bracket = refl; end_bracket = refl; string = λ bs. refl; word = λ bs. refl; end = refl }) _ _ c.eq.ensures
