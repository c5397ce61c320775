-- `is_plain` compares the kind: one law for every such test.
use Rattle.std.proofs.Common.{refl}
use Rattle.text_tokens.specs.declared.token.Kind.TheVariants.{Plain}
use Rattle.text_kinds.specs.Internal.Kinds.{is_plain}
use Rattle.text_kinds.proofs.KindTests.{by_kind}
use Rattle.text_kinds.proofs.kinds.is_plain.Goals as goal

pub returns : goal.returns
unfolding is_plain
returns c = by_kind Plain is_plain (record { bracket = refl; end_bracket = refl; string = λ bs. refl; word = λ bs. refl; end = refl }) _ _ c.eq.ensures
