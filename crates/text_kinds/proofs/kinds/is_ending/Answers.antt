-- `is_ending` compares the kind: one law for every such test.
use Rattle.std.proofs.Common.{refl}
use Rattle.text_tokens.specs.declared.token.Kind.TheVariants.{Ending}
use Rattle.text_kinds.specs.Kinds.{is_end}
use Rattle.text_kinds.proofs.KindTests.{by_kind}
use Rattle.text_kinds.proofs.kinds.is_ending.Goals as goal

pub returns : goal.returns
unfolding is_end
returns c = by_kind Ending is_end (record { bracket = refl; end_bracket = refl; string = λ bs. refl; word = λ bs. refl; end = refl }) _ _ c.eq.ensures
