-- `has_name` is whether the span is found.
use Rattle.std.proofs.Common.{◌≡◌, refl, ap, ◌∙◌, Option, Some, None}
use Rattle.std.specs.Option as std
use Rattle.parse_spec.specs.Fields.{is_some}
use Rattle.player_names.specs.declared.names.NameSpan.{NameSpan}
use Rattle.player_names.specs.Internal.Answers.{found}
use Rattle.pair_rules.proofs.names.has_name.Goals as goal

same_test : (r : Option NameSpan) → std.is_some r ≡ is_some (found r)
unfolding is_some
same_test None = refl
same_test (Some s) = refl

pub returns : goal.returns
returns c = c.is_some.ensures ∙ same_test c.figure_name.result ∙ ap is_some c.figure_name.ensures
