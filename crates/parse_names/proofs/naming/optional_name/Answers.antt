-- `optional_name` goes by whether the chunk stands.
use mathlib.Core.Path.{sym, ◌∙◌}
use Rattle.text_bytes.specs.Bytes.{bytes}
use Rattle.parse_cursor.proofs.Steps.{from-same, parsed_exit}
use Rattle.parse_cursor.proofs.Branches.{optional_yes, optional_no, optional_off}
use Rattle.parse_names.proofs.NameSteps.{optional_name_parts}
use Rattle.parse_names.proofs.naming.optional_name.Goals as goal

pub returns-in_err-present : goal.returns-in_err-present
unfolding bytes
returns-in_err-present c =
    parsed_exit _ _ _ _ c.from_residual.ensures.1
    (from-same _ _ _ _ optional_name_parts ∙ optional_off _ _ _ _ _ (sym c.in_err-present.ensures))

pub returns-then-present : goal.returns-then-present
unfolding bytes
returns-then-present c = optional_yes _ _ _ _ _ _ _ c.in_ok-present.ensures c.if-present.true c.name.ensures ∙ sym (from-same _ _ _ _ optional_name_parts)

pub returns : goal.returns
unfolding bytes
returns c = optional_no _ _ _ _ _ _ _ c.in_ok-present.ensures c.if-present.false ∙ sym (from-same _ _ _ _ optional_name_parts)
