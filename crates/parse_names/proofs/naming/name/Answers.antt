-- `name` is a string and the closing bracket.
use mathlib.Core.Path.{sym, ◌∙◌}
use Rattle.parse_cursor.proofs.Steps.{from-same, closed_at, closed_off, halt_closed, parsed_exit, stopped}
use Rattle.parse_names.proofs.NameSteps.{name_parts}
use Rattle.parse_names.proofs.naming.name.Goals as goal

pub returns-in_err-found : goal.returns-in_err-found
returns-in_err-found c = parsed_exit _ _ _ _ c.from_residual.ensures.1 (from-same _ _ _ _ name_parts ∙ halt_closed _ _ _ (sym c.in_err-found.ensures))

pub returns-in_err-closing : goal.returns-in_err-closing
returns-in_err-closing c =
    parsed_exit _ _ _ _ c.from_residual-in_err-closing.ensures.1
    (from-same _ _ _ _ name_parts ∙ closed_off _ _ _ _ _ c.in_ok-found.ensures (stopped _ _ _ c.in_err-closing.ensures))

pub returns : goal.returns
returns c = closed_at _ _ _ _ _ _ c.in_ok-found.ensures c.in_ok-closing.ensures ∙ sym (from-same _ _ _ _ name_parts)
