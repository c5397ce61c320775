-- `close` is the closing bracket after a value.
use Rattle.std.proofs.Common.{rules, refl, sym, ◌∙◌}
use mir.Syntax.{w64}
use mir.Val.{SFits}
use mir.Facts.{to_z-of_z}
use Rattle.parse_spec.specs.Readers.{after}
use Rattle.parse_cursor.proofs.Steps.{parsed_exit, stopped, after-reads, halt_then, onto_then}
use Rattle.bac6_materials.specs.Internal.Closing.{close_with}
use Rattle.bac6_materials.proofs.material.close.Goals as goal

pub returns-in_err-value : goal.returns-in_err-value
unfolding after
returns-in_err-value c = parsed_exit _ _ _ _ c.from_residual.ensures.1 (rw c.in_err-value.was refl)

pub returns-in_err-closing : goal.returns-in_err-closing
unfolding close_with
returns-in_err-closing c = parsed_exit _ _ _ _ c.from_residual-in_err-closing.ensures.1 (rw c.in_ok-value.was (after-reads _ close_with _ _ ∙ halt_then _ _ _ (stopped _ _ _ c.in_err-closing.ensures) _))

pub returns : goal.returns
unfolding close_with
returns c =
    let f : SFits w64 c.in_ok-value.value = search rules in
    rw (c.in_ok-value.was, to_z-of_z f) (sym (after-reads _ close_with _ _ ∙ onto_then _ _ _ _ _ _ c.in_ok-closing.ensures))
