-- `parse` is a sequence of readers: one `seq` or `join` a call, and a refusal ends it.
use Rattle.std.proofs.Common.{refl, sym, ◌∙◌, rules}
use mir.Syntax.{w64}
use mir.Facts.{to_z-of_z}
use Rattle.text_bytes.specs.Bytes.{bytes}
use Rattle.parse_spec.specs.Readers.{head, opened}
use Rattle.parse_numbers.specs.Internal.Answers.{form_named}
use Rattle.parse_cursor.proofs.Counts.{whole-text}
use Rattle.parse_cursor.proofs.Steps.{seq, join, closed_at, halt, halt_then, halt_closed, stopped, parsed_exit}
use Rattle.tra4_parse.specs.Internal.Parse.{movement_value, movement_into}
use Rattle.tra4_parse.proofs.shape.parse.Goals as goal

pub returns-in_err-name : goal.returns-in_err-name
unfolding movement_into movement_value head opened bytes form_named
returns-in_err-name c =
    parsed_exit _ _ _ _ c.from_residual.ensures.1 (sym
    ((seq _ _ _ _ _ _ c.head.ensures
    (seq _ _ _ _ _ _ c.opened-begun.ensures
    (sym (halt _ _ _ (sym c.in_err-name.ensures) _)))) ∙ whole-text _ _))

pub returns-in_err-total : goal.returns-in_err-total
unfolding movement_into movement_value head opened bytes form_named
returns-in_err-total c =
    parsed_exit _ _ _ _ c.from_residual-in_err-total.ensures.1 (sym
    ((seq _ _ _ _ _ _ c.head.ensures
    (seq _ _ _ _ _ _ c.opened-begun.ensures
    (join _ _ _ _ _ _ c.in_ok-name.ensures
    (seq _ _ _ _ _ _ c.opened-frames.ensures
    (sym (halt _ _ _ (halt_closed _ _ _ (sym c.in_err-total.ensures)) _)))))) ∙ whole-text _ _))

pub returns-in_err-b : goal.returns-in_err-b
unfolding movement_into movement_value head opened bytes form_named
returns-in_err-b c =
    parsed_exit _ _ _ _ c.from_residual-in_err-b.ensures.1 (sym
    ((seq _ _ _ _ _ _ c.head.ensures
    (seq _ _ _ _ _ _ c.opened-begun.ensures
    (join _ _ _ _ _ _ c.in_ok-name.ensures
    (seq _ _ _ _ _ _ c.opened-frames.ensures
    (join _ _ _ _ _ _ (closed_at _ _ _ _ _ _ c.in_ok-total.ensures c.closing-begin.ensures)
    (sym (halt _ _ _ (sym c.in_err-b.ensures) _))))))) ∙ whole-text _ _))

pub returns-in_err-lines : goal.returns-in_err-lines
unfolding movement_into movement_value head opened bytes form_named
returns-in_err-lines c =
    parsed_exit _ _ _ _ c.from_residual-in_err-lines.ensures.1 (sym
    ((seq _ _ _ _ _ _ c.head.ensures
    (seq _ _ _ _ _ _ c.opened-begun.ensures
    (join _ _ _ _ _ _ c.in_ok-name.ensures
    (seq _ _ _ _ _ _ c.opened-frames.ensures
    (join _ _ _ _ _ _ (closed_at _ _ _ _ _ _ c.in_ok-total.ensures c.closing-begin.ensures)
    (join _ _ _ _ _ _ c.in_ok-b.ensures
    (sym (halt _ _ _ (sym c.in_err-lines.ensures) _)))))))) ∙ whole-text _ _))

pub returns-in_err-end : goal.returns-in_err-end
unfolding movement_into movement_value head opened bytes form_named
returns-in_err-end c =
    parsed_exit _ _ _ _ c.from_residual-in_err-end.ensures.1 (sym
    ((seq _ _ _ _ _ _ c.head.ensures
    (seq _ _ _ _ _ _ c.opened-begun.ensures
    (join _ _ _ _ _ _ c.in_ok-name.ensures
    (seq _ _ _ _ _ _ c.opened-frames.ensures
    (join _ _ _ _ _ _ (closed_at _ _ _ _ _ _ c.in_ok-total.ensures c.closing-begin.ensures)
    (join _ _ _ _ _ _ c.in_ok-b.ensures
    (join _ _ _ _ _ _ c.in_ok-lines.ensures
    (seq _ _ _ _ _ _ c.closing.ensures
    (sym (halt_then _ _ _ (stopped _ _ _ c.in_err-end.ensures) _)))))))))) ∙ whole-text _ _))

pub returns : goal.returns
unfolding movement_into movement_value head opened bytes form_named
returns c =
    rw (to_z-of_z {w = w64} {z = c.in_ok-total.total} (search rules))
    ((seq _ _ _ _ _ _ c.head.ensures
    (seq _ _ _ _ _ _ c.opened-begun.ensures
    (join _ _ _ _ _ _ c.in_ok-name.ensures
    (seq _ _ _ _ _ _ c.opened-frames.ensures
    (join _ _ _ _ _ _ (closed_at _ _ _ _ _ _ c.in_ok-total.ensures c.closing-begin.ensures)
    (join _ _ _ _ _ _ c.in_ok-b.ensures
    (join _ _ _ _ _ _ c.in_ok-lines.ensures
    (seq _ _ _ _ _ _ c.closing.ensures
    (seq _ _ _ _ _ _ c.in_ok-end.ensures
    refl))))))))) ∙ whole-text _ _)
