-- `normals` is the normals' section, laid.
use Rattle.std.proofs.Common.{Ok, sym, ◌∙◌}
use Rattle.text_bytes.specs.Bytes.{bytes}
use Rattle.parse_numbers.specs.Internal.Answers.{form_named}
use Rattle.parse_cursor.proofs.Steps.{parsed_exit, stopped, closed_at, closed_off, halt_closed}
use Rattle.bac6_text.specs.Grammar.{normal_section}
use Rattle.bac6_section.proofs.Laid.{list_read, ended, ends-within}
use Rattle.bac6_front.proofs.Normals.{normals_by, normals_off}
use Rattle.bac6_front.proofs.lists.normals.Goals as goal

pub returns-in_err-count-clause-content : goal.returns-in_err-count-clause-content
unfolding bytes form_named
returns-in_err-count-clause-content c = parsed_exit _ _ _ _ c.from_residual.ensures.1 (normals_off _ _ _ c.opened-begun.ensures _ _ (halt_closed _ _ _ (sym c.in_err-count.ensures.meaning)))

pub returns-in_err-closed-clause-content : goal.returns-in_err-closed-clause-content
unfolding bytes form_named
returns-in_err-closed-clause-content c =
    parsed_exit _ _ _ _ c.from_residual-in_err-closed.ensures.1 (normals_off _ _ _ c.opened-begun.ensures _ _ (closed_off _ _ _ _ _ c.in_ok-count.ensures.meaning (stopped _ _ _ c.in_err-closed.ensures)))

pub returns-clause-content : goal.returns-clause-content
unfolding bytes form_named
returns-clause-content c =
    let a = c.args in
    ended _ _ _ _ _ c.with_end.ensures _ (list_read _ _ (Ok _) normal_section 3 a.at a.rows.now _ (closed_at _ _ _ _ _ _ c.in_ok-count.ensures.meaning c.in_ok-closed.ensures ∙ sym (normals_by _ _ _ c.opened-begun.ensures a.at a.rows.now)))

pub returns-clause-within : goal.returns-clause-within
returns-clause-within c = ends-within _ _ _ _ _ c.with_end.ensures
