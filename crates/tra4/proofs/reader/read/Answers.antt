-- `read` refuses a text that its check or its shape refuses, and answers as its rows else.
use Rattle.std.proofs.Common.{pos, refl, sym, ◌∙◌}
use lib.ListN.{length-replicate}
use Rattle.text_check.specs.Internal.Answers.{format_named}
use Rattle.parse_text.proofs.Outcomes.{text-short, text-refused, text-clear}
use Rattle.tra4_text.specs.Answer.{movement_outcome}
use Rattle.refusal.proofs.Rules.{refused_by, clear_by}
use Rattle.tra4.specs.Internal.Checks.{parsed_as}
use Rattle.tra4.proofs.Settings.{refused_answered, outcome_answered}
use Rattle.tra4.proofs.Parses.{shape-refused, shape-held, held_answered}
use Rattle.tra4.proofs.reader.read.Goals as goal

pub returns-in-Err : goal.returns-in-Err
unfolding format_named movement_outcome
returns-in-Err c =
    let a = c.args in
    let q = outcome_answered a.text.now (text-refused _ _ _ a.text.now (refused_by c.check_text.ensures c.in-Err.is)) (refused_answered refl c.refused.ensures a.table.now) in
    record { answer = q.0; content = q.1 }

pub returns-in-Err-parse : goal.returns-in-Err-parse
unfolding format_named movement_outcome
returns-in-Err-parse c =
    let a = c.args in
    let q = outcome_answered a.text.now (text-clear _ _ _ a.text.now (clear_by c.check_text.ensures c.in_default.is)) (refused_answered (shape-refused a.text.now _ _ _ c.in-Err-parse.ensures) c.refused-in-Err-parse.ensures a.table.now) in
    record { answer = q.0; content = q.1 }

pub read_rows-requires : goal.read_rows-requires
unfolding format_named parsed_as
read_rows-requires c =
    (shape-held c.args.text.now _ _ _ _ _ _ _ _ c.in-Ok.ensures (text-short _ _ (clear_by c.check_text.ensures c.in_default.is)) (length-replicate 2816 (pos 0)) (length-replicate 8192 (pos 0)) (length-replicate 768 (pos 0))).held

pub returns-in-Ok : goal.returns-in-Ok
unfolding format_named movement_outcome parsed_as
returns-in-Ok c =
    let a = c.args in
    let e = clear_by c.check_text.ensures c.in_default.is in
    let q = outcome_answered a.text.now (text-clear _ _ _ a.text.now e)
    (held_answered (shape-held a.text.now _ _ _ _ _ _ _ _ c.in-Ok.ensures (text-short _ _ e) (length-replicate 2816 (pos 0)) (length-replicate 8192 (pos 0)) (length-replicate 768 (pos 0))) c.read_rows.ensures) in
    record { answer = q.0; content = q.1 }
