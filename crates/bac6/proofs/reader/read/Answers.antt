-- `read` refuses a text that its check or its shape refuses, and answers as its rows else.
use Rattle.std.proofs.Common.{refl}
use lib.IntN.{pos}
use lib.ListN.{length-replicate}
use Rattle.text_check.specs.Internal.Answers.{format_named}
use Rattle.parse_text.proofs.Outcomes.{text-short, text-refused, text-clear}
use Rattle.bac6_text.specs.Answer.{figure_outcome}
use Rattle.refusal.proofs.Rules.{refused_by, clear_by}
use Rattle.bac6.proofs.Settings.{refused_answered, outcome_answered}
use Rattle.bac6.proofs.Shapes.{shape-refused, shape-held, held_answered}
use Rattle.bac6.proofs.reader.read.Goals as goal

pub returns-in-Err : goal.returns-in-Err
unfolding format_named figure_outcome
returns-in-Err c =
    let r = outcome_answered c.args.text.now (text-refused _ _ _ c.args.text.now (refused_by c.check_text.ensures c.in-Err.is)) (refused_answered refl c.refused.ensures c.args.table.now) in
    record { answer = r.0; content = r.1 }

pub read_rows-requires : goal.read_rows-requires
unfolding format_named
read_rows-requires c = (shape-held c.args.text.now _ _ _ _ _ _ _ c.parse.ensures c.in-Ok.is (text-short _ _ (clear_by c.check_text.ensures c.in_default.is)) (length-replicate 34912 (pos 0)) refl (length-replicate 64 (pos 0))).held

pub returns-in-Ok : goal.returns-in-Ok
unfolding format_named figure_outcome
returns-in-Ok c =
    let e = clear_by c.check_text.ensures c.in_default.is in
    let r =
    outcome_answered c.args.text.now (text-clear _ _ _ c.args.text.now e)
    (held_answered (shape-held c.args.text.now _ _ _ _ _ _ _ c.parse.ensures c.in-Ok.is (text-short _ _ e) (length-replicate 34912 (pos 0)) refl (length-replicate 64 (pos 0))) c.read_rows.ensures) in
    record { answer = r.0; content = r.1 }

pub returns-in-Err-parse : goal.returns-in-Err-parse
unfolding format_named figure_outcome
returns-in-Err-parse c =
    let r = outcome_answered c.args.text.now (text-clear _ _ _ c.args.text.now (clear_by c.check_text.ensures c.in_default.is)) (refused_answered (shape-refused c.args.text.now _ _ _ _ _ _ _ c.parse.ensures c.in-Err-parse.is) c.refused-in-Err-parse.ensures c.args.table.now) in
    record { answer = r.0; content = r.1 }
