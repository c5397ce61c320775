-- `list_input` puts a refusal of the head, or what two texts give.
use Rattle.pair_output.proofs.Printing.{said_refused, said_figure}
use Rattle.pair_output.proofs.list_input.Goals as goal

pub returns-in-Err : goal.returns-in-Err
returns-in-Err c =
    let a = c.args in
    let s = said_refused a.text.now a.more _ a.buf.now _ c.divide.result c.divide.ensures.answer c.in-Err.e c.in-Err.is c.list_reply.ensures.line in
    record { lines = s.0; within = s.1.0; whole = s.1.1 }

pub returns-in-Ok : goal.returns-in-Ok
returns-in-Ok c =
    let a = c.args in
    let s = said_figure a.text.now a.more _ a.buf.now _ c.divide.result c.divide.ensures.answer c.in-Ok.end c.in-Ok.is _ _ c.part.ensures c.part-in-Ok.ensures (c.list_texts.ensures.lines, c.list_texts.ensures.most) in
    record { lines = s.0; within = s.1.0; whole = s.1.1 }
