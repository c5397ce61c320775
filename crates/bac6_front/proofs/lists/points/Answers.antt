-- `points` is the points' section, laid.
use Rattle.text_bytes.specs.Bytes.{bytes}
use Rattle.parse_numbers.specs.Internal.Answers.{form_named}
use Rattle.parse_spec.specs.Readers.{opened, row}
use Rattle.parse_cursor.proofs.Steps.{seq}
use Rattle.parse_lists.specs.Internal.ListsInto.{some_into}
use Rattle.bac6_text.specs.Grammar.{point_section}
use Rattle.bac6_section.proofs.Laid.{then_read, list_read, ended}
use Rattle.bac6_front.proofs.lists.points.Goals as goal

pub returns : goal.returns
unfolding point_section some_into opened row bytes form_named
returns c =
    let a = c.args in
    ended _ _ _ _ _ c.with_end.ensures _ (list_read _ _ _ point_section 3 a.at a.rows.now _ (then_read _ _ _ _ _ _ _ (seq _ _ _ _ _ _ c.opened.ensures c.opened-begun.ensures) c.some_rows-k.ensures.meaning))
