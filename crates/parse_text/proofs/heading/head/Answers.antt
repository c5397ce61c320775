-- `head` is two openings, the version and two closing brackets.
use Rattle.text_bytes.specs.Bytes.{bytes}
use Rattle.parse_spec.specs.Readers.{opened, head_of}
use Rattle.parse_cursor.proofs.Steps.{seq, closed_at}
use Rattle.parse_text.proofs.heading.head.Goals as goal

pub returns : goal.returns
unfolding head_of opened bytes
returns c =
    seq _ _ _ _ _ _ (seq _ _ _ _ _ _ c.opened.ensures c.opened-inside.ensures)
    (closed_at _ _ _ _ _ _ (closed_at _ _ _ _ _ _ c.version.ensures c.closing.ensures) c.closing-2.ensures)
