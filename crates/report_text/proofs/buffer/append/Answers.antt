-- `append` is the definition: bytes that fit are copied after the first n.
use Rattle.std.proofs.Common.{refl, arith}
use Rattle.report_text.proofs.Appending.{no_room, has_room, copied}
use Rattle.report_text.proofs.buffer.append.Goals as goal

pub returns-then-not-has_room : goal.returns-then-not-has_room
returns-then-not-has_room c = no_room _ _ _ _ refl c.has_room.ensures c.if-not-has_room.true

pub returns : goal.returns
returns c =
    let a = c.args in
    rw c.copy_from_slice.ensures.after
    (copied a.n _ a.buf.now a.bytes.now (omega arith) (has_room a.n _ a.buf.now a.bytes.now refl c.has_room.ensures c.if-not-has_room.false))
