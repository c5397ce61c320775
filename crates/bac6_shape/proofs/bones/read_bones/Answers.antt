-- `read_bones` is the bones' section over the table's last part, with the index after it.
use Rattle.std.proofs.Common.{Ok, Err, sym}
use Rattle.text_bytes.specs.Bytes.{bytes}
use Rattle.parse_spec.specs.Readers.{opened}
use Rattle.parse_cursor.proofs.Steps.{parsed_exit}
use Rattle.bac6_shape.proofs.Steps.{bones-read}
use Rattle.bac6_shape.proofs.bones.read_bones.Goals as goal

pub returns-in_err-bones : goal.returns-in_err-bones
unfolding opened bytes
returns-in_err-bones c =
    let a = c.args in
    parsed_exit _ _ _ _ c.from_residual.ensures.1 (sym (bones-read _ _ a.at a.rows.now c.requires _ _ (Err _) a.rows.now _ a.owners.now c.opened-begun.ensures c.in_err-bones.ensures))

pub returns : goal.returns
unfolding opened bytes
returns c = let a = c.args in rw c.rows_end.ensures (bones-read _ _ a.at a.rows.now c.requires _ _ (Ok _) _ _ _ c.opened-begun.ensures c.in_ok-bones.ensures)
