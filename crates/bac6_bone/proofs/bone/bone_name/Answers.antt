-- `bone_name` sets the name's place and length down in the row.
use Rattle.std.proofs.Common.{◌<◌, ◌^◌, sym, arith}
use Rattle.signed.proofs.Signed.{bits_pos}
use Rattle.parse_cursor.proofs.Steps.{reads_exit}
use Rattle.parse_cursor.proofs.Bounds.{name_bounds}
use Rattle.bac6_bone.proofs.Values.{name-read, name_off}
use Rattle.bac6_bone.proofs.bone.bone_name.Goals as goal

pub returns-in_err-name : goal.returns-in_err-name
returns-in_err-name c = reads_exit _ _ _ _ c.from_residual.ensures.1 (name_off _ _ _ (sym c.in_err-name.ensures))

pub overflow_cast-row : goal.overflow_cast-row
overflow_cast-row c = let h = name_bounds _ _ _ _ c.in_ok-name.ensures in record { sfits = omega arith }

pub overflow_cast-row-2 : goal.overflow_cast-row-2
overflow_cast-row-2 c = let h = name_bounds _ _ _ _ c.in_ok-name.ensures in record { sfits = omega arith }

pub returns : goal.returns
returns c =
    let h = name_bounds _ _ _ _ c.in_ok-name.ensures in
    let p : c.in_ok-name.name.place < 2 ^ 63 = omega arith in
    let n : c.in_ok-name.name.length < 2 ^ 63 = omega arith in
    rw (bits_pos _ p, bits_pos _ n) (name-read _ _ _ _ _ c.in_ok-name.ensures)
