-- `bone_tail` reads a name and channels, and sets the bone down where all is well.
use Rattle.std.proofs.Common.{sym, arith}
use Rattle.parse_cursor.proofs.Bounds.{place_bounds}
use Rattle.parse_cursor.proofs.Steps.{parsed_exit}
use Rattle.tra4_bone.proofs.Keeping.{name-refused, channels-refused, bone-read, over-kept}
use Rattle.tra4_bone.proofs.bone.bone_tail.Goals as goal

pub returns-in_err-name : goal.returns-in_err-name
returns-in_err-name c = record { read = parsed_exit _ _ _ _ c.from_residual.ensures.1 (name-refused _ _ _ _ (sym c.in_err-name.ensures)); free = tt }

pub returns-in_err-read : goal.returns-in_err-read
returns-in_err-read c = record { read = parsed_exit _ _ _ _ c.from_residual-in_err-read.ensures.1 (channels-refused _ _ _ _ _ _ c.in_ok-name.ensures c.in_err-read.ensures); free = tt }

pub returns-in_default : goal.returns-in_default
returns-in_default c =
    let k = c.in_ok-read.ensures in
    record { read = bone-read _ _ _ _ _ _ c.in_ok-name.ensures _ k.value k.read _ (over-kept _ _ _ _ _ _ _ _ c.in_default.is); free = tt }

pub set_bone-n-requires : goal.set_bone-n-requires
set_bone-n-requires c =
    let k = c.in_ok-read.ensures in
    let b = place_bounds _ _ _ _ c.in_ok-name.ensures in
    ((k.value, k.kept), omega arith, omega arith)

pub returns : goal.returns
returns c =
    let k = c.in_ok-read.ensures in
    record { read = rw c.in-Some.is (bone-read _ _ _ _ _ _ c.in_ok-name.ensures _ k.value k.read _ (c.set_bone-n.ensures _ k.kept)); free = tt }
