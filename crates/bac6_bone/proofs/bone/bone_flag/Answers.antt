-- `bone_flag` sets the flag down in the row, before its closing bracket.
use Rattle.std.proofs.Common.{rules, sym}
use mir.Syntax.{w64}
use mir.Val.{SFits}
use mir.Facts.{to_z-of_z}
use Rattle.text_bytes.specs.Bytes.{bytes}
use Rattle.parse_cursor.proofs.Steps.{reads_exit}
use Rattle.bac6_bone.proofs.Values.{flag-read, flag_off}
use Rattle.bac6_bone.proofs.bone.bone_flag.Goals as goal

pub returns-in_err-value : goal.returns-in_err-value
unfolding bytes
returns-in_err-value c = reads_exit _ _ _ _ c.from_residual.ensures.1 (flag_off _ _ _ _ c.requires.0 c.requires.1 (sym c.in_err-value.ensures))

pub returns : goal.returns
unfolding bytes
returns c =
    let f : SFits w64 c.in_ok-value.value = search rules in
    rw (to_z-of_z f) (flag-read _ _ _ _ c.requires.0 c.requires.1 _ _ _ c.in_ok-value.ensures c.closing.ensures)
