-- `bone_value` goes by the kind: the row of the chunks but the entries, and the claims of those.
use Rattle.std.proofs.Common.{◌≡◌, arith}
use Rattle.parse_cursor.proofs.Steps.{parsed_exit, stopped}
use Rattle.bac6_bone.proofs.Values.{entries_read, row_read, row_off}
use Rattle.bac6_bone.proofs.bone.bone_value.Goals as goal

pub returns-in_err-bone_name-in-0 : goal.returns-in_err-bone_name-in-0
returns-in_err-bone_name-in-0 c = let e : c.args.k ≡ 0 = omega arith in parsed_exit _ _ _ _ c.from_residual.ensures.1 (row_off _ _ _ _ c.args.k _ _ (omega arith) (rw e (stopped _ _ _ c.in_err-bone_name-in-0.ensures)))

pub returns-in_ok-bone_name-in-0 : goal.returns-in_ok-bone_name-in-0
returns-in_ok-bone_name-in-0 c = let e : c.args.k ≡ 0 = omega arith in row_read _ _ _ _ c.args.k _ _ (omega arith) _ _ (rw e c.in_ok-bone_name-in-0.ensures)

pub returns-in_err-bone_flag-in-1 : goal.returns-in_err-bone_flag-in-1
returns-in_err-bone_flag-in-1 c = parsed_exit _ _ _ _ c.from_residual-in_err-bone_flag-in-1.ensures.1 (row_off _ _ _ _ c.args.k _ _ (omega arith) (stopped _ _ _ c.in_err-bone_flag-in-1.ensures))

pub returns-in_ok-bone_flag-in-1 : goal.returns-in_ok-bone_flag-in-1
returns-in_ok-bone_flag-in-1 c = row_read _ _ _ _ c.args.k _ _ (omega arith) _ _ c.in_ok-bone_flag-in-1.ensures

pub returns-in_err-bone_vector-in-3-to-5 : goal.returns-in_err-bone_vector-in-3-to-5
returns-in_err-bone_vector-in-3-to-5 c = parsed_exit _ _ _ _ c.from_residual-in_err-bone_vector-in-3-to-5.ensures.1 (row_off _ _ _ _ c.args.k _ _ (omega arith) (stopped _ _ _ c.in_err-bone_vector-in-3-to-5.ensures))

pub returns-in_ok-bone_vector-in-3-to-5 : goal.returns-in_ok-bone_vector-in-3-to-5
returns-in_ok-bone_vector-in-3-to-5 c = row_read _ _ _ _ c.args.k _ _ (omega arith) _ _ c.in_ok-bone_vector-in-3-to-5.ensures

pub returns-in_default : goal.returns-in_default
returns-in_default c = let e : c.args.k ≡ 6 = omega arith in entries_read _ _ _ _ _ c.args.k _ _ _ e c.ranges.bone c.entries.ensures
