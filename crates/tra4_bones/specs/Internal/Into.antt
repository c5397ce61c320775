-- What the code keeps of a movement's bones: how many there are, their rows, and their keys by bone and channel number.
use Rattle.std.specs.Prelude.{List, ℕ, ◌+◌, ◌*◌, ℤ}
use Rattle.std.proofs.Math.Option.{some}
use Rattle.parse_spec.specs.Readers.{Reader, ◌>>=◌, pure}
use Rattle.parse_rows.specs.Internal.Folds.{fold}
use Rattle.tra4_text.specs.Movement.{Bone}
use Rattle.tra4_text.specs.Grammar.{repeated, repeated⁺, bone}
use Rattle.tra4_bone.specs.Internal.Into.{Kept, bone_kept}

unfoldable pub bone_step : ℕ × Kept → Bone → ℕ × Kept
bone_step s b = (s.0 + 1, bone_kept (s.0 * 22) s.1 b)

-- the bones after some
unfoldable pub more_into : ℕ × Kept → Reader (ℕ × Kept)
more_into s = repeated "bone" bone >>= λ bs. pure (fold bone_step s bs)

-- one bone or more
unfoldable pub bones_into : List ℤ → List ℤ → Reader (ℕ × Kept)
bones_into rows keys = repeated⁺ "bone" bone >>= λ bs. pure (fold bone_step (0, some (rows, 0, keys)) bs)
