-- Where a bone of a movement stands: within the table, at a small index.
use mathlib.Core.Path.{◌≡◌}
use mathlib.Core.List.{List}
use Prim.Native.Nat.{ℕ, ◌+◌, ◌*◌, ◌≤◌, ◌<◌}
use native.Mathlib.Omega.{arith}
use lib.IntN.{ℤ}
use lib.ListN.{length}
use mathlib.Core.Bool.{true}
use Rattle.table_counts.specs.declared.counts.MovementCounts.{MovementCounts}
use Rattle.table_movement.specs.Sections.{holds_movement}
use Rattle.table_movement.proofs.Mosts.{movement-room}

module _ (m : MovementCounts) (moves : List ℤ) (held : holds_movement m moves ≡ true) where
  pub movement_bone-place : (bone : ℕ) → bone < m.bones → (3 + bone * 22 + 22 ≤ length moves) × (3 + bone * 22 + 22 ≤ 40000)
  movement_bone-place bone h =
      let r = movement-room m moves held in
      (omega arith, omega arith)
