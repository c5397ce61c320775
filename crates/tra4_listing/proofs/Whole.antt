-- A buffer that every movement's listing fits in.
use mathlib.Core.Path.{refl}
use mathlib.Core.List.{List}
use Prim.Native.Nat.{◌+◌, ◌*◌, ◌≤◌}
use native.Mathlib.Omega.{arith}
use lib.IntN.{ℤ}
use lib.ListN.{length}
use Rattle.text_bytes.specs.Bytes.{bytes}
use Rattle.report_lists.proofs.Texts.{AllFit, narrow}
use Rattle.report_lists.proofs.Listings.{listing-most}
use Rattle.tra4.specs.declared.setting.MovementAnswer.{MovementAnswer}
use Rattle.tra4_listing.specs.Movements.{movement_lists, movement_lines, movement_text}

-- 28 bytes for each number and for two more: 329,868 bytes with a table of 11,779 numbers
pub movement-most : (a : MovementAnswer) (zs : List ℤ) → AllFit zs → length (movement_text a zs) ≤ 28 * (length zs + 2)
unfolding movement_text movement_lines movement_lists bytes narrow
movement-most a zs fit = listing-most (bytes "movement") a.refusal a.place a.total (movement_lists a.counts) zs (omega arith) refl fit
