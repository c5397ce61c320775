-- The part of a movement's table that holds its pattern rows, as the code lends it.
use mathlib.Core.Path.{◌≡◌, ap, ◌∙◌}
use mathlib.Core.List.{List}
use Prim.Native.Nat.{ℕ, ◌+◌, ◌*◌, ◌-◌, ◌/◌, ◌≤◌}
use native.Mathlib.Omega.{arith}
use lib.IntN.{ℤ}
use lib.ListN.{length, take, drop, length-take, length-drop}
use Rattle.table_columns.specs.Parts.{rows_at}
use Rattle.table_columns.proofs.Parts.{part-rows}

module _ (moves : List ℤ) (from n : ℕ) where
  part-patterns : rows_at 3 (take (n * 3) (drop from moves)) 0 n ≡ rows_at 3 moves from n
  part-patterns = part-rows 3 from 0 (n * 3) n moves (omega arith) ∙ ap (λ (i : ℕ). rows_at 3 moves i n) (let e : from + 0 ≡ from = omega arith in e)

  abbrev pub lent : List ℤ
  lent = take (from + n * 3 - from) (drop from moves)

  lent_is : lent ≡ take (n * 3) (drop from moves)
  lent_is = ap (λ (k : ℕ). take k (drop from moves)) (let e : from + n * 3 - from ≡ n * 3 = omega arith in e)

  lent_count : from + n * 3 ≤ length moves → length lent / 3 ≡ n
  lent_count h = let e = ap length lent_is ∙ length-take (n * 3) (drop from moves) in let d = length-drop from moves in omega arith

  -- all its whole rows
  pub lent_rows : from + n * 3 ≤ length moves → rows_at 3 lent 0 (length lent / 3) ≡ rows_at 3 moves from n
  lent_rows h = ap (λ (k : ℕ). rows_at 3 lent 0 k) (lent_count h) ∙ ap (λ (l : List ℤ). rows_at 3 l 0 n) lent_is ∙ part-patterns
