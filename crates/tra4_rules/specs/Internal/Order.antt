-- The rules 8 and 14 to 16 in order, over tables of rows.
use Rattle.std.specs.Prelude.{List, [], ◌∷◌, ℕ, ℤ}
use Rattle.refusal.specs.Faults.{Fault}
use Rattle.refusal.specs.Rules.{or_else, too_many}
use Rattle.tra4_text.specs.Rules.{total_fault, keys_fault, patterns_fault}
use Rattle.table_columns.specs.Parts.{rows_of}
use Rattle.tra4_keys.specs.Internal.Keys.{channels_in}
use Rattle.table_counts.specs.Counts.{movement_mosts}

-- of 8 to 16 the lowest number, with its lowest row, where there are b bones, k keys and p patterns
unfoldable pub tables_fault : ℤ → ℕ → ℕ → ℕ → List ℤ → List ℤ → List ℤ → Fault
tables_fault total b k p bones keys patterns =
    or_else (too_many 0 (b ∷ k ∷ p ∷ []) movement_mosts)
    (or_else (total_fault total)
    (or_else (keys_fault total 0 (channels_in b bones keys))
    (patterns_fault total (rows_of 3 p patterns))))
