-- Rule 15 over tables: the key counts of the bone rows cut the key rows into channels.
use Rattle.std.specs.Prelude.{◌≡◌, List, [], ◌∷◌, ◌++◌, ℕ, ◌*◌, ◌≤◌, length, take, drop, ℤ, pos, negsuc, Result, Ok, Err}
use Rattle.refusal.specs.Faults.{Fault, fault}
use Rattle.tra4_text.specs.Movement.{Key, Channel}
use Rattle.tra4_text.specs.Rules.{keys_fault}
use Rattle.refusal.specs.declared.checked.Refusal.{Refusal}
use Rattle.tra4_keys.specs.Internal.Rows.{whole_rows}
use Rattle.table_columns.specs.Parts.{rows_of}

-- how many keys a count says; none below zero
unfoldable pub count_of : ℤ → ℕ
count_of (pos n) = n
count_of (negsuc n) = 0

-- the second number of each pair, a channel's key count
unfoldable pub pair_counts : List ℤ → List ℕ
pair_counts [] = []
pair_counts (first ∷ []) = []
pair_counts (first ∷ count ∷ l) = count_of count ∷ pair_counts l

-- the key counts of a bone row, whose pairs stand after its name
unfoldable pub bone_counts : List ℤ → List ℕ
bone_counts row = pair_counts (drop 2 row)

unfoldable pub row_counts : List (List ℤ) → List ℕ
row_counts [] = []
row_counts (r ∷ rs) = bone_counts r ++ row_counts rs

-- those of the first n bone rows
unfoldable pub key_counts : ℕ → List ℤ → List ℕ
key_counts n bones = row_counts (rows_of 22 n bones)

-- keys cut by counts, as far as there are keys
unfoldable pub cut : List ℕ → List Key → List Channel
cut [] keys = []
cut (n ∷ ns) keys = take n keys ∷ cut ns (drop n keys)

unfoldable pub channels_in : ℕ → List ℤ → List ℤ → List Channel
channels_in n bones keys = cut (key_counts n bones) (whole_rows 2 keys)

-- rule 15 from a key row on, over channels of so many keys each
unfoldable pub keys_from : ℤ → List ℤ → ℕ → List ℕ → Fault
keys_from total keys row counts = keys_fault total row (cut counts (drop row (whole_rows 2 keys)))

-- what a walk over some channels from a key row on answers, whatever channels follow: the row to go on from, or the fault
unfoldable pub Walked : ℤ → List ℤ → ℕ → List ℕ → Result ℕ Refusal → Type 0
Walked total keys row counts (Ok next) = (next * 2 ≤ length keys) × ((more : List ℕ) → keys_from total keys row (counts ++ more) ≡ keys_from total keys next more)
Walked total keys row counts (Err e) = (more : List ℕ) → keys_from total keys row (counts ++ more) ≡ fault e.number e.place
