-- Key counts, the channels that they cut, and rule 15 over them by its steps.
use mathlib.Core.Path.{◌≡◌, refl, sym, ◌∙◌}
use mathlib.Core.List.{List, [], ◌∷◌, ◌++◌}
use mathlib.Core.Option.{none}
use Prim.Native.Nat.{ℕ, zero, suc, ◌+◌, ◌-◌, ◌*◌, ◌/◌, ◌≤◌, ◌<◌, min}
use native.Mathlib.Nat.{sub-zero}
use native.Mathlib.Omega.{arith}
use lib.ListN.{length, take, drop, get_or, length-drop}
use lib.Seq.{drop-cons, drop-drop}
use lib.IntN.{ℤ, pos}
use Rattle.refusal.specs.Faults.{Fault, clear, fault}
use Rattle.refusal.specs.Rules.{or_else}
use Rattle.tra4_text.specs.Rules.{channel_fault, keys_fault}
use Rattle.tra4_frames.proofs.Frames.{keys-frames}
use Rattle.refusal.specs.declared.checked.Refusal.{Refusal}
use Rattle.std.proofs.Common.{Result, Ok, Err}
use Rattle.tra4_keys.specs.Internal.Rows.{whole_rows}
use Rattle.table_columns.specs.Parts.{rows_of}
use Rattle.tra4_keys.specs.Internal.Keys.{count_of, pair_counts, bone_counts, row_counts, key_counts, cut, channels_in, keys_from, Walked}
use Rattle.table_columns.proofs.Rows.{rows_more, rows_short, rows_drop, rows_take, pairs_count, take_least, drop_least}

-- ---- the counts of a bone row, from a column on

pub pairs_more : (at : ℕ) (l : List ℤ) → at + 1 < length l → pair_counts (drop at l) ≡ count_of (get_or l (at + 1) (pos 0)) ∷ pair_counts (drop (at + 2) l)
unfolding pair_counts
pairs_more at l h =
    let e : at + 1 ≡ suc at = omega arith in
    let f : at + 2 ≡ suc (suc at) = omega arith in
    rw (drop-cons l at (pos 0) (omega arith), drop-cons l (suc at) (pos 0) (omega arith), e, f)

pub pairs_last : (j : ℕ) (l : List ℤ) → length l ≤ suc j → pair_counts (drop j l) ≡ []
unfolding pair_counts
pairs_last zero [] h = refl
pairs_last zero (a ∷ []) h = refl
pairs_last zero (a ∷ b ∷ l) h = absurd (omega arith)
pairs_last (suc j) [] h = refl
pairs_last (suc j) (a ∷ l) h = pairs_last j l (omega arith)

pub bone-counts : (bone : List ℤ) → bone_counts bone ≡ pair_counts (drop 2 bone)
unfolding bone_counts
bone-counts bone = refl

-- ---- rule 15 by its steps

pub keys_end : (total : ℤ) (keys : List ℤ) (row : ℕ) → keys_from total keys row [] ≡ clear
unfolding keys_from cut keys_fault
keys_end total keys row = refl

-- the next channel has m keys: as many as its count says, or all that are left
pub keys_step : (total : ℤ) (keys : List ℤ) (row n m : ℕ) (ns : List ℕ) → row * 2 ≤ length keys → m ≡ min n ((length keys - row * 2) / 2) → keys_from total keys row (n ∷ ns) ≡ or_else (channel_fault total none row (rows_of 2 m (drop (row * 2) keys))) (keys_from total keys (row + m) ns)
unfolding keys_from cut keys_fault
keys_step total keys row n m ns h e = rw (taken, count, dropped)
  where
    rest : List (List ℤ)
    rest = drop row (whole_rows 2 keys)

    rest-is : rest ≡ rows_of 2 (length keys - row) (drop (row * 2) keys)
    rest-is = unfold whole_rows in rows_drop 2 (length keys) row keys

    rest_count : length rest ≡ (length keys - row * 2) / 2
    rest_count = rw (rest-is, pairs_count, length-drop) (omega arith)

    least : m ≡ min n (length rest)
    least = rw rest_count e

    taken : take n rest ≡ rows_of 2 m (drop (row * 2) keys)
    taken = sym (take_least n rest) ∙ rw (← least, rest-is) (rows_take 2 (length keys - row) m (drop (row * 2) keys) (omega arith))

    count : length (rows_of 2 m (drop (row * 2) keys)) ≡ m
    count = rw (pairs_count, length-drop) (omega arith)

    dropped : drop n rest ≡ drop (row + m) (whole_rows 2 keys)
    dropped = sym (drop_least n rest) ∙ rw (← least, drop-drop)

-- the next channel of a bone, where rule 15 from `at` on is over the counts that are left
pub channel_step : (total : ℤ) (keys : List ℤ) (row : ℕ) (bone : List ℤ) (at channel count : ℕ) (r : Fault) (more : List ℕ)
    → keys_from total keys row (bone_counts bone ++ more) ≡ keys_from total keys at (pair_counts (drop (channel * 2 + 2) bone) ++ more)
    → channel * 2 + 3 < length bone
    → at * 2 ≤ length keys
    → count ≡ min (count_of (get_or bone (channel * 2 + 3) (pos 0))) ((length keys - at * 2) / 2)
    → r ≡ channel_fault total none at (rows_of 2 (at + count - at) (take (length keys - at * 2) (drop (at * 2) keys)))
    → keys_from total keys row (bone_counts bone ++ more) ≡ or_else r (keys_from total keys (at + count) (pair_counts (drop ((channel + 1) * 2 + 2) bone) ++ more))
channel_step total keys row bone at channel count r more same h within e told =
    let i : channel * 2 + 2 + 1 ≡ channel * 2 + 3 = omega arith in
    let j : channel * 2 + 2 + 2 ≡ (channel + 1) * 2 + 2 = omega arith in
    let next = rw (i, j) at (pairs_more (channel * 2 + 2) bone (omega arith)) in
    same ∙ rw (next, told ∙ keys-frames total at count (at * 2) keys) (keys_step total keys at _ count _ within e)

-- what a walk that was told of says

module _ (total : ℤ) (keys : List ℤ) (row : ℕ) (counts : List ℕ) {r : Result ℕ Refusal} (w : Walked total keys row counts r) where
  pub walked_within : {next : ℕ} → r ≡ Ok next → next * 2 ≤ length keys
  unfolding Walked
  walked_within e = (rw e at w).0

  pub walked_on : {next : ℕ} → r ≡ Ok next → (more : List ℕ) → keys_from total keys row (counts ++ more) ≡ keys_from total keys next more
  unfolding Walked
  walked_on e = (rw e at w).1

  pub walked_fault : {f : Refusal} → r ≡ Err f → (more : List ℕ) → keys_from total keys row (counts ++ more) ≡ fault f.number f.place
  unfolding Walked
  walked_fault e = rw e at w

-- ---- the counts of bone rows: k rows are left, from `base` on

pub bones-start : (total : ℤ) (n : ℕ) (bones keys : List ℤ) → keys_fault total 0 (channels_in n bones keys) ≡ keys_from total keys 0 (key_counts (n - 0) (drop 0 bones))
unfolding channels_in keys_from
bones-start total n bones keys = rw sub-zero

-- no row is left, or none that is whole
pub bones-over : (k base : ℕ) (bones : List ℤ) → (0 < k → length bones - base < 22) → key_counts k (drop base bones) ≡ []
unfolding key_counts row_counts rows_of
bones-over zero base bones h = refl
bones-over (suc k) base bones h = unfold key_counts row_counts in rw (rows_short 22 (suc k) (drop base bones) (rw length-drop (h (omega arith))))

pub bones_more : (k base : ℕ) (bones : List ℤ) → 22 ≤ length bones - base → key_counts (suc k) (drop base bones) ≡ bone_counts (take 22 (drop base bones)) ++ key_counts k (drop (base + 22) bones)
unfolding key_counts row_counts
bones_more k base bones h = rw (rows_more 22 k (drop base bones) (rw length-drop h), drop-drop)
