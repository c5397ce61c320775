-- Tables as the layout lays them: their rows are the movement's, so that the rules on rows are the rules on lists.
-- Each table may have more after it.
use mathlib.Core.Path.{◌≡◌, refl, ap, sym, ◌∙◌}
use mathlib.Core.List.{List, [], ◌∷◌, ◌++◌, map, map-append, append_assoc, append-nil}
use mathlib.Core.Bool.{Bool, true, false}
use Prim.Native.Nat.{ℕ, ◌+◌, ◌-◌, ◌*◌, ◌<◌}
use native.Mathlib.Nat.{zero-add, suc-add, add-zero}
use native.Mathlib.Omega.{arith}
use lib.Dec.{leb}
use lib.ListN.{length, length-append}
use lib.Seq.{take_at, drop_at}
use lib.IntN.{ℤ}
use Rattle.refusal.specs.Faults.{Fault, clear, fault}
use Rattle.parse_rows.proofs.Widths.{Wide}
use Rattle.table_rows.specs.Flat.{flat}
use Rattle.parse_spec.proofs.Given.{Every}
use Rattle.tra4_text.specs.Movement.{Key, Channel, Bone, Movement}
use Rattle.tra4_text.specs.Layout.{name_numbers, key_ranges, bone_row, bone_rows}
use Rattle.refusal.specs.Rules.{too_many}
use Rattle.tra4_text.specs.Rules.{channels_of, all_keys, key_rows, counts_of, movement_counts, movement_fault}
use Rattle.tra4_text.proofs.Layouts.{ranges_length, rows_count}
use Rattle.tra4_keys.specs.Internal.Rows.{whole_rows}
use Rattle.table_columns.specs.Parts.{rows_of}
use Rattle.tra4_keys.specs.Internal.Keys.{count_of, pair_counts, bone_counts, row_counts, key_counts, cut, channels_in}
use Rattle.tra4_rules.specs.Internal.Order.{tables_fault}
use Rattle.table_columns.proofs.Rows.{rows_more}
use Rattle.tra4_rules.proofs.Counts.{count_beyond}
use Rattle.refusal.proofs.Rules.{or-fault}
use Rattle.table_counts.specs.Counts.{movement_lists, movement_mosts}

-- ---- rows of one width

flat-apart : (r : List ℤ) (rs : List (List ℤ)) (rest : List ℤ) → flat (r ∷ rs) ++ rest ≡ r ++ (flat rs ++ rest)
unfolding flat
flat-apart r rs rest = append_assoc r (flat rs) rest

flat-length : (rs : List (List ℤ)) (rest : List ℤ) → Wide 2 rs → length (flat rs ++ rest) ≡ length rs * 2 + length rest
unfolding flat
flat-length [] rest h = omega arith
flat-length (r ∷ rs) rest h =
    let e = h.0 in
    let k = flat-length rs rest h.1 in
    ap length (append_assoc r (flat rs) rest) ∙ length-append r (flat rs ++ rest) ∙ omega arith

-- rows that a table begins with are its first rows
pub rows_front : (w n : ℕ) (rs : List (List ℤ)) (rest : List ℤ) → Wide w rs → rows_of w (length rs + n) (flat rs ++ rest) ≡ rs ++ rows_of w n rest
rows_front w n [] rest h = unfold flat in rw zero-add
rows_front w n (r ∷ rs) rest h =
    let e = h.0 in
    rw (flat-apart r rs rest, suc-add)
    (rows_more w (length rs + n) (r ++ (flat rs ++ rest)) (rw length-append (omega arith))
    ∙ rw (take_at r (flat rs ++ rest) w e, drop_at r (flat rs ++ rest) w e, rows_front w n rs rest h.1))

pub rows-laid : (w : ℕ) (rs : List (List ℤ)) (rest : List ℤ) → Wide w rs → rows_of w (length rs) (flat rs ++ rest) ≡ rs
rows-laid w rs rest h = ap (λ (n : ℕ). rows_of w n (flat rs ++ rest)) (sym (add-zero (length rs))) ∙ rows_front w 0 rs rest h ∙ (unfold rows_of in append-nil rs)

whole_front : (ks : List Key) (rest : List ℤ) → Wide 2 ks → whole_rows 2 (flat ks ++ rest) ≡ ks ++ rows_of 2 (length (flat ks ++ rest) - length ks) rest
unfolding whole_rows
whole_front ks rest h =
    let k = flat-length ks rest h in
    let e : length (flat ks ++ rest) ≡ length ks + (length (flat ks ++ rest) - length ks) = omega arith in
    ap (λ (n : ℕ). rows_of 2 n (flat ks ++ rest)) e ∙ rows_front 2 (length (flat ks ++ rest) - length ks) ks rest h

-- ---- the counts of bone rows

ranges_counts : (row : ℕ) (cs : List Channel) → pair_counts (key_ranges row cs) ≡ map length cs
unfolding pair_counts key_ranges count_of
ranges_counts row [] = refl
ranges_counts row (c ∷ cs) = ap (λ (l : List ℕ). length c ∷ l) (ranges_counts (row + length c) cs)

bone_row-counts : (row : ℕ) (b : Bone) → bone_counts (bone_row row b) ≡ map length b.channels
unfolding bone_counts bone_row name_numbers
bone_row-counts row b = ranges_counts row b.channels

rows-counts : (row : ℕ) (bs : List Bone) → row_counts (bone_rows row bs) ≡ map length (channels_of bs)
unfolding row_counts bone_rows channels_of
rows-counts row [] = refl
rows-counts row (b ∷ bs) = rw (bone_row-counts row b, rows-counts (row + length (all_keys b.channels)) bs) (sym (map-append length b.channels (channels_of bs)))

-- every bone has ten lists of keys
abbrev pub Tenfold : List Bone → Type 0
Tenfold bs = Every (λ b. length b.channels ≡ 10) bs

bones_wide : (row : ℕ) (bs : List Bone) → Tenfold bs → Wide 22 (bone_rows row bs)
unfolding bone_rows
bones_wide row [] h = tt
bones_wide row (b ∷ bs) h = (wide, bones_wide (row + length (all_keys b.channels)) bs h.1)
  where
    wide : length (bone_row row b) ≡ 22
    wide = unfold bone_row name_numbers in let e = ranges_length row b.channels in let t = h.0 in omega arith

pub counts-laid : (bs : List Bone) (rest : List ℤ) → Tenfold bs → key_counts (length bs) (flat (bone_rows 0 bs) ++ rest) ≡ map length (channels_of bs)
unfolding key_counts
counts-laid bs rest h = rw (← rows_count 0 bs, rows-laid 22 (bone_rows 0 bs) rest (bones_wide 0 bs h)) (rows-counts 0 bs)

-- ---- channels

cut-laid : (cs : List Channel) (more : List Key) → cut (map length cs) (all_keys cs ++ more) ≡ cs
unfolding cut all_keys
cut-laid [] more = refl
cut-laid (c ∷ cs) more =
    rw (append_assoc c (all_keys cs) more, take_at c (all_keys cs ++ more) (length c) refl, drop_at c (all_keys cs ++ more) (length c) refl, cut-laid cs more)

pub channels-laid : (bs : List Bone) (rb rk : List ℤ) → Tenfold bs → Wide 2 (all_keys (channels_of bs)) → channels_in (length bs) (flat (bone_rows 0 bs) ++ rb) (flat (all_keys (channels_of bs)) ++ rk) ≡ channels_of bs
unfolding channels_in
channels-laid bs rb rk t h = rw (counts-laid bs rb t, whole_front (all_keys (channels_of bs)) rk h) (cut-laid (channels_of bs) _)

-- ---- a movement's tables

-- more keys than there may be, however many: the first such list
pub keys-beyond : (b k p : ℕ) → 4096 < k → too_many 0 (b ∷ k ∷ p ∷ []) movement_mosts ≡ fault 8 (elim (leb b 128) [ true ↦ 1 | false ↦ 0 ])
unfolding movement_mosts too_many
keys-beyond b k p h = go (leb b 128)
  where
    go : (v : Bool) → elim v [ true ↦ too_many 1 (k ∷ p ∷ []) (4096 ∷ 256 ∷ []) | false ↦ fault 8 0 ] ≡ fault 8 (elim v [ true ↦ 1 | false ↦ 0 ])
    go true = count_beyond 1 k 4096 (p ∷ []) (256 ∷ []) h
    go false = refl

module _ (m : Movement) where
  -- where a list has too many rows, whatever the tables hold, and whatever counts say the same
  pub tables_over : {n q : ℕ} → too_many 0 (counts_of m) movement_mosts ≡ fault n q → (total : ℤ) (b k p : ℕ) (bs ks ps : List ℤ) → too_many 0 (b ∷ k ∷ p ∷ []) movement_mosts ≡ fault n q → tables_fault total b k p bs ks ps ≡ movement_fault m
  unfolding tables_fault movement_fault
  tables_over e total b k p bs ks ps f = or-fault _ f ∙ sym (or-fault _ e)

  -- the first fault of tables, with the movement's counts
  abbrev pub in_tables : List ℤ → List ℤ → List ℤ → Fault
  in_tables bs ks ps = tables_fault m.total_frames (length m.bones) (length (key_rows m)) (length m.patterns) bs ks ps

  -- so the tables need hold the movement only where none has
  pub tables_within : (bs ks ps : List ℤ) → (too_many 0 (counts_of m) movement_mosts ≡ clear → in_tables bs ks ps ≡ movement_fault m) → in_tables bs ks ps ≡ movement_fault m
  tables_within bs ks ps h = go (too_many 0 (counts_of m) movement_mosts) refl
    where
      go : (v : Fault) → too_many 0 (counts_of m) movement_mosts ≡ v → in_tables bs ks ps ≡ movement_fault m
      go clear e = h e
      go (fault n q) e = tables_over e m.total_frames (length m.bones) (length (key_rows m)) (length m.patterns) bs ks ps (unfold counts_of movement_lists movement_counts in e)

  -- the first fault of the tables is the movement's
  pub tables_laid : (rb rk rp : List ℤ) → Tenfold m.bones → Wide 2 (key_rows m) → Wide 3 m.patterns → in_tables (flat (bone_rows 0 m.bones) ++ rb) (flat (key_rows m) ++ rk) (flat m.patterns ++ rp) ≡ movement_fault m
  unfolding tables_fault movement_fault counts_of movement_counts movement_lists key_rows
  tables_laid rb rk rp t h p = rw (channels-laid m.bones rb rk t h, rows-laid 3 m.patterns rp p)
