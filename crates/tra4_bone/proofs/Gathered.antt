-- What ranges and keys say where the channels have been read: the channels' keys, by induction over the ranges in pairs.
use mathlib.Core.Path.{◌≡◌, refl, ap, ap₂, sym, ◌∙◌}
use mathlib.Core.List.{List, [], ◌∷◌, ◌++◌, map}
use mathlib.Core.Bool.{true, false}
use mathlib.Core.Option.{Option, none}
use Prim.Native.Nat.{ℕ, zero, suc, ◌+◌, ◌*◌, ◌≤◌, ◌<◌}
use native.Mathlib.Omega.{arith}
use lib.IntN.{ℤ, pos, nat_abs}
use lib.ListN.{length, get_or, length-append, length-map}
use Rattle.table_rows.specs.Flat.{flat}
use Rattle.parse_rows.proofs.Widths.{flat_append}
use Rattle.tra4_text.specs.Movement.{Channel}
use Rattle.tra4_text.specs.Grammar.{keys_in}
use Rattle.tra4_text.specs.Rules.{all_keys}
use Rattle.tra4_text.specs.Layout.{first_row, key_ranges}
use Rattle.tra4_channels.specs.Internal.Held.{keys_read, Stored, Held}
use Rattle.tra4_bone.specs.Internal.Laying.{range_rows, gathered, ranges_total, renumbered, RangeIn, Within}
use Rattle.tra4_bone.proofs.Ranges.{natural_is}

-- ---- one channel

module _ (keys : List ℤ) (n : ℕ) (f g : ℤ) (c : Channel) (s : Stored keys n f g c) where
  stored-first : nat_abs f ≡ s.row
  stored-first = natural_is f s.row s.first_is

  stored_count : nat_abs g ≡ length c
  stored_count = natural_is g (length c) s.count_is

  stored-range : (m : ℕ) → n ≤ m → RangeIn m f g
  stored-range m l =
      let b = s.below in
      record { first_is = s.first_is ∙ ap pos (sym stored-first); count_is = s.count_is ∙ ap pos (sym stored_count); below = rw (stored-first, stored_count) (omega arith) }

  stored-rows : range_rows f g keys ≡ flat c
  unfolding range_rows
  stored-rows = rw (stored-first, stored_count) s.content

-- ---- every channel

abbrev Each : List ℤ → ℕ → List ℤ → List Channel → Type 0
Each keys n ranges cs = (k : ℕ) → k < length cs → Stored keys n (get_or ranges (k * 2) (pos 0)) (get_or ranges (k * 2 + 1) (pos 0)) (get_or cs k [])

-- what the ranges of some channels say
pub record Ranged (m : ℕ) (keys ranges : List ℤ) (cs : List Channel) : Type 0 where
  pub within : Within m ranges
  pub content : gathered ranges keys ≡ flat (all_keys cs)
  pub numbers : (row : ℕ) → renumbered row ranges ≡ key_ranges row cs
  pub total : ranges_total ranges ≡ length (all_keys cs)

each_head : (keys : List ℤ) (n : ℕ) (f g : ℤ) (ranges : List ℤ) (c : Channel) (cs : List Channel) → Each keys n (f ∷ g ∷ ranges) (c ∷ cs) → Stored keys n f g c
each_head keys n f g ranges c cs e = e 0 (omega arith)

each_tail : (keys : List ℤ) (n : ℕ) (f g : ℤ) (ranges : List ℤ) (c : Channel) (cs : List Channel) → Each keys n (f ∷ g ∷ ranges) (c ∷ cs) → Each keys n ranges cs
each_tail keys n f g ranges c cs e k l =
    let first : suc k * 2 ≡ suc (suc (k * 2)) = omega arith in
    let count : suc k * 2 + 1 ≡ suc (suc (k * 2 + 1)) = omega arith in
    rw (count, first) at (e (suc k) (omega arith))

ranged_more : (m : ℕ) (keys : List ℤ) (n : ℕ) (f g : ℤ) (ranges : List ℤ) (c : Channel) (cs : List Channel) → n ≤ m → Stored keys n f g c → Ranged m keys ranges cs → Ranged m keys (f ∷ g ∷ ranges) (c ∷ cs)
unfolding Within gathered renumbered ranges_total all_keys key_ranges
ranged_more m keys n f g ranges c cs l s r =
    let count = stored_count keys n f g c s in
    record {
      within = (stored-range keys n f g c s m l, r.within);
      content = ap₂ ◌++◌ (stored-rows keys n f g c s) r.content ∙ sym (flat_append c (all_keys cs));
      numbers = λ row. rw (count, ← s.count_is) (ap (λ (t : List ℤ). pos (first_row row (length c)) ∷ g ∷ t) (r.numbers (row + length c)));
      total = rw (count, r.total) (sym (length-append c (all_keys cs)));
    }

ranged : (m : ℕ) (keys : List ℤ) (n : ℕ) (ranges : List ℤ) (cs : List Channel) → n ≤ m → length ranges ≡ length cs * 2 → Each keys n ranges cs → Ranged m keys ranges cs
unfolding Within gathered renumbered ranges_total all_keys key_ranges flat
ranged m keys n [] [] l w e = record { within = tt; content = refl; numbers = λ row. refl; total = refl }
ranged m keys n (f ∷ ranges) [] l w e = absurd (omega arith)
ranged m keys n [] (c ∷ cs) l w e = absurd (omega arith)
ranged m keys n (f ∷ []) (c ∷ cs) l w e = absurd (omega arith)
ranged m keys n (f ∷ g ∷ ranges) (c ∷ cs) l w e =
    ranged_more m keys n f g ranges c cs l (each_head keys n f g ranges c cs e) (ranged m keys n ranges cs l (omega arith) (each_tail keys n f g ranges c cs e))

-- ---- what the code holds of the channels

keys-at : (fs : List (Option Channel)) (k : ℕ) → keys_in (get_or fs k none) ≡ get_or (map keys_in fs) k []
unfolding keys_in
keys-at [] k = refl
keys-at (f ∷ fs) zero = refl
keys-at (f ∷ fs) (suc k) = keys-at fs k

module _ (fs : List (Option Channel)) (ranges keys : List ℤ) (n : ℕ) where
  abbrev cs : List Channel
  cs = map keys_in fs

  -- not too many: the ranges are the channels'
  pub held_ranged : Held fs ranges keys n false → Ranged 4096 keys ranges cs
  held_ranged h =
      let w = length-map fs keys_in ∙ h.ten in
      ranged 4096 keys n ranges cs h.most (let v = h.width in omega arith) (λ k l. rw (keys-at fs k) at (h.stored refl k (rw w at l)))

  pub held_count : Held fs ranges keys n false → length (all_keys cs) ≡ n
  unfolding keys_read
  held_count h = h.counted refl

  pub held-total : Held fs ranges keys n false → ranges_total ranges ≡ n
  held-total h = (held_ranged h).total ∙ held_count h

  -- too many
  pub held-over : Held fs ranges keys n true → 4096 < length (all_keys cs)
  unfolding keys_read
  held-over h = h.many refl
