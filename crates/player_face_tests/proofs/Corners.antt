-- The corners of a face, one by one: a size, and which are used.
use mathlib.Core.Path.{◌≡◌, refl, ap, sym, ◌∙◌}
use mathlib.Core.List.{List, [], ◌∷◌}
use mathlib.Core.Bool.{Bool, true, false, false≢true, cond, ◌&&◌}
use Prim.Native.Nat.{ℕ, zero, suc, ◌+◌, ◌-◌, ◌^◌, ◌≤◌, ◌<◌}
use native.Mathlib.Omega.{arith}
use borrow.Author.Tests.{ne_eqb, eqb-true, ltb-true, ltb-false}
use lib.Dec.{eqb, ltb}
use lib.IntN.{ℤ, pos, negsuc, nat_abs}
use lib.ListN.{length, get_or, drop}
use lib.Seq.{drop-cons}
use mir.Syntax.{w64}
use mir.Val.{SFits, to_z, of_z}
use mir.Facts.{to_z-of_z}
use Rattle.text_numerals.proofs.Numerals.{and_true}
use Rattle.table_references.specs.References.{is_row, is_none, same_number}
use Rattle.player_spec.specs.Lookups.{size_fine, corners_fine, all_none}

-- a small number by its bits
pub same_bits : (k : ℕ) (z : ℤ) → k < 2 ^ 63 → SFits w64 z → eqb (of_z w64 z) k ≡ same_number z (pos k)
unfolding same_number
same_bits k (pos n) h f = refl
same_bits k (negsuc n) h f = let g : n < 2 ^ 63 = f.sfits in ne_eqb (2 ^ 64 - suc n) k (λ e. omega arith)

pub size-three : (z : ℤ) → SFits w64 z → of_z w64 z ≡ 3 → size_fine z ≡ true
unfolding size_fine same_number
size-three z f e = ap size_fine (sym (to_z-of_z f) ∙ ap (to_z w64) e)

pub size-other : (z : ℤ) → SFits w64 z → (of_z w64 z ≡ 3 → ⊥) → size_fine z ≡ eqb (of_z w64 z) 4
unfolding size_fine
size-other z f h = rw (sym (same_bits 3 z (omega arith) f) ∙ ne_eqb (of_z w64 z) 3 h) (sym (same_bits 4 z (omega arith) f))

same-is : (z : ℤ) (k : ℕ) → same_number z (pos k) ≡ true → z ≡ pos k
unfolding same_number
same-is (pos n) k e = ap pos (eqb-true n k e)
same-is (negsuc n) k e = absurd (false≢true e)

-- a size is 3 or 4
pub size_is : (z : ℤ) → size_fine z ≡ true → (z ≡ pos (nat_abs z)) × (nat_abs z ≤ 4)
unfolding size_fine
size_is z h = go (same_number z (pos 3)) refl
  where
    at_most : (k : ℕ) → k ≤ 4 → z ≡ pos k → (z ≡ pos (nat_abs z)) × (nat_abs z ≤ 4)
    at_most k l e = rw e (refl, l)

    go : (v : Bool) → same_number z (pos 3) ≡ v → (z ≡ pos (nat_abs z)) × (nat_abs z ≤ 4)
    go true e = at_most 3 (omega arith) (same-is z 3 e)
    go false e = at_most 4 (omega arith) (same-is z 4 (rw e at h))

-- the corner at an index, and those after it
pub corner_next : (n used : ℕ) (l : List ℤ) (i : ℕ) → i < length l → corners_fine n (used - i) (drop i l) ≡ (cond (ltb i used) (is_row n (get_or l i (pos 0))) (is_none (get_or l i (pos 0))) && corners_fine n (used - (i + 1)) (drop (i + 1) l))
unfolding corners_fine
corner_next n used l i h = go (ltb i used) refl
  where
    next : i + 1 ≡ suc i
    next = omega arith

    go : (v : Bool) → ltb i used ≡ v → corners_fine n (used - i) (drop i l) ≡ (cond (ltb i used) (is_row n (get_or l i (pos 0))) (is_none (get_or l i (pos 0))) && corners_fine n (used - (i + 1)) (drop (i + 1) l))
    go true e =
        let m = ltb-true i used e in
        let f : used - i ≡ suc (used - suc i) = omega arith in
        rw (drop-cons l i (pos 0) h, f, e, next)
    go false e =
        let m = ltb-false i used e in
        let f : used - i ≡ 0 = omega arith in
        let g : used - suc i ≡ 0 = omega arith in
        rw (drop-cons l i (pos 0) h, f, e, next, g)

pub corners_end : (n used : ℕ) (l : List ℤ) (i : ℕ) → length l ≤ i → corners_fine n (used - i) (drop i l) ≡ true
unfolding corners_fine
corners_end n used [] zero h = none_left (used - 0)
  where
    none_left : (u : ℕ) → corners_fine n u [] ≡ true
    none_left zero = refl
    none_left (suc u) = refl
corners_end n used [] (suc i) h = none_left (used - suc i)
  where
    none_left : (u : ℕ) → corners_fine n u [] ≡ true
    none_left zero = refl
    none_left (suc u) = refl
corners_end n used (x ∷ l) zero h = absurd (omega arith)
corners_end n used (x ∷ l) (suc i) h = let e : used - suc i ≡ used - 1 - i = omega arith in rw e (corners_end n (used - 1) l i (omega arith))

pub none_used : (n : ℕ) (l : List ℤ) → corners_fine n 0 l ≡ all_none l
unfolding corners_fine all_none
none_used n [] = refl
none_used n (z ∷ l) = rw (none_used n l)

-- a used corner is a row
pub used_row : (n used : ℕ) (l : List ℤ) (k : ℕ) → corners_fine n used l ≡ true → k < used → k < length l → is_row n (get_or l k (pos 0)) ≡ true
unfolding corners_fine
used_row n used [] k h u b = absurd (omega arith)
used_row n zero (z ∷ l) k h u b = absurd (omega arith)
used_row n (suc used) (z ∷ l) zero h u b = (and_true (is_row n z) _ h).0
used_row n (suc used) (z ∷ l) (suc k) h u b = used_row n used l k (and_true (is_row n z) _ h).1 (omega arith) (omega arith)

-- a row is a number from 0 on, and below its count
pub row_is : (n : ℕ) (z : ℤ) → is_row n z ≡ true → (z ≡ pos (nat_abs z)) × (nat_abs z < n)
unfolding is_row
row_is n (pos k) h = (refl, ltb-true k n h)
row_is n (negsuc k) h = absurd (false≢true h)
