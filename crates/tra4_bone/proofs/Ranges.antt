-- Laws of ranges, range by range: each definition at an index is its part for the two numbers there, and the same two on.
use mathlib.Core.Path.{◌≡◌, refl, ap, ap₂, sym, ◌∙◌}
use mathlib.Core.List.{List, [], ◌∷◌, ◌++◌, append_assoc, append-nil}
use Prim.Native.Nat.{ℕ, zero, suc, ◌+◌, ◌*◌, ◌-◌, ◌≤◌, ◌<◌}
use native.Mathlib.Omega.{arith}
use lib.Dec.{T}
use lib.IntN.{ℤ, pos, nat_abs}
use lib.Signed.{non_neg}
use lib.ListN.{length, get_or, take, drop, set, length-take, length-drop, length-set, drop_of_length-le}
use lib.Seq.{drop-cons, take-suc, take_all, take-suc-set, drop-set-lt, get_or-set_other}
use mir.Syntax.{w64}
use mir.Val.{Fits, SFits, to_z, of_z}
use mir.Facts.{to_z-of_z, Fits-nat_abs}
use Rattle.table_rows.specs.Internal.Overlay.{overlay_at}
use Rattle.table_rows.proofs.Tables.{overlay_at_none, overlay_at-append, overlay_at-length}
use Rattle.tra4_text.specs.Layout.{first_row}
use Rattle.tra4_bone.specs.Internal.Laying.{range_rows, gathered, ranges_total, renumbered, RangeIn, Within}

-- a natural number is what a cast gives
pub natural_is : (z : ℤ) (n : ℕ) → z ≡ pos n → nat_abs z ≡ n
natural_is z n e = rw e refl

pub cast_is : (z : ℤ) → SFits w64 z → z ≡ pos (nat_abs z) → nat_abs (to_z w64 (of_z w64 z)) ≡ nat_abs z
cast_is z f e = ap nat_abs (to_z-of_z {w = w64} f ∙ e)

pub cast_fits : (z : ℤ) → SFits w64 z → z ≡ pos (nat_abs z) → T (non_neg (to_z w64 (of_z w64 z))) × Fits w64 (nat_abs (to_z w64 (of_z w64 z)))
cast_fits z f e = rw (to_z-of_z {w = w64} f) (rw e tt, Fits-nat_abs tt f)

-- a range's rows are as many numbers as it says
pub rows-length : (n : ℕ) (f c : ℤ) (keys : List ℤ) → RangeIn n f c → length keys ≡ n * 2 → length (range_rows f c keys) ≡ nat_abs c * 2
unfolding range_rows
rows-length n f c keys h l = let b = h.below in rw (length-take, length-drop, l) (omega arith)

-- they are the part of the table between two indices
pub part-is : (f c : ℤ) (keys : List ℤ) (a e : ℕ) → a ≡ nat_abs f → e ≡ nat_abs c → take (a * 2 + e * 2 - a * 2) (drop (a * 2) keys) ≡ range_rows f c keys
unfolding range_rows
part-is f c keys a e p q = let d : nat_abs f * 2 + nat_abs c * 2 - nat_abs f * 2 ≡ nat_abs c * 2 = omega arith in rw (p, q, d) refl

-- where a range's rows begin
pub first_none : (row count : ℕ) → count ≡ 0 → 0 ≡ first_row row count
unfolding first_row
first_none row zero e = refl
first_none row (suc count) e = absurd (omega arith)

pub first_some : (row count : ℕ) → (count ≡ 0 → ⊥) → row ≡ first_row row count
unfolding first_row
first_some row zero h = absurd (h refl)
first_some row (suc count) h = refl

pub first_small : (first row count : ℕ) → first ≡ first_row row count → row ≤ 4096 → first ≤ 4096
unfolding first_row
first_small first row zero e h = omega arith
first_small first row (suc count) e h = omega arith

-- two numbers in front
gathered_two : (f c : ℤ) (rs keys : List ℤ) → gathered (f ∷ c ∷ rs) keys ≡ range_rows f c keys ++ gathered rs keys
unfolding gathered
gathered_two f c rs keys = refl

total_two : (f c : ℤ) (rs : List ℤ) → ranges_total (f ∷ c ∷ rs) ≡ nat_abs c + ranges_total rs
unfolding ranges_total
total_two f c rs = refl

renumbered_two : (row : ℕ) (f c : ℤ) (rs : List ℤ) → renumbered row (f ∷ c ∷ rs) ≡ pos (first_row row (nat_abs c)) ∷ c ∷ renumbered (row + nat_abs c) rs
unfolding renumbered
renumbered_two row f c rs = refl

within-head : (n : ℕ) (f c : ℤ) (rs : List ℤ) → Within n (f ∷ c ∷ rs) → RangeIn n f c
unfolding Within
within-head n f c rs h = h.0

within_tail : (n : ℕ) (f c : ℤ) (rs : List ℤ) → Within n (f ∷ c ∷ rs) → Within n rs
unfolding Within
within_tail n f c rs h = h.1

-- the two numbers at an index
abbrev first_at : List ℤ → ℕ → ℤ
first_at ranges i = get_or ranges i (pos 0)

abbrev count_at : List ℤ → ℕ → ℤ
count_at ranges i = get_or ranges (i + 1) (pos 0)

split_two : (ranges : List ℤ) (i : ℕ) → i + 1 < length ranges → drop i ranges ≡ first_at ranges i ∷ count_at ranges i ∷ drop (i + 2) ranges
split_two ranges i h =
    let one : suc i ≡ i + 1 = omega arith in
    let two : suc (i + 1) ≡ i + 2 = omega arith in
    drop-cons ranges i (pos 0) (omega arith)
    ∙ ap (λ (l : List ℤ). first_at ranges i ∷ l) (ap (λ (n : ℕ). drop n ranges) one ∙ drop-cons ranges (i + 1) (pos 0) h ∙ ap (λ (n : ℕ). count_at ranges i ∷ drop n ranges) two)

-- the ranges before index i have been laid, and the next row is free: to lay those from i on gives what all gave at first
pub record Left (ranges₀ keys table₀ : List ℤ) (row : ℕ) (i : ℕ) (ranges table : List ℤ) (next : ℕ) : Type 0 where
  pub width : length ranges ≡ length ranges₀
  pub span : length table ≡ length table₀
  pub within : Within 4096 (drop i ranges)
  pub room : next + ranges_total (drop i ranges) ≤ 4096
  pub numbers : take i ranges ++ renumbered next (drop i ranges) ≡ renumbered row ranges₀
  pub content : overlay_at (next * 2) (gathered (drop i ranges) keys) table ≡ overlay_at (row * 2) (gathered ranges₀ keys) table₀

pub left-all : (ranges keys table : List ℤ) (row : ℕ) → Within 4096 ranges → row + ranges_total ranges ≤ 4096 → Left ranges keys table row 0 ranges table row
left-all ranges keys table row w r = record { width = refl; span = refl; within = w; room = r; numbers = refl; content = refl }

module _ (ranges₀ keys table₀ : List ℤ) (row i : ℕ) (ranges table : List ℤ) (next : ℕ) (h : Left ranges₀ keys table₀ row i ranges table next) where
  -- the end
  module _ (e : length ranges ≤ i) where
    pub left-numbers : ranges ≡ renumbered row ranges₀
    unfolding renumbered
    left-numbers = sym (sym h.numbers ∙ rw (drop_of_length-le ranges e, take_all i ranges e) (append-nil ranges))

    pub left-content : table ≡ overlay_at (row * 2) (gathered ranges₀ keys) table₀
    unfolding gathered
    left-content = sym (overlay_at_none (next * 2) table) ∙ (rw (drop_of_length-le ranges e) at h.content)

  -- one range more
  module _ (b : i + 1 < length ranges) where
    pub range-here : RangeIn 4096 (first_at ranges i) (count_at ranges i)
    range-here = within-head 4096 _ _ _ (rw (split_two ranges i b) at h.within)

    pub next_small : next ≤ 4096
    next_small = let r = h.room in omega arith

    set_rest : (z : ℤ) → drop (i + 2) (set ranges i z) ≡ drop (i + 2) ranges
    set_rest z = drop-set-lt (i + 2) ranges i z (omega arith)

    set_front : (z : ℤ) → take (i + 2) (set ranges i z) ≡ take i ranges ++ (z ∷ count_at ranges i ∷ [])
    set_front z =
        let one : i + 1 ≡ suc i = omega arith in
        let two : i + 2 ≡ suc (i + 1) = omega arith in
        ap (λ (n : ℕ). take n (set ranges i z)) two
        ∙ take-suc (set ranges i z) (i + 1) (pos 0) (rw length-set b)
        ∙ ap₂ (λ (l : List ℤ) (x : ℤ). l ++ (x ∷ [])) (ap (λ (n : ℕ). take n (set ranges i z)) one ∙ take-suc-set ranges i z (omega arith)) (get_or-set_other ranges i (i + 1) z (pos 0) (λ e. omega arith))
        ∙ append_assoc (take i ranges) (z ∷ []) (count_at ranges i ∷ [])

    -- its number
    abbrev first : ℤ
    first = pos (first_row next (nat_abs (count_at ranges i)))

    next_is : length keys ≡ 8192 → Left ranges₀ keys table₀ row (i + 2) (set ranges i first) (overlay_at (next * 2) (range_rows (first_at ranges i) (count_at ranges i) keys) table) (next + nat_abs (count_at ranges i))
    next_is k =
        let f = first_at ranges i in
        let c = count_at ranges i in
        let rest = drop (i + 2) ranges in
        let s : drop i ranges ≡ f ∷ c ∷ rest = split_two ranges i b in
        let t : ranges_total (drop i ranges) ≡ nat_abs c + ranges_total rest = ap ranges_total s ∙ total_two f c rest in
        let r = h.room in
        let n = rows-length 4096 f c keys range-here k in
        let e : (next + nat_abs c) * 2 ≡ next * 2 + length (range_rows f c keys) = rw n (omega arith) in
        record {
          width = length-set ranges i first ∙ h.width;
          span = overlay_at-length (next * 2) (range_rows f c keys) table ∙ h.span;
          within = rw (set_rest first) (within_tail 4096 f c rest (rw s at h.within));
          room = rw (set_rest first) (omega arith);
          numbers =
              rw (set_front first, set_rest first)
              (append_assoc (take i ranges) (first ∷ c ∷ []) (renumbered (next + nat_abs c) rest)
              ∙ ap (λ (l : List ℤ). take i ranges ++ l) (sym (ap (renumbered next) s ∙ renumbered_two next f c rest))
              ∙ h.numbers);
          content =
              rw (set_rest first, e)
              (sym (overlay_at-append (next * 2) (range_rows f c keys) (gathered rest keys) table)
              ∙ ap (λ (l : List ℤ). overlay_at (next * 2) l table) (sym (ap (λ (l : List ℤ). gathered l keys) s ∙ gathered_two f c rest keys))
              ∙ h.content);
        }

    pub left_next : length keys ≡ 8192 → (i' : ℕ) (ranges' table' : List ℤ) (next' : ℕ) → i' ≡ i + 2 → ranges' ≡ set ranges i first → table' ≡ overlay_at (next * 2) (range_rows (first_at ranges i) (count_at ranges i) keys) table → next' ≡ next + nat_abs (count_at ranges i) → Left ranges₀ keys table₀ row i' ranges' table' next'
    left_next k i' ranges' table' next' e r t n = rw (e, r, t, n) (next_is k)
