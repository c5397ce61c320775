-- Laws of a table's rows, whole from its start on or by their index.
use mathlib.Core.Path.{◌≡◌, refl, ap, ◌∙◌}
use mathlib.Core.List.{List, [], ◌∷◌}
use mathlib.Core.Bool.{Bool, true, false}
use Prim.Native.Nat.{ℕ, zero, suc, ◌+◌, ◌-◌, ◌*◌, ◌/◌, ◌≤◌, ◌<◌, min}
use native.Mathlib.Nat.{sub-zero, zero-sub, zero-mul, suc-mul, add_comm}
use native.Mathlib.Omega.{arith}
use borrow.Author.Tests.{le-leb, lt-leb, leb-true, leb-false}
use lib.Dec.{leb}
use lib.ListN.{length, take, drop, length-take, length-drop}
use lib.Seq.{take_all, drop-drop}
use lib.IntN.{ℤ}
use Rattle.table_columns.specs.Parts.{numbers_at, rows_at, rows_of}

pub rows_more : (w n : ℕ) (t : List ℤ) → w ≤ length t → rows_of w (suc n) t ≡ take w t ∷ rows_of w n (drop w t)
unfolding rows_of
rows_more w n t h = rw (le-leb w (length t) h, rows_of)

pub rows_short : (w n : ℕ) (t : List ℤ) → length t < w → rows_of w n t ≡ []
unfolding rows_of
rows_short w zero t h = refl
rows_short w (suc n) t h = rw (lt-leb w (length t) h, rows_of)

-- the part of a table that is one row
pub row-part : (w base : ℕ) → base + w - base ≡ w
row-part w base = omega arith

-- the part that is all the rest
pub part-rest : (base : ℕ) (t : List ℤ) → take (length t - base) (drop base t) ≡ drop base t
part-rest base t = take_all (length t - base) (drop base t) (rw length-drop (omega arith))

pub row-length : (w : ℕ) (t : List ℤ) (base : ℕ) → w ≤ length t - base → length (take w (drop base t)) ≡ w
row-length w t base h = rw (length-take, length-drop) (omega arith)

-- ---- parts of the rows

pub rows_drop : (w n row : ℕ) (t : List ℤ) → drop row (rows_of w n t) ≡ rows_of w (n - row) (drop (row * w) t)
rows_drop w n zero t = rw (sub-zero n, zero-mul w)
rows_drop w zero (suc row) t = unfold rows_of in rw (zero-sub (suc row))
rows_drop w (suc n) (suc row) t = go (leb w (length t)) refl (rows_drop w n row (drop w t))
  where
    go : (v : Bool) → leb w (length t) ≡ v → drop row (rows_of w n (drop w t)) ≡ rows_of w (n - row) (drop (row * w) (drop w t)) → drop (suc row) (rows_of w (suc n) t) ≡ rows_of w (suc n - suc row) (drop (suc row * w) t)
    go true e ih =
        let k : suc n - suc row ≡ n - row = omega arith in
        rw (rows_more w n t (leb-true w (length t) e), suc-mul row w, k) (ih ∙ rw (drop-drop, add_comm w (row * w)))
    go false e ih = rw (rows_short w (suc n) t (leb-false w (length t) e), rows_short w (suc n - suc row) (drop (suc row * w) t) (rw length-drop (omega (arith, leb-false w (length t) e))))

pub rows_take : (w n m : ℕ) (t : List ℤ) → m ≤ n → take m (rows_of w n t) ≡ rows_of w m t
rows_take w n zero t h = unfold rows_of in refl
rows_take w zero (suc m) t h = absurd (omega arith)
rows_take w (suc n) (suc m) t h = go (leb w (length t)) refl (rows_take w n m (drop w t) (omega arith))
  where
    go : (v : Bool) → leb w (length t) ≡ v → take m (rows_of w n (drop w t)) ≡ rows_of w m (drop w t) → take (suc m) (rows_of w (suc n) t) ≡ rows_of w (suc m) t
    go true e ih = let h = leb-true w (length t) e in rw (rows_more w n t h, rows_more w m t h, ih)
    go false e ih = let h = leb-false w (length t) e in rw (rows_short w (suc n) t h, rows_short w (suc m) t h)

-- how many whole rows of two numbers there are
pub pairs_count : (n : ℕ) (t : List ℤ) → length (rows_of 2 n t) ≡ min n (length t / 2)
pairs_count zero t = unfold rows_of in omega arith
pairs_count (suc n) t = go (leb 2 (length t)) refl (pairs_count n (drop 2 t))
  where
    go : (v : Bool) → leb 2 (length t) ≡ v → length (rows_of 2 n (drop 2 t)) ≡ min n (length (drop 2 t) / 2) → length (rows_of 2 (suc n) t) ≡ min (suc n) (length t / 2)
    go true e ih = let h = leb-true 2 (length t) e in rw (rows_more 2 n t h, ih, length-drop) (omega arith)
    go false e ih = let h = leb-false 2 (length t) e in rw (rows_short 2 (suc n) t h) (omega arith)

-- ---- parts up to a list's length

pub take_least : {A : Type 0} (n : ℕ) (l : List A) → take (min n (length l)) l ≡ take n l
take_least zero l = let e : min 0 (length l) ≡ 0 = omega arith in rw e
take_least (suc n) [] = let e : min (suc n) 0 ≡ 0 = omega arith in rw e
take_least (suc n) (x ∷ l) = let e : min (suc n) (suc (length l)) ≡ suc (min n (length l)) = omega arith in rw (e, take_least n l)

pub drop_least : {A : Type 0} (n : ℕ) (l : List A) → drop (min n (length l)) l ≡ drop n l
drop_least zero l = let e : min 0 (length l) ≡ 0 = omega arith in rw e
drop_least (suc n) [] = let e : min (suc n) 0 ≡ 0 = omega arith in rw e
drop_least (suc n) (x ∷ l) = let e : min (suc n) (suc (length l)) ≡ suc (min n (length l)) = omega arith in rw (e, drop_least n l)

-- ---- rows by their index are the whole rows from there on, where the table is long enough

pub rows-at : (w : ℕ) (t : List ℤ) (i n : ℕ) → i + n * w ≤ length t → rows_at w t i n ≡ rows_of w n (drop i t)
unfolding rows_at numbers_at
rows-at w t i zero h = unfold rows_of in refl
rows-at w t i (suc n) h =
    let e : suc n * w ≡ n * w + w = suc-mul n w in
    rw (rows_more w n (drop i t) (rw length-drop (omega arith)), drop-drop w i t) (ap (λ (l : List (List ℤ)). take w (drop i t) ∷ l) (rows-at w t (i + w) n (omega arith)))
