-- Laws of numbers that are laid over a table from an index on, by induction on the index and the table.
use mathlib.Core.Path.{◌≡◌, refl, ap, sym, ◌∙◌}
use mathlib.Core.List.{List, [], ◌∷◌, ◌++◌}
use mathlib.Core.Bool.{Bool, true, false}
use Prim.Native.Nat.{ℕ, zero, suc, ◌+◌, ◌≤◌, min}
use native.Mathlib.Nat.{add-zero, min-eq_left, min-eq_right, le_of_lt, le_refl}
use native.Mathlib.Omega.{arith}
use borrow.Author.Tests.{leb-true, leb-false}
use lib.Dec.{leb}
use lib.IntN.{ℤ}
use lib.ListN.{length, set, take, drop}
use Rattle.table_rows.specs.Internal.Overlay.{overlay, overlay_at}

overlay-length : (zs t : List ℤ) → length (overlay zs t) ≡ length t
unfolding overlay
overlay-length [] t = refl
overlay-length (z ∷ zs) [] = refl
overlay-length (z ∷ zs) (x ∷ t) = ap suc (overlay-length zs t)

overlay_nil : (zs : List ℤ) → overlay zs [] ≡ []
unfolding overlay
overlay_nil [] = refl
overlay_nil (z ∷ zs) = refl

overlay_at_nil : (i : ℕ) (zs : List ℤ) → overlay_at i zs [] ≡ []
unfolding overlay_at
overlay_at_nil zero zs = overlay_nil zs
overlay_at_nil (suc i) zs = refl

-- no numbers
pub overlay_at_none : (i : ℕ) (t : List ℤ) → overlay_at i [] t ≡ t
unfolding overlay_at overlay
overlay_at_none zero t = refl
overlay_at_none (suc i) [] = refl
overlay_at_none (suc i) (x ∷ t) = ap (λ (l : List ℤ). x ∷ l) (overlay_at_none i t)

-- a table keeps its length
pub overlay_at-length : (i : ℕ) (zs t : List ℤ) → length (overlay_at i zs t) ≡ length t
unfolding overlay_at
overlay_at-length zero zs t = overlay-length zs t
overlay_at-length (suc i) zs [] = refl
overlay_at-length (suc i) zs (x ∷ t) = ap suc (overlay_at-length i zs t)

-- from its end on nothing is written
pub overlay_at_past : (i : ℕ) (zs t : List ℤ) → length t ≤ i → overlay_at i zs t ≡ t
unfolding overlay_at
overlay_at_past i zs [] h = overlay_at_nil i zs
overlay_at_past zero zs (x ∷ t) h = absurd (omega arith)
overlay_at_past (suc i) zs (x ∷ t) h = ap (λ (l : List ℤ). x ∷ l) (overlay_at_past i zs t (omega arith))

-- one number, and then the others
pub overlay_at-cons : (i : ℕ) (z : ℤ) (zs t : List ℤ) → overlay_at i (z ∷ zs) t ≡ overlay_at (suc i) zs (set t i z)
unfolding overlay_at overlay
overlay_at-cons zero z zs [] = refl
overlay_at-cons zero z zs (x ∷ t) = refl
overlay_at-cons (suc i) z zs [] = refl
overlay_at-cons (suc i) z zs (x ∷ t) = ap (λ (l : List ℤ). x ∷ l) (overlay_at-cons i z zs t)

-- some numbers, and then others
pub overlay_at-append : (i : ℕ) (xs ys t : List ℤ) → overlay_at i (xs ++ ys) t ≡ overlay_at (i + length xs) ys (overlay_at i xs t)
overlay_at-append i [] ys t = rw (overlay_at_none i t, add-zero)
overlay_at-append i (x ∷ xs) ys t =
    overlay_at-cons i x (xs ++ ys) t ∙ overlay_at-append (suc i) xs ys (set t i x) ∙ rw (overlay_at-cons i x xs t) (ap (λ (n : ℕ). overlay_at n ys (overlay_at (suc i) xs (set t i x))) (omega arith))

-- past a table's end an index is as good as the end
pub overlay_at-min : (i : ℕ) (zs t : List ℤ) → overlay_at (min i (length t)) zs t ≡ overlay_at i zs t
overlay_at-min i zs t = go (leb i (length t)) refl
  where
    go : (v : Bool) → leb i (length t) ≡ v → overlay_at (min i (length t)) zs t ≡ overlay_at i zs t
    go true e = rw (min-eq_left (leb-true _ _ e))
    go false e = let h = le_of_lt (leb-false _ _ e) in rw (min-eq_right h, overlay_at_past i zs t h, overlay_at_past (length t) zs t (le_refl (length t)))

pub overlay_at-same : (i j : ℕ) (zs t : List ℤ) → min i (length t) ≡ min j (length t) → overlay_at i zs t ≡ overlay_at j zs t
overlay_at-same i j zs t e = sym (overlay_at-min i zs t) ∙ ap (λ (n : ℕ). overlay_at n zs t) e ∙ overlay_at-min j zs t

-- ---- parts of a table that numbers have been laid over

overlay-part : (zs t : List ℤ) → length zs ≤ length t → take (length zs) (overlay zs t) ≡ zs
unfolding overlay
overlay-part [] t h = refl
overlay-part (z ∷ zs) [] h = absurd (omega arith)
overlay-part (z ∷ zs) (x ∷ t) h = ap (λ (l : List ℤ). z ∷ l) (overlay-part zs t (omega arith))

-- the numbers stand where they were laid
pub overlay_at-part : (i : ℕ) (zs t : List ℤ) → i + length zs ≤ length t → take (length zs) (drop i (overlay_at i zs t)) ≡ zs
unfolding overlay_at
overlay_at-part zero zs t h = overlay-part zs t (omega arith)
overlay_at-part (suc i) zs [] h = absurd (omega arith)
overlay_at-part (suc i) zs (x ∷ t) h = overlay_at-part i zs t (omega arith)

take_below : (m i : ℕ) (zs t : List ℤ) → m ≤ i → take m (overlay_at i zs t) ≡ take m t
unfolding overlay_at
take_below zero i zs t h = refl
take_below (suc m) zero zs t h = absurd (omega arith)
take_below (suc m) (suc i) zs [] h = refl
take_below (suc m) (suc i) zs (x ∷ t) h = ap (λ (l : List ℤ). x ∷ l) (take_below m i zs t (omega arith))

-- a part below them is as it was
pub overlay_at-below : (a m i : ℕ) (zs t : List ℤ) → a + m ≤ i → take m (drop a (overlay_at i zs t)) ≡ take m (drop a t)
unfolding overlay_at
overlay_at-below zero m i zs t h = take_below m i zs t (omega arith)
overlay_at-below (suc a) m zero zs t h = absurd (omega arith)
overlay_at-below (suc a) m (suc i) zs [] h = refl
overlay_at-below (suc a) m (suc i) zs (x ∷ t) h = overlay_at-below a m i zs t (omega arith)
