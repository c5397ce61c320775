-- Laws of lists that are laid over a table one after the other: each begins at the index after the one before.
use mathlib.Core.Path.{◌≡◌, refl, ap, sym, ◌∙◌}
use mathlib.Core.List.{List, [], ◌∷◌, ◌++◌}
use Prim.Native.Nat.{ℕ, zero, suc, ◌+◌, ◌-◌, ◌≤◌, min}
use native.Mathlib.Omega.{arith}
use lib.IntN.{ℤ}
use lib.ListN.{length, take, drop, length-drop, length-append, take-append-drop}
use Rattle.table_rows.specs.Internal.Overlay.{overlay, overlay_at}
use Rattle.table_rows.proofs.Tables.{overlay_at-append, overlay_at-length, overlay_at_past, overlay_at-same}

-- a list, and then another from the index after it
pub put_chain : (j i : ℕ) (a b t : List ℤ) → i ≡ min (j + length a) (length t) → overlay_at i b (overlay_at j a t) ≡ overlay_at j (a ++ b) t
put_chain j i a b t e = overlay_at-same i (j + length a) b (overlay_at j a t) (rw (overlay_at-length j a t, e) (omega arith)) ∙ sym (overlay_at-append j a b t)

-- a list that fits, and what the table holds after it
pub overlay-whole : (zs t : List ℤ) → length zs ≤ length t → overlay_at 0 zs t ≡ zs ++ drop (length zs) t
unfolding overlay_at overlay
overlay-whole [] t h = refl
overlay-whole (z ∷ zs) [] h = absurd (omega arith)
overlay-whole (z ∷ zs) (x ∷ t) h = ap (λ (l : List ℤ). z ∷ l) (overlay-whole zs t (omega arith))

-- ---- a part of the table that is lent

-- the numbers from an index on alone are written
from_index : (at : ℕ) (zs t : List ℤ) → overlay_at at zs t ≡ take at t ++ overlay_at 0 zs (drop at t)
unfolding overlay_at
from_index zero zs t = refl
from_index (suc i) zs [] = sym (overlay_at_past 0 zs [] (omega arith))
from_index (suc i) zs (x ∷ t) = ap (λ (l : List ℤ). x ∷ l) (from_index i zs t)

-- and none after the list's last
up_to : (n : ℕ) (zs s : List ℤ) → min (length zs) (length s) ≤ n → overlay_at 0 zs s ≡ overlay_at 0 zs (take n s) ++ drop n s
unfolding overlay_at overlay
up_to n [] s h = sym (take-append-drop n s)
up_to zero (z ∷ zs) [] h = refl
up_to (suc n) (z ∷ zs) [] h = refl
up_to zero (z ∷ zs) (x ∷ s) h = absurd (omega arith)
up_to (suc n) (z ∷ zs) (x ∷ s) h = ap (λ (l : List ℤ). z ∷ l) (up_to n zs s (omega arith))

-- so a list over a part that has room for it, or that ends where the table does, is that list over the table
pub middle : (at end : ℕ) (zs t : List ℤ) → at ≤ end → min (at + length zs) (length t) ≤ end → take at t ++ (overlay_at 0 zs (take (end - at) (drop at t)) ++ drop (end - at) (drop at t)) ≡ overlay_at at zs t
middle at end zs t h e = sym (from_index at zs t ∙ ap (λ (l : List ℤ). take at t ++ l) (up_to (end - at) zs (drop at t) (rw length-drop (omega arith))))

-- the numbers that fit over the numbers of a table, and what follows them
cut : (zs t : List ℤ) (n : ℕ) → n ≡ min (length zs) (length t) → overlay_at 0 zs t ≡ take n zs ++ drop n t
unfolding overlay_at overlay
cut [] t zero h = refl
cut [] t (suc n) h = absurd (omega arith)
cut (z ∷ zs) [] zero h = refl
cut (z ∷ zs) [] (suc n) h = absurd (omega arith)
cut (z ∷ zs) (x ∷ t) zero h = absurd (omega arith)
cut (z ∷ zs) (x ∷ t) (suc n) h = ap (λ (l : List ℤ). z ∷ l) (cut zs t n (omega arith))

-- so they are copied over the part of the table from an index on, or from its end on
pub copied : (at start n : ℕ) (zs t : List ℤ) → start ≡ min at (length t) → n ≡ min (length zs) (length t - start) → take start t ++ (take n zs ++ drop n (drop start t)) ≡ overlay_at at zs t
copied at start n zs t s e =
    ap (λ (l : List ℤ). take start t ++ l) (sym (cut zs (drop start t) n (rw length-drop e)))
    ∙ sym (from_index start zs t)
    ∙ overlay_at-same start at zs t (omega (arith, s))

-- ---- lists laid from a table's start on

-- what a table holds after lists, and the index after them
abbrev pub Laid : List ℤ → List ℤ → List ℤ → ℕ → Type 0
Laid t zs exit i = (exit ≡ overlay_at 0 zs t) × (i ≡ min (length zs) (length t))

pub laid-first : (t zs exit : List ℤ) (i : ℕ) → exit ≡ overlay_at 0 zs t → i ≡ min (0 + length zs) (length t) → Laid t zs exit i
laid-first t zs exit i x e = (x, omega (arith, e))

pub laid_next : (t zs mid : List ℤ) (i : ℕ) (b exit : List ℤ) (k : ℕ) → Laid t zs mid i → exit ≡ overlay_at i b mid → k ≡ min (i + length b) (length mid) → Laid t (zs ++ b) exit k
laid_next t zs mid i b exit k l x e =
    let n : length mid ≡ length t = ap length l.0 ∙ overlay_at-length 0 zs t in
    let a : length (zs ++ b) ≡ length zs + length b = length-append zs b in
    (x ∙ ap (overlay_at i b) l.0 ∙ put_chain 0 i zs b t (omega (arith, l.1)), omega (arith, l.1, e, n, a))
