-- Laws of a part of a text, and of the comparison of two lists of bytes, by induction on the lists.
use mathlib.Core.Path.{◌≡◌, refl, ap, sym, ◌∙◌}
use mathlib.Core.List.{List, [], ◌∷◌, ◌++◌}
use mathlib.Core.Bool.{Bool, true, false, ◌&&◌, and-false, false≢true}
use Prim.Native.Nat.{ℕ, suc, ◌+◌, ◌-◌, ◌≤◌, ◌<◌}
use native.Mathlib.Nat.{sub-eq-zero_of_le}
use native.Mathlib.Omega.{arith}
use borrow.Author.Tests.{eqb-true, eq-eqb, ne_eqb}
use lib.Dec.{eqb}
use lib.ListN.{length, take, drop, get_or, length-take, length-drop, drop_of_length-le}
use lib.Seq.{drop-cons, take_all, take-nil, take-take, take-suc, get_or-take, get_or-drop}
use Rattle.text_runs.specs.Runs.{part, same}

pub part_none : (text : List ℕ) (start end : ℕ) → end ≤ start → part text start end ≡ []
unfolding part
part_none text start end h = rw (sub-eq-zero_of_le h)

pub part_past : (text : List ℕ) (start end : ℕ) → length text ≤ start → part text start end ≡ []
unfolding part
part_past text start end h = rw (drop_of_length-le text h, take-nil)

-- an end past the text's is the text's
pub part-rest : (text : List ℕ) (start end : ℕ) → length text ≤ end → part text start end ≡ part text start (length text)
unfolding part
part-rest text start end h =
    take_all (end - start) (drop start text) (rw length-drop (omega arith))
    ∙ sym (take_all (length text - start) (drop start text) (rw length-drop (omega arith)))

pub same_lengths : (a b : List ℕ) → (length a ≡ length b → ⊥) → same a b ≡ false
unfolding same
same_lengths [] [] h = absurd (h refl)
same_lengths [] (y ∷ b) h = refl
same_lengths (x ∷ a) [] h = refl
same_lengths (x ∷ a) (y ∷ b) h = rw (same_lengths a b (λ e. h (ap suc e))) (and-false (eqb x y))

pub same_refl : (a b : List ℕ) → a ≡ b → same a b ≡ true
unfolding same
same_refl [] b e = rw (← e)
same_refl (x ∷ a) b e = rw (← e) (rw (eq-eqb x x refl, same_refl a a refl))

-- one byte passed
pub same_true : (a b : List ℕ) → same a b ≡ true → a ≡ b
unfolding same
same_true [] [] e = refl
same_true [] (y ∷ b) e = absurd (false≢true e)
same_true (x ∷ a) [] e = absurd (false≢true e)
same_true (x ∷ a) (y ∷ b) e = go (eqb x y) refl (same_true a b)
  where
    go : (v : Bool) → eqb x y ≡ v → (same a b ≡ true → a ≡ b) → x ∷ a ≡ y ∷ b
    go true o ih = rw (eqb-true x y o, ih (rw o at e))
    go false o ih = absurd (false≢true (rw o at e))

pub same_step : (a b : List ℕ) (i : ℕ) → i < length a → i < length b → same (drop i a) (drop i b) ≡ (eqb (get_or a i 0) (get_or b i 0) && same (drop (suc i) a) (drop (suc i) b))
unfolding same
same_step a b i h k = rw (drop-cons a i 0 h, drop-cons b i 0 k)

pub same_differ : (a b : List ℕ) (i : ℕ) → i < length a → i < length b → (get_or a i 0 ≡ get_or b i 0 → ⊥) → same (drop i a) (drop i b) ≡ false
same_differ a b i h k n = rw (same_step a b i h k, ne_eqb _ _ n)

pub same_agree : (a b : List ℕ) (i : ℕ) → i < length a → i < length b → get_or a i 0 ≡ get_or b i 0 → same (drop i a) (drop i b) ≡ same (drop (suc i) a) (drop (suc i) b)
same_agree a b i h k e = rw (same_step a b i h k, eq-eqb _ _ e)

pub same_end : (a b : List ℕ) (i : ℕ) → length a ≤ i → length b ≤ i → same (drop i a) (drop i b) ≡ true
unfolding same
same_end a b i h k = rw (drop_of_length-le a h, drop_of_length-le b k)

-- ---- a part by its bytes

pub part_length : (text : List ℕ) (start end : ℕ) → length (part text start end) ≤ end - start
unfolding part
part_length text start end = rw length-take (omega arith)

pub part-whole : (text : List ℕ) (start end : ℕ) → end ≤ length text → length (part text start end) ≡ end - start
unfolding part
part-whole text start end h = rw (length-take, length-drop) (omega arith)

get_or-same : (text : List ℕ) (i j : ℕ) → i ≡ j → get_or text i 0 ≡ get_or text j 0
get_or-same text i j e = rw e

pub part_at : (text : List ℕ) (start end i : ℕ) → start ≤ i → i < end → get_or (part text start end) (i - start) 0 ≡ get_or text i 0
unfolding part
part_at text start end i h k = get_or-take (end - start) (drop start text) (i - start) 0 (omega arith) ∙ get_or-drop start text (i - start) 0 ∙ get_or-same text (start + (i - start)) i (omega arith)

pub part_prefix : (text : List ℕ) (start i end : ℕ) → i ≤ end → part text start i ≡ take (i - start) (part text start end)
unfolding part
part_prefix text start i end h = sym (take-take (i - start) (end - start) (drop start text) (omega arith))

-- one byte more
pub part_snoc : (text : List ℕ) (start i : ℕ) → start ≤ i → i < length text → part text start (i + 1) ≡ part text start i ++ (get_or text i 0 ∷ [])
unfolding part
part_snoc text start i h k =
    let e : i + 1 - start ≡ suc (i - start) = omega arith in
    ap (λ (n : ℕ). take n (drop start text)) e
    ∙ take-suc (drop start text) (i - start) 0 (rw length-drop (omega arith))
    ∙ ap (λ (b : ℕ). take (i - start) (drop start text) ++ (b ∷ [])) (get_or-drop start text (i - start) 0 ∙ get_or-same text (start + (i - start)) i (omega arith))
