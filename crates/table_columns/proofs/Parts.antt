-- Parts of a table: their numbers, their rows, and a part as a slice lends it.
use mathlib.Core.Path.{◌≡◌, refl, ap, sym}
use mathlib.Core.List.{List, [], ◌∷◌}
use Prim.Native.Nat.{ℕ, zero, suc, ◌+◌, ◌*◌, ◌-◌, ◌≤◌, ◌<◌}
use native.Mathlib.Nat.{suc-mul}
use native.Mathlib.Omega.{arith}
use lib.IntN.{ℤ, pos}
use lib.ListN.{length, get_or, take, drop, length-take, length-drop}
use lib.Seq.{drop-drop, drop-cons}
use Rattle.table_columns.specs.Parts.{numbers_at, rows_at}

take-take : (n m : ℕ) (l : List ℤ) → n ≤ m → take n (take m l) ≡ take n l
take-take zero m l h = refl
take-take (suc n) (suc m) [] h = refl
take-take (suc n) (suc m) (x ∷ l) h = ap (◌∷◌ x) (take-take n m l (omega arith))
take-take (suc n) zero l h = absurd (omega arith)

take_none : (m : ℕ) → ◌≡◌ {A = List ℤ} (take m []) []
take_none zero = refl
take_none (suc m) = refl

drop-take : (j m k : ℕ) (l : List ℤ) → k ≡ j + m → drop j (take k l) ≡ take m (drop j l)
drop-take zero m k l e =
    let f : k ≡ m = omega arith in
    rw f
drop-take (suc j) m k [] e = rw (take_none k) (sym (take_none m))
drop-take (suc j) m (suc k) (x ∷ l) e = drop-take j m k l (omega arith)
drop-take (suc j) m zero (x ∷ l) e = absurd (omega arith)

part-row : (w i j m : ℕ) (table : List ℤ) → j + w ≤ m → numbers_at (take m (drop i table)) j w ≡ numbers_at table (i + j) w
unfolding numbers_at
part-row w i j m table h =
    rw (drop-take j (m - j) m (drop i table) (omega arith), drop-drop j i table) (take-take w (m - j) (drop (i + j) table) (omega arith))

pub part-rows : (w i j m n : ℕ) (table : List ℤ) → j + n * w ≤ m → rows_at w (take m (drop i table)) j n ≡ rows_at w table (i + j) n
unfolding rows_at
part-rows w i j m zero table h = refl
part-rows w i j m (suc n) table h =
    let e : i + (j + w) ≡ i + j + w = omega arith in
    let f : suc n * w ≡ n * w + w = suc-mul n w in
    rw (part-row w i j m table (omega arith), part-rows w i (j + w) m n table (omega arith), e)

pub three-same : {x y z x' y' z' : ℤ} → x ≡ x' → y ≡ y' → z ≡ z' → ◌≡◌ {A = List ℤ} (x ∷ y ∷ z ∷ []) (x' ∷ y' ∷ z' ∷ [])
three-same e f g = rw (e, f, g)

pub two_same : {x y x' y' : ℤ} → x ≡ x' → y ≡ y' → ◌≡◌ {A = List ℤ} (x ∷ y ∷ []) (x' ∷ y' ∷ [])
two_same e f = rw (e, f)

pub three-at : (l : List ℤ) (j : ℕ) → j + 2 < length l → numbers_at l j 3 ≡ get_or l j (pos 0) ∷ get_or l (j + 1) (pos 0) ∷ get_or l (j + 2) (pos 0) ∷ []
unfolding numbers_at
three-at l j h =
    let e : j + 1 ≡ suc j = omega arith in
    let f : j + 2 ≡ suc (suc j) = omega arith in
    rw (drop-cons l j (pos 0) (omega arith), drop-cons l (suc j) (pos 0) (omega arith), drop-cons l (suc (suc j)) (pos 0) (omega arith), e, f)

pub part_length : (b w : ℕ) (l : List ℤ) → b + w ≤ length l → length (take (b + w - b) (drop b l)) ≡ w
part_length b w l h =
    let e : b + w - b ≡ w = omega arith in
    rw e (rw (length-take w (drop b l), length-drop b l) (omega arith))

pub part-numbers : (b b' w : ℕ) (l : List ℤ) → b ≡ b' → take (b + w - b) (drop b l) ≡ numbers_at l b' w
unfolding numbers_at
part-numbers b b' w l h =
    let e : b + w - b ≡ w = omega arith in
    rw (e, h)

pub two_at : (keys : List ℤ) (j : ℕ) → j + 1 < length keys → numbers_at keys j 2 ≡ get_or keys j (pos 0) ∷ get_or keys (j + 1) (pos 0) ∷ []
unfolding numbers_at
two_at keys j h =
    let e : j + 1 ≡ suc j = omega arith in
    rw (drop-cons keys j (pos 0) (omega arith), drop-cons keys (suc j) (pos 0) (omega arith), e)
