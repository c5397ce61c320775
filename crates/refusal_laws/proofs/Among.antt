-- A number among some is among more, by induction on them; and 0 is no number of any file, by computation.
use mathlib.Core.Path.{◌≡◌, refl, sym, ◌∙◌}
use mathlib.Core.List.{List, [], ◌∷◌, ◌++◌}
use mathlib.Core.Bool.{Bool, true, false, false≢true}
use Prim.Native.Nat.{ℕ, zero, suc}
use lib.Dec.{eqb}
use Rattle.refusal_laws.specs.Numbers.{is_among, figure_numbers, movement_numbers, pair_numbers, numbers_of, moved_numbers_of}

pub among_more : (n : ℕ) (ks more : List ℕ) → is_among n ks ≡ true → is_among n (ks ++ more) ≡ true
unfolding is_among
among_more n [] more e = absurd (false≢true e)
among_more n (k ∷ ks) more e = go (eqb n k) refl (among_more n ks more)
  where
    go : (v : Bool) → eqb n k ≡ v → (is_among n ks ≡ true → is_among n (ks ++ more) ≡ true) → is_among n (k ∷ (ks ++ more)) ≡ true
    go true o ih = rw o
    go false o ih = rw o (ih (rw o at e))

-- 0 is no number of any file
zero-not : (file : ℕ) → (is_among 0 (numbers_of file) ≡ false) × (is_among 0 (moved_numbers_of file) ≡ false)
unfolding is_among numbers_of moved_numbers_of figure_numbers movement_numbers pair_numbers
zero-not zero = (refl, refl)
zero-not (suc zero) = (refl, refl)
zero-not (suc (suc zero)) = (refl, refl)
zero-not (suc (suc (suc k))) = (refl, refl)

not-zero : (n : ℕ) (ks : List ℕ) → is_among 0 ks ≡ false → is_among n ks ≡ true → n ≡ 0 → ⊥
not-zero n ks h e z = false≢true (sym h ∙ rw z at e)

pub number-not-zero : (n file : ℕ) → is_among n (numbers_of file) ≡ true → n ≡ 0 → ⊥
number-not-zero n file = not-zero n (numbers_of file) (zero-not file).0

pub moved-not-zero : (n file : ℕ) → is_among n (moved_numbers_of file) ≡ true → n ≡ 0 → ⊥
moved-not-zero n file = not-zero n (moved_numbers_of file) (zero-not file).1
