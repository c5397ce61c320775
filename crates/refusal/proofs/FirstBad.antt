-- The first row that fails a test, and whether one does.
use mathlib.Core.Path.{◌≡◌, refl}
use mathlib.Core.List.{List, [], ◌∷◌}
use mathlib.Core.Bool.{Bool, true, false, ◌&&◌}
use Prim.Native.Nat.{ℕ, suc}
use Rattle.refusal.specs.FirstBad.{all, first_bad}
use Rattle.refusal.specs.Faults.{is_clear}

-- the first row at fault is none exactly where all rows pass
pub first_bad-clear : {A : Type 0} (n : ℕ) (t : A → Bool) (row : ℕ) (l : List A) → is_clear (first_bad n t row l) ≡ all t l
unfolding first_bad all is_clear
first_bad-clear n t row [] = refl
first_bad-clear n t row (a ∷ l) = go (t a) refl (first_bad-clear n t (suc row) l)
  where
    go : (v : Bool) → t a ≡ v → is_clear (first_bad n t (suc row) l) ≡ all t l → is_clear (first_bad n t row (a ∷ l)) ≡ (t a && all t l)
    go true e ih = rw (e, first_bad) ih
    go false e ih = rw (e, first_bad)
