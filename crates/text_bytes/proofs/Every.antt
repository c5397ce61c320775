-- Laws of what holds of every element of a list, by induction on it.
use mathlib.Core.List.{List, [], ◌∷◌, ◌++◌}
use Prim.Native.Nat.{ℕ, zero, suc, ◌<◌}
use native.Mathlib.Omega.{arith}
use lib.ListN.{length, get_or}
use Rattle.text_bytes.specs.Internal.Every.{Every}

-- by what follows of each
pub every_as : {A : Type 0} {P S : A → Type 0} → ((a : A) → P a → S a) → (l : List A) → Every P l → Every S l
every_as f [] h = tt
every_as f (a ∷ l) h = (f a h.0, every_as f l h.1)

module _ {A : Type 0} (P : A → Type 0) where
  pub every_at : (l : List A) (i : ℕ) (d : A) → Every P l → i < length l → P (get_or l i d)
  every_at [] i d h k = absurd (omega arith)
  every_at (a ∷ l) zero d h k = h.0
  every_at (a ∷ l) (suc i) d h k = every_at l i d h.1 (omega arith)

  pub every_append : (a b : List A) → Every P a → Every P b → Every P (a ++ b)
  every_append [] b h k = k
  every_append (x ∷ a) b h k = (h.0, every_append a b h.1 k)

  pub every_first : (a b : List A) → Every P (a ++ b) → Every P a
  every_first [] b h = tt
  every_first (x ∷ a) b h = (h.0, every_first a b h.1)

  pub every_last : (a b : List A) → Every P (a ++ b) → Every P b
  every_last [] b h = h
  every_last (x ∷ a) b h = every_last a b h.1
