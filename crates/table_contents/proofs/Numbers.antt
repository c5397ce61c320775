-- Numbers without places, part by part: of parts one after the other they are those of each from where it stands, and two numbers at a place count as one where their names' presence is the same.
use mathlib.Core.Path.{◌≡◌, refl, ap, ap₂, sym, ◌∙◌}
use mathlib.Core.List.{List, [], ◌∷◌, ◌++◌}
use mathlib.Core.Bool.{true, cond}
use Prim.Native.Nat.{ℕ, suc, ◌+◌}
use native.Mathlib.Omega.{arith}
use lib.IntN.{ℤ}
use lib.ListN.{length}
use Rattle.table_contents.specs.Contents.{is_place, presence, unplaced}

module _ (places : List ℕ) where
  unplaced-length : (i : ℕ) (zs : List ℤ) → length (unplaced places i zs) ≡ length zs
  unfolding unplaced
  unplaced-length i [] = refl
  unplaced-length i (z ∷ zs) = ap suc (unplaced-length (suc i) zs)

  unplaced-append : (i : ℕ) (a b : List ℤ) → unplaced places i (a ++ b) ≡ unplaced places i a ++ unplaced places (i + length a) b
  unfolding unplaced
  unplaced-append i [] b = let e : i + 0 ≡ i = omega arith in rw e
  unplaced-append i (z ∷ a) b = let e : i + suc (length a) ≡ suc i + length a = omega arith in rw e (ap (◌∷◌ (cond (is_place places i) (presence z) z)) (unplaced-append (suc i) a b))

  -- the same from an index on, place for place
  abbrev pub Same : ℕ → List ℤ → List ℤ → Type 0
  Same i a' a = unplaced places i a' ≡ unplaced places i a

  same_length : (i : ℕ) (a' a : List ℤ) → Same i a' a → length a' ≡ length a
  same_length i a' a e = sym (unplaced-length i a') ∙ ap length e ∙ unplaced-length i a

  pub same_parts : (i : ℕ) (a' a b' b : List ℤ) → Same i a' a → Same (i + length a) b' b → Same i (a' ++ b') (a ++ b)
  same_parts i a' a b' b e d =
      unplaced-append i a' b'
      ∙ ap₂ ◌++◌ e (ap (λ (n : ℕ). unplaced places (i + n) b') (same_length i a' a e) ∙ d)
      ∙ sym (unplaced-append i a b)

  -- one part after two that are the same
  pub same-before : (i : ℕ) (a' a b : List ℤ) → Same i a' a → Same i (a' ++ b) (a ++ b)
  same-before i a' a b e = same_parts i a' a b b e refl

  pub same_place : (i : ℕ) (z' z : ℤ) (zs : List ℤ) → is_place places i ≡ true → presence z' ≡ presence z → Same i (z' ∷ zs) (z ∷ zs)
  unfolding unplaced
  same_place i z' z zs h e = rw (h, e)
