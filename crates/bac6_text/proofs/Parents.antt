-- The rows that a list of bones takes and those that it leaves are all: so where no row is left over, each bone has a parent.
use mathlib.Core.Path.{◌≡◌, refl}
use mathlib.Core.List.{List, [], ◌∷◌}
use mathlib.Core.Bool.{Bool, true, false}
use Prim.Native.Nat.{ℕ, zero, suc, ◌+◌}
use native.Mathlib.Omega.{arith}
use lib.ListN.{length, length-append}
use lib.IntN.{ℤ, pos, negsuc}
use Rattle.refusal.specs.Faults.{clear}
pub use Rattle.refusal.proofs.Faults.{fault-not-clear}
use Rattle.bac6_text.specs.Rules.{Flags, Placed, placed, short, is_set, joined, then_if, bone_list, parents_in, whole_list, placed_fault, bones_fault}

unfoldable pub Leaves : List Flags → Placed → Type 0
Leaves fs (placed ps row gs) = length ps + length gs ≡ length fs
Leaves fs short = Unit {0}

leaves_joined : (fs gs : List Flags) (ps : List ℤ) (q : Placed) → length ps + length gs ≡ length fs → Leaves gs q → Leaves fs (joined ps q)
unfolding Leaves joined
leaves_joined fs gs ps (placed qs row hs) e h = rw (length-append ps qs) (omega (arith, e, h))
leaves_joined fs gs ps short e h = tt

leaves_then : (fs : List Flags) (b : Bool) (q : Placed) (k : ℕ → List Flags → Placed) → Leaves fs q → ((row : ℕ) (gs : List Flags) → Leaves gs (k row gs)) → Leaves fs (then_if b q k)
unfolding Leaves then_if
leaves_then fs true (placed ps row gs) k h ih = leaves_joined fs gs ps (k row gs) h (ih row gs)
leaves_then fs false (placed ps row gs) k h ih = h
leaves_then fs true short k h ih = tt
leaves_then fs false short k h ih = tt

pub leaves : (n : ℕ) (parent : ℤ) (row : ℕ) (fs : List Flags) → Leaves fs (bone_list n parent row fs)
unfolding bone_list Leaves
leaves zero parent row fs = tt
leaves (suc n) parent row [] = tt
leaves (suc n) parent row (f ∷ fs) =
    leaves_joined (f ∷ fs) fs (parent ∷ []) _ (omega arith) (leaves_then fs (is_set f.1) _ (bone_list n parent) (go (is_set f.0) refl (leaves n (pos row) (suc row) fs)) (λ r gs. leaves n parent r gs))
  where
    go : (v : Bool) → is_set f.0 ≡ v → Leaves fs (bone_list n (pos row) (suc row) fs) → Leaves fs (elim (is_set f.0) [ true ↦ bone_list n (pos row) (suc row) fs | false ↦ placed [] (suc row) fs ])
    go true e h = rw e h
    go false e h = rw e (omega arith)

-- where no row is left over, each has a parent
pub whole_length : (flags : List Flags) → bones_fault flags ≡ clear → length (parents_in (whole_list flags)) ≡ length flags
unfolding bones_fault whole_list Leaves parents_in placed_fault
whole_length flags e = go (bone_list (length flags) (negsuc 0) 0 flags) e (leaves (length flags) (negsuc 0) 0 flags)
  where
    go : (p : Placed) → placed_fault (length flags) p ≡ clear → Leaves flags p → length (parents_in p) ≡ length flags
    go (placed ps row []) e h = omega (arith, h)
    go (placed ps row (f ∷ fs)) e h = absurd (fault-not-clear 10 row e)
    go short e h = absurd (fault-not-clear 10 (length flags) e)
