-- Laws of a list of bones: one bone and then the rest, and that more turns than rows change nothing.
use mathlib.Core.Path.{◌≡◌, refl, ap, sym}
use mathlib.Core.List.{List, [], ◌∷◌, ◌++◌, append_assoc}
use mathlib.Core.Bool.{Bool, true, false}
use Prim.Native.Nat.{ℕ, zero, suc, ◌≤◌}
use native.Mathlib.Omega.{arith}
use lib.ListN.{length}
use lib.IntN.{ℤ, pos}
use Rattle.bac6_text.specs.Rules.{Flags, Placed, placed, short, is_set, joined, then_if, bone_list}
use Rattle.bac6_text.proofs.Parents.{Leaves, leaves}
use Rattle.bac6_bone_rules.specs.Internal.Bones.{one_bone}

-- ---- one bone and then the rest

joined-joined : (ps qs : List ℤ) (q : Placed) → joined ps (joined qs q) ≡ joined (ps ++ qs) q
unfolding joined
joined-joined ps qs (placed rs row fs) = ap (λ (l : List ℤ). placed l row fs) (sym (append_assoc ps qs rs))
joined-joined ps qs short = refl

joined_then : (ps : List ℤ) (b : Bool) (q : Placed) (k : ℕ → List Flags → Placed) → joined ps (then_if b q k) ≡ then_if b (joined ps q) k
unfolding joined then_if
joined_then ps true (placed qs row fs) k = joined-joined ps qs (k row fs)
joined_then ps false (placed qs row fs) k = refl
joined_then ps true short k = refl
joined_then ps false short k = refl

pub list_step : (n : ℕ) (parent : ℤ) (row : ℕ) (f : Flags) (fs : List Flags) → bone_list (suc n) parent row (f ∷ fs) ≡ then_if (is_set f.1) (one_bone n parent row (f ∷ fs)) (bone_list n parent)
unfolding bone_list one_bone
list_step n parent row f fs = joined_then (parent ∷ []) (is_set f.1) _ (bone_list n parent)

-- ---- turns

then_same : (fs : List Flags) (b : Bool) (q : Placed) (k l : ℕ → List Flags → Placed) → Leaves fs q → ((row : ℕ) (gs : List Flags) → length gs ≤ length fs → k row gs ≡ l row gs) → then_if b q k ≡ then_if b q l
unfolding Leaves then_if
then_same fs true (placed ps row gs) k l h ih = ap (joined ps) (ih row gs (omega (arith, h)))
then_same fs false (placed ps row gs) k l h ih = refl
then_same fs true short k l h ih = refl
then_same fs false short k l h ih = refl

abbrev Same : ℕ → ℕ → Type 0
Same n m = (parent : ℤ) (row : ℕ) (fs : List Flags) → length fs ≤ n → length fs ≤ m → bone_list n parent row fs ≡ bone_list m parent row fs

turn : (n m : ℕ) → Same n m → (parent : ℤ) (row : ℕ) (f : Flags) (fs : List Flags) → length fs ≤ n → length fs ≤ m → bone_list (suc n) parent row (f ∷ fs) ≡ bone_list (suc m) parent row (f ∷ fs)
unfolding bone_list
turn n m ih parent row f fs h k = ap (joined (parent ∷ [])) (child (is_set f.0) refl)
  where
    child : (v : Bool) → is_set f.0 ≡ v → then_if (is_set f.1) (elim (is_set f.0) [ true ↦ bone_list n (pos row) (suc row) fs | false ↦ placed [] (suc row) fs ]) (bone_list n parent) ≡ then_if (is_set f.1) (elim (is_set f.0) [ true ↦ bone_list m (pos row) (suc row) fs | false ↦ placed [] (suc row) fs ]) (bone_list m parent)
    child true e = rw (e, ih (pos row) (suc row) fs h k) (then_same fs (is_set f.1) (bone_list m (pos row) (suc row) fs) (bone_list n parent) (bone_list m parent) (leaves m (pos row) (suc row) fs) (λ r gs g. ih parent r gs (omega arith) (omega arith)))
    child false e = rw e (then_same fs (is_set f.1) (placed [] (suc row) fs) (bone_list n parent) (bone_list m parent) (unfold Leaves in omega arith) (λ r gs g. ih parent r gs (omega arith) (omega arith)))

pub turns : (n m : ℕ) → Same n m
unfolding bone_list
turns zero zero parent row fs h k = refl
turns zero (suc m) parent row [] h k = refl
turns zero (suc m) parent row (f ∷ fs) h k = absurd (omega arith)
turns (suc n) zero parent row [] h k = refl
turns (suc n) zero parent row (f ∷ fs) h k = absurd (omega arith)
turns (suc n) (suc m) parent row [] h k = refl
turns (suc n) (suc m) parent row (f ∷ fs) h k = turn n m (turns n m) parent row f fs (omega arith) (omega arith)
