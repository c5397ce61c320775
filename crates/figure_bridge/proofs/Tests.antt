-- What the tests of rows and ranges say of a number: a row is a natural number below the count, FLOAT's form is FLOAT's range, and an owner is a bone's row or -1.
use mathlib.Core.Path.{◌≡◌, refl}
use mathlib.Core.List.{List, [], ◌∷◌}
use mathlib.Core.Bool.{Bool, true, false, ◌||◌, false≢true}
use mathlib.Core.Logic.{◌⊎◌, inl, inr}
use Prim.Native.Nat.{ℕ, zero, suc, ◌+◌, ◌<◌, ◌≤◌}
use native.Mathlib.Omega.{arith}
use borrow.Author.Tests.{ltb-true, lt-ltb}
use lib.IntN.{ℤ, pos, negsuc, nat_abs}
use lib.ListN.{length, get_or}
use Rattle.text_numerals.specs.Numbers.{FLOAT}
use Rattle.text_numerals.proofs.Numerals.{and_true}
use Rattle.bac6_text.specs.Figure.{Bone}
use Rattle.bac6_text.specs.Rules.{owner_from, owner_of}
use Rattle.refusal.specs.FirstBad.{all}
use Rattle.table_references.specs.References.{is_row, is_none, member}
use Rattle.parse_spec.proofs.Ranges.{AllIn}
use Rattle.table_references.specs.Index.{is_index}
use Rattle.player_spec.specs.Lookups.{all_float}
use Rattle.movement_bridge.proofs.Faultless.{float_in_form}

pub row_natural : (n : ℕ) (z : ℤ) → is_row n z ≡ true → pos (nat_abs z) ≡ z
unfolding is_row
row_natural n (pos k) e = refl
row_natural n (negsuc k) e = absurd (false≢true e)

pub row_below : (n : ℕ) (z : ℤ) → is_row n z ≡ true → nat_abs z < n
unfolding is_row
row_below n (pos k) e = ltb-true k n e
row_below n (negsuc k) e = absurd (false≢true e)

pub either_true : (a b : Bool) → (a || b) ≡ true → (a ≡ true) ⊎ (b ≡ true)
either_true true b e = inl refl
either_true false b e = inr e

pub all-at : (t : ℤ → Bool) (zs : List ℤ) (k : ℕ) (d : ℤ) → all t zs ≡ true → k < length zs → t (get_or zs k d) ≡ true
unfolding all
all-at t [] k d e h = absurd (omega arith)
all-at t (z ∷ zs) zero d e h = (and_true (t z) (all t zs) e).0
all-at t (z ∷ zs) (suc k) d e h = all-at t zs k d (and_true (t z) (all t zs) e).1 (omega arith)

-- ---- FLOAT

pub all_float_lem : (zs : List ℤ) → AllIn FLOAT zs → all_float zs ≡ true
unfolding all_float
all_float_lem [] h = refl
all_float_lem (z ∷ zs) h = rw (float_in_form z h.0, all_float_lem zs h.1)

-- ---- owners

owner-from : (n row : ℕ) (z : ℤ) (bs : List Bone) → row + length bs ≤ n → is_index n (owner_from row z bs) ≡ true
unfolding owner_from is_index is_none is_row
owner-from n row z [] h = refl
owner-from n row z (b ∷ bs) h = go (member z b.vertices) refl (owner-from n (suc row) z bs (omega arith))
  where
    go : (v : Bool) → member z b.vertices ≡ v → is_index n (owner_from (suc row) z bs) ≡ true → is_index n (owner_from row z (b ∷ bs)) ≡ true
    go true e ih = rw (e, owner_from) (lt-ltb row n (omega arith))
    go false e ih = rw (e, owner_from) ih

pub owner_known : (bs : List Bone) (z : ℤ) → is_index (length bs) (owner_of bs z) ≡ true
unfolding owner_of
owner_known bs z = owner-from (length bs) 0 z bs (omega arith)

-- ---- rows that pass a test

pub or_yes : (b : Bool) → (b || true) ≡ true
or_yes true = refl
or_yes false = refl
