-- What an answer says of a rule, the first fault of two, and rule 8 by its steps.
use mathlib.Core.Path.{◌≡◌, refl, sym, ◌∙◌}
use mathlib.Core.List.{List, ◌∷◌}
use mathlib.Core.Bool.{Bool, true, false}
use lib.Dec.{leb}
use Prim.Native.Nat.{ℕ, suc, min, ◌≤◌, ◌<◌}
use native.Mathlib.Omega.{arith}
use borrow.Author.Tests.{le-leb, lt-leb, leb-true, leb-false}
use lib.ListN.{length, drop, get_or, drop_of_length-le}
use lib.Seq.{drop-cons}
use Rattle.refusal.specs.Faults.{Fault, clear, fault}
use Rattle.refusal.specs.Internal.Answers.{refusal}
use Rattle.std.proofs.Common.{Result, Ok, Err}
use Rattle.refusal.specs.declared.checked.Refusal.{Refusal}
use Rattle.refusal.proofs.Faults.{fault-not-clear}
use Rattle.refusal.specs.Rules.{or_else, too_many}

-- ---- what an answer says of a rule

pub refused_by : {A : Type 0} {r : Result A Refusal} {a : Fault} {e : Refusal} → refusal r ≡ a → r ≡ Err e → a ≡ fault (e.number) e.place
refused_by e d = sym e ∙ rw d

pub clear_by : {A : Type 0} {r : Result A Refusal} {a : Fault} {u : A} → refusal r ≡ a → r ≡ Ok u → a ≡ clear
clear_by e d = sym e ∙ rw d

-- ---- the first of two

pub or-clear : {a : Fault} (b : Fault) → a ≡ clear → or_else a b ≡ b
unfolding or_else
or-clear b e = rw e

pub or-fault : {a : Fault} (b : Fault) {k p : ℕ} → a ≡ fault k p → or_else a b ≡ fault k p
unfolding or_else
or-fault b e = rw e

pub or_assoc : (a b d : Fault) → or_else (or_else a b) d ≡ or_else a (or_else b d)
unfolding or_else
or_assoc clear b d = refl
or_assoc (fault k p) b d = refl

pub or-first : (a b : Fault) → or_else a b ≡ clear → a ≡ clear
unfolding or_else
or-first clear b e = refl
or-first (fault k p) b e = e

pub or_second : (a b : Fault) → or_else a b ≡ clear → b ≡ clear
or_second a b e = sym (or-clear b (or-first a b e)) ∙ e

-- ---- rule 8

module _ (i : ℕ) (ns ms : List ℕ) where
  pub counts_end : length ns ≤ i → too_many i (drop i ns) (drop i ms) ≡ clear
  unfolding too_many
  counts_end h = rw (drop_of_length-le ns h)

  pub mosts_end : i < length ns → length ms ≤ i → too_many i (drop i ns) (drop i ms) ≡ clear
  unfolding too_many
  mosts_end h k = rw (drop-cons ns i 0 h, drop_of_length-le ms k)

  pub lists_end : min (length ns) (length ms) ≤ i → too_many i (drop i ns) (drop i ms) ≡ clear
  lists_end h = go (leb (length ns) i) refl
    where
      go : (v : Bool) → leb (length ns) i ≡ v → too_many i (drop i ns) (drop i ms) ≡ clear
      go true e = counts_end (leb-true _ _ e)
      go false e = let l = leb-false _ _ e in mosts_end (omega arith) (omega arith)

  pub count_within : i < length ns → i < length ms → get_or ns i 0 ≤ get_or ms i 0 → too_many i (drop i ns) (drop i ms) ≡ too_many (suc i) (drop (suc i) ns) (drop (suc i) ms)
  unfolding too_many
  count_within h k l = rw (drop-cons ns i 0 h, drop-cons ms i 0 k) (rw (le-leb (get_or ns i 0) (get_or ms i 0) l, too_many))

  pub count_beyond : i < length ns → i < length ms → get_or ms i 0 < get_or ns i 0 → too_many i (drop i ns) (drop i ms) ≡ fault 8 i
  unfolding too_many
  count_beyond h k l = rw (drop-cons ns i 0 h, drop-cons ms i 0 k) (rw (lt-leb (get_or ns i 0) (get_or ms i 0) l, too_many))

-- a list without fault is within its most, and so are those after it
pub count_clear : (i n m : ℕ) (ns ms : List ℕ) → too_many i (n ∷ ns) (m ∷ ms) ≡ clear → (n ≤ m) × (too_many (suc i) ns ms ≡ clear)
unfolding too_many
count_clear i n m ns ms h = go (leb n m) refl
  where
    go : (v : Bool) → leb n m ≡ v → (n ≤ m) × (too_many (suc i) ns ms ≡ clear)
    go true e = (leb-true n m e, rw (e, too_many) at h)
    go false e = absurd (fault-not-clear 8 i (rw (e, too_many) at h))
