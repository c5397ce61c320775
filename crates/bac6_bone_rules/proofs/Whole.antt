-- The whole list of bones: how many rows a table has, and what a walk over all of them answers.
use mathlib.Core.Path.{◌≡◌, refl, sym, ◌∙◌}
use mathlib.Core.List.{List}
use mathlib.Core.Bool.{Bool, true, false}
use Prim.Native.Nat.{ℕ, zero, suc, min, ◌+◌, ◌-◌, ◌*◌, ◌/◌, ◌≤◌, ◌<◌}
use native.Mathlib.Nat.{sub-zero}
use native.Mathlib.Omega.{arith}
use borrow.Author.Tests.{leb-true, leb-false}
use lib.Dec.{leb}
use lib.ListN.{length, drop, length-drop}
use lib.IntN.{ℤ, negsuc}
use Rattle.refusal.specs.Faults.{clear, fault}
use Rattle.bac6_text.specs.Rules.{Flags, Placed, placed, short, bone_list, parents_in, whole_list, placed_fault, bones_fault}
use Rattle.std.proofs.Common.{Option, Some, None}
use Rattle.bac6_bone_rules.specs.Internal.Bones.{flags_in, with_parents, Walked, Settled}
use Rattle.bac6_text.proofs.Parents.{fault-not-clear}
use Rattle.bac6_bone_rules.proofs.Walks.{flags_none, flags_more, flags_short, flags_length, flags_drop, flags_past, at_told, short_told}

-- ---- how many rows

-- where only m rows are whole, more are none
flags_all : (m n : ℕ) (t : List ℤ) → m ≤ n → m * 14 ≤ length t → length t < m * 14 + 14 → flags_in n t ≡ flags_in m t
flags_all zero n t h a b = flags_short n t (omega arith) ∙ sym (flags_none t)
flags_all (suc m) zero t h a b = absurd (omega arith)
flags_all (suc m) (suc n) t h a b =
    flags_more n t (omega arith)
    ∙ rw (flags_all m n (drop 14 t) (omega arith) (rw length-drop (omega arith)) (rw length-drop (omega arith))) (sym (flags_more m t (omega arith)))

module _ (count rows : ℕ) (t : List ℤ) (e : rows ≡ min count (length t / 14)) where
  pub rows_whole : rows * 14 ≤ length t
  rows_whole = omega arith

  pub rows-most : rows ≤ count
  rows-most = omega arith

  pub flags_whole : flags_in count t ≡ flags_in rows t
  flags_whole = go (leb count (length t / 14)) refl
    where
      go : (b : Bool) → leb count (length t / 14) ≡ b → flags_in count t ≡ flags_in rows t
      go true h =
          let k = leb-true count (length t / 14) h in
          let s : rows ≡ count = omega arith in
          rw s
      go false h =
          let k = leb-false count (length t / 14) h in
          flags_all rows count t (omega arith) rows_whole (omega arith)

  pub whole_flags : length (flags_in count t) ≡ rows
  whole_flags = rw flags_whole (flags_length rows t rows_whole)

  -- the walk over all rows is over the whole list
  pub whole_walk : (exit : List ℤ) (r : Option ℕ) → Walked rows 0 t exit (bone_list (rows - 0) (negsuc 0) 0 (drop 0 (flags_in rows t))) r → Walked rows 0 t exit (whole_list (flags_in count t)) r
  unfolding whole_list
  whole_walk exit r w = rw (whole_flags, flags_whole) (rw (sub-zero rows) at w)

-- ---- what the walk answers

module _ (count rows : ℕ) (t exit : List ℤ) (p : Placed) (h : rows ≤ count) where
  pub settled_short : Walked rows 0 t exit p None → Settled count t exit p
  unfolding Settled with_parents
  settled_short w = let s = short_told rows 0 t exit p w in rw s.0 (s.1.0, s.1.1, omega (arith, s.1.2))

  pub settled_at : (next : ℕ) → Walked rows 0 t exit p (Some next) → Settled count t exit p
  unfolding Settled with_parents
  settled_at next w = let s = at_told rows 0 t exit p next w in rw s.0 s.1

  pub fault-short : Walked rows 0 t exit p None → placed_fault rows p ≡ fault 10 rows
  unfolding placed_fault
  fault-short w = rw (short_told rows 0 t exit p w).0

  module _ (next : ℕ) (w : Walked rows 0 t exit p (Some next)) (l : rows * 14 ≤ length t) where
    pub fault-left : next < rows → placed_fault rows p ≡ fault 10 next
    unfolding placed_fault
    fault-left k = let s = at_told rows 0 t exit p next w in rw (s.0, flags_drop rows next t k l)

    pub fault_none : rows ≤ next → placed_fault rows p ≡ clear
    unfolding placed_fault
    fault_none k = let s = at_told rows 0 t exit p next w in rw (s.0, flags_past rows next t k l)

-- ---- for callers: where no bone is at fault, the table is known

pub settled_clear : (count : ℕ) (entry exit : List ℤ) (flags : List Flags) → bones_fault flags ≡ clear → Settled count entry exit (whole_list flags) → exit ≡ with_parents (parents_in (whole_list flags)) entry
unfolding bones_fault Settled parents_in placed_fault
settled_clear count entry exit flags e w = go (whole_list flags) e w
  where
    go : (p : Placed) → placed_fault (length flags) p ≡ clear → Settled count entry exit p → exit ≡ with_parents (parents_in p) entry
    go (placed ps row fs) e w = w
    go short e w = absurd (fault-not-clear 10 (length flags) e)
