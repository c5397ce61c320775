-- The rules over parts of the rows, which are lent from each list's place on.
use mathlib.Core.Path.{◌≡◌, ap, ◌∙◌}
use mathlib.Core.List.{List, [], ◌++◌, append-nil}
use Prim.Native.Nat.{ℕ, ◌-◌, ◌≤◌, min}
use native.Mathlib.Omega.{arith}
use lib.IntN.{ℤ}
use lib.ListN.{length, take, drop, length-drop}
use lib.Seq.{take_all, drop-length}
use Rattle.refusal.specs.Faults.{Fault, clear, fault}
use Rattle.table_counts.specs.declared.counts.FigureCounts.{FigureCounts}
use Rattle.bac6_text.specs.Rules.{whole_list, bones_fault}
use Rattle.bac6_bone_rules.specs.Internal.Bones.{flags_in, Settled}
use Rattle.bac6_rules.specs.Internal.Order.{counts_fault, later_fault}
use Rattle.bac6_layout.specs.declared.ends.Ends.{Ends}
use Rattle.bac6_layout.specs.Internal.Places.{materials_from, bones_from, faces_from}
use Rattle.bac6_layout.specs.Internal.Ends.{ends_of}
use Rattle.bac6_layout.proofs.Lays.{take_min, drop_min}
use Rattle.bac6_check.specs.Internal.Rows.{PlacedIn, LeftBy, RowsLeft}

-- the last part of the rows from a place on, which may lie past their end, and what stands after it
tail : (a : ℕ) (rows : List ℤ) → take (length rows - a) (drop a rows) ≡ drop a rows
tail a rows = take_all (length rows - a) (drop a rows) (rw length-drop (omega arith))

after : (a : ℕ) (rows : List ℤ) → drop (length rows - a) (drop a rows) ≡ []
after a rows = rw (← length-drop a rows) (drop-length (drop a rows))

pub ends-within : (a m : ℕ) (k : ℕ) → a ≡ min k m → a ≤ m
ends-within a m k e = omega arith

module _ (n : FigureCounts) (rows : List ℤ) (e : Ends) (h : e ≡ ends_of n (length rows)) where
  colours_are : e.colours ≡ min (materials_from n) (length rows)
  unfolding ends_of
  colours_are = ap (λ (x : Ends). x.colours) h

  normals_are : e.normals ≡ min (bones_from n) (length rows)
  unfolding ends_of
  normals_are = ap (λ (x : Ends). x.normals) h

  uvs_are : e.uvs ≡ min (faces_from n) (length rows)
  unfolding ends_of
  uvs_are = ap (λ (x : Ends). x.uvs) h

  pub colours_in : e.colours ≤ length rows
  colours_in = ends-within e.colours (length rows) (materials_from n) colours_are

  pub normals_in : e.normals ≤ length rows
  normals_in = ends-within e.normals (length rows) (bones_from n) normals_are

  pub uvs_in : e.uvs ≤ length rows
  uvs_in = ends-within e.uvs (length rows) (faces_from n) uvs_are

  materials-part : take (length rows - e.colours) (drop e.colours rows) ≡ drop (materials_from n) rows
  materials-part = tail e.colours rows ∙ ap (λ (k : ℕ). drop k rows) colours_are ∙ drop_min (materials_from n) rows

  bones-part : take (length rows - e.normals) (drop e.normals rows) ≡ drop (bones_from n) rows
  bones-part = tail e.normals rows ∙ ap (λ (k : ℕ). drop k rows) normals_are ∙ drop_min (bones_from n) rows

  faces-part : take (length rows - e.uvs) (drop e.uvs rows) ≡ drop (faces_from n) rows
  faces-part = tail e.uvs rows ∙ ap (λ (k : ℕ). drop k rows) uvs_are ∙ drop_min (faces_from n) rows

  pub later_by : (claims r : Fault) → r ≡ later_fault n claims (take (length rows - e.colours) (drop e.colours rows)) (take (length rows - e.uvs) (drop e.uvs rows)) → r ≡ later_fault n claims (drop (materials_from n) rows) (drop (faces_from n) rows)
  later_by claims r x = x ∙ rw (materials-part, faces-part)

  pub bones_by : {r : Fault} → r ≡ bones_fault (flags_in n.bones (take (length rows - e.normals) (drop e.normals rows))) → r ≡ bones_fault (flags_in n.bones (drop (bones_from n) rows))
  bones_by x = x ∙ rw bones-part

  pub placed_in : (part : List ℤ) → Settled n.bones (take (length rows - e.normals) (drop e.normals rows)) part (whole_list (flags_in n.bones (take (length rows - e.normals) (drop e.normals rows)))) → PlacedIn n rows (take e.normals rows ++ (part ++ drop (length rows - e.normals) (drop e.normals rows)))
  placed_in part x = record { bones = part; placed = rw bones-part at x; whole = rw (after e.normals rows, append-nil) (ap (λ (k : ℕ). take k rows ++ part) normals_are ∙ ap (λ (l : List ℤ). l ++ part) (take_min (bones_from n) rows)) }

-- ---- the rows at exit

module _ (n : FigureCounts) (entry exit : List ℤ) where
  pub left-placed : counts_fault n ≡ clear → PlacedIn n entry exit → RowsLeft n entry exit
  unfolding LeftBy RowsLeft
  left-placed e h = rw e h

  pub left-same : {k p : ℕ} → counts_fault n ≡ fault k p → exit ≡ entry → RowsLeft n entry exit
  unfolding LeftBy RowsLeft
  left-same e h = rw e h

  pub placed-left : counts_fault n ≡ clear → RowsLeft n entry exit → PlacedIn n entry exit
  unfolding LeftBy RowsLeft
  placed-left e h = rw e at h
