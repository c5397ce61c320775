-- Sums of sizes, and lists that are laid one after the other by them.
use mathlib.Core.Path.{◌≡◌, ap, ◌∙◌}
use mathlib.Core.List.{List, [], ◌∷◌}
use Prim.Native.Nat.{ℕ, zero, suc, ◌+◌, ◌-◌, ◌≤◌, ◌<◌, min}
use native.Mathlib.Numerals.{add-one}
use native.Mathlib.Omega.{arith}
use lib.IntN.{ℤ}
use lib.ListN.{length, take, drop, get_or, length-take, length-drop}
use lib.Seq.{drop-drop, take-add}
use Rattle.table_rows.specs.Internal.Overlay.{overlay_at}
use Rattle.table_rows.proofs.Tables.{overlay_at-length, overlay_at-append, overlay_at-same}
use Rattle.bac6_layout.specs.declared.ends.Ends.{Ends}
use Rattle.bac6_layout.specs.Internal.Ends.{Rising}
use Rattle.bac6_layout.specs.Internal.Numbers.{sum_of}

pub sum_more : (ns : List ℕ) (k : ℕ) → k < length ns → sum_of (take (suc k) ns) ≡ sum_of (take k ns) + get_or ns k 0
unfolding sum_of
sum_more [] k h = absurd (omega arith)
sum_more (n ∷ ns) zero h = omega arith
sum_more (n ∷ ns) (suc k) h = let e = sum_more ns k (omega arith) in omega (arith, e)

pub sum-part : (ns : List ℕ) (k : ℕ) → sum_of (take k ns) ≤ sum_of ns
unfolding sum_of
sum-part ns zero = omega arith
sum-part [] (suc k) = omega arith
sum-part (n ∷ ns) (suc k) = let e = sum-part ns k in omega (arith, e)

-- how far the lists go
pub sum_room : (ns : List ℕ) (k begin from most : ℕ) → k < length ns → from ≡ begin + sum_of (take k ns) → begin + sum_of ns ≤ most → from + get_or ns k 0 ≤ most
sum_room ns k begin from most h f l = omega (arith, sum_more ns k h, sum-part ns (suc k))

-- ---- a list more, which is lent as a part of the rows

module _ (at begin to from k next : ℕ) (ns : List ℕ) (rows table mid exit : List ℤ) (h : k < length ns) (f : from ≡ begin + sum_of (take k ns)) (l : begin + sum_of ns ≤ length rows) (m : mid ≡ overlay_at at (take (sum_of (take k ns)) (drop begin rows)) table) (t : min to (length table) ≡ min (at + sum_of (take k ns)) (length table)) where
  abbrev size : ℕ
  size = get_or ns k 0

  abbrev sum : ℕ
  sum = sum_of (take k ns)

  part_length : length (take (from + size - from) (drop from rows)) ≡ size
  part_length =
      let z : from + size - from ≡ size = omega arith in
      let e = sum_room ns k begin from (length rows) h f l in
      rw (z, length-take, length-drop) (omega arith)

  pub lists_more : exit ≡ overlay_at to (take (from + size - from) (drop from rows)) mid → exit ≡ overlay_at at (take (sum_of (take (k + 1) ns)) (drop begin rows)) table
  lists_more x =
      let z : from + size - from ≡ size = omega arith in
      let e = sum_room ns k begin from (length rows) h f l in
      let n : length (take sum (drop begin rows)) ≡ sum = rw (length-take, length-drop) (omega arith) in
      x ∙ rw (z, m, f, ← drop-drop sum begin rows, add-one, sum_more ns k h, take-add sum size (drop begin rows), overlay_at-append at (take sum (drop begin rows)) (take size (drop sum (drop begin rows))) table, n)
      (overlay_at-same to (at + sum) _ _ (rw (overlay_at-length at (take sum (drop begin rows)) table) t))

  pub next_more : next ≡ min (to + length (take (from + size - from) (drop from rows))) (length mid) → min next (length table) ≡ min (at + sum_of (take (k + 1) ns)) (length table)
  next_more x =
      let a : length mid ≡ length table = ap length m ∙ overlay_at-length at _ table in
      let e : next ≡ min (to + size) (length table) = x ∙ rw (part_length, a) in
      rw (add-one, sum_more ns k h) (omega arith)

-- ---- the sizes of a figure's lists

module _ (e : Ends) (room : ℕ) (r : Rising e room) where
  pub front_sum : sum_of (e.textures ∷ (e.colours - e.textures) ∷ (e.materials - e.colours) ∷ (e.points - e.materials) ∷ (e.normals - e.points) ∷ (e.bones - e.normals) ∷ []) ≡ e.bones
  unfolding sum_of
  front_sum = omega (arith, r.colours, r.materials, r.points, r.normals, r.bones)

  pub back_sum : sum_of ((e.uvs - e.bones) ∷ (e.faces - e.uvs) ∷ []) ≡ e.faces - e.bones
  unfolding sum_of
  back_sum = omega (arith, r.uvs, r.faces)

  pub front_room : 0 + sum_of (e.textures ∷ (e.colours - e.textures) ∷ (e.materials - e.colours) ∷ (e.points - e.materials) ∷ (e.normals - e.points) ∷ (e.bones - e.normals) ∷ []) ≤ room
  front_room = rw front_sum (omega (arith, r.uvs, r.faces, r.last))

  pub back_room : e.bones + sum_of ((e.uvs - e.bones) ∷ (e.faces - e.uvs) ∷ []) ≤ room
  back_room = rw back_sum (omega (arith, r.uvs, r.faces, r.last))
