-- `put_lists` lays a list more with each turn: what the lists so far have made of the table, and the index after them.
use Rattle.std.proofs.Common.{◌≡◌, ◌+◌, length, take, drop}
use Prim.Native.Nat.{min}
use Rattle.table_rows.specs.Internal.Overlay.{overlay_at}
use Rattle.bac6_layout.specs.Internal.Numbers.{sum_of}
use Rattle.bac6_layout.proofs.figure.put_lists.Given as goal

abbrev pub invariant-loop-size : goal.invariant-loop-size
invariant-loop-size l = record {
  so_far : l.from ≡ l.begin + sum_of (take l.size-index l.sizes);
  content : l.table ≡ overlay_at l.at (take (sum_of (take l.size-index l.sizes)) (drop l.begin l.rows)) l.initial.table;
  next : min l.to (length l.initial.table) ≡ min (l.at + sum_of (take l.size-index l.sizes)) (length l.initial.table);
}
