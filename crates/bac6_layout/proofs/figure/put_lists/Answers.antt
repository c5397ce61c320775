-- Each turn by the laws of a list more, and of the room that the lists have.
use Rattle.std.proofs.Common.{◌≡◌, ℕ, [], length, take, sym, ap, arith, add-one}
use Prim.Native.Nat.{min}
use lib.Seq.{take_all}
use Rattle.table_rows.proofs.Tables.{overlay_at_none}
use Rattle.bac6_layout.specs.Internal.Numbers.{sum_of}
use Rattle.bac6_layout.proofs.Sums.{sum_more, sum_room, lists_more, next_more}
use Rattle.bac6_layout.proofs.figure.put_lists.Goals as goal

pub loop-size-init : goal.loop-size-init
unfolding sum_of
loop-size-init c =
    let a = c.args in
    record { so_far = omega arith; content = sym (overlay_at_none a.at a.table.now); next = ap (λ (n : ℕ). min n (length a.table.now)) (omega arith) }

pub overflow_add-end : goal.overflow_add-end
overflow_add-end c =
    let a = c.args in
    let e = sum_room a.sizes.now c.loop-size.size-index a.begin c.loop-size.from (length a.rows.now) c.loop-size-test.true c.loop-size.invariant.so_far c.requires in
    record { fits = omega arith }

pub offset_bounds-rows-from : goal.offset_bounds-rows-from
offset_bounds-rows-from c =
    let a = c.args in
    let e = sum_room a.sizes.now c.loop-size.size-index a.begin c.loop-size.from (length a.rows.now) c.loop-size-test.true c.loop-size.invariant.so_far c.requires in
    record { fits = omega arith }

pub slice_bounds-put-end : goal.slice_bounds-put-end
slice_bounds-put-end c =
    let a = c.args in
    sum_room a.sizes.now c.loop-size.size-index a.begin c.loop-size.from (length a.rows.now) c.loop-size-test.true c.loop-size.invariant.so_far c.requires

pub loop-size-preserved : goal.loop-size-preserved
loop-size-preserved c =
    let a = c.args in
    let l = c.loop-size in
    let v = l.invariant in
    let h = c.loop-size-test.true in
    record {
      so_far = rw (add-one, sum_more a.sizes.now l.size-index h) (omega (arith, v.so_far));
      content = lists_more a.at a.begin l.to l.from l.size-index 0 a.sizes.now a.rows.now a.table.now l.table _ h v.so_far c.requires v.content v.next c.put-to.ensures.content;
      next = next_more a.at a.begin l.to l.from l.size-index _ a.sizes.now a.rows.now a.table.now l.table [] h v.so_far c.requires v.content v.next c.put-to.ensures.next;
    }

pub returns-clause-content : goal.returns-clause-content
returns-clause-content c =
    let e : take c.loop-size.size-index c.args.sizes.now ≡ c.args.sizes.now = take_all c.loop-size.size-index c.args.sizes.now (omega arith) in
    rw e at c.loop-size.invariant.content

pub returns-clause-next : goal.returns-clause-next
returns-clause-next c =
    let e : take c.loop-size.size-index c.args.sizes.now ≡ c.args.sizes.now = take_all c.loop-size.size-index c.args.sizes.now (omega arith) in
    rw e at c.loop-size.invariant.next
