-- `lay` lays one list after the other, each from the index after those before it.
use Rattle.std.proofs.Common.{◌-◌, length, sym, arith}
use Rattle.table_rows.proofs.Tables.{overlay_at_none}
use Rattle.bac6_layout.proofs.Lays.{lays_none, lays_list, lays_part, numbers_are, rising}
use Rattle.bac6_layout.proofs.figure.lay.Goals as goal

pub put_front-fronts-requires : goal.put_front-fronts-requires
put_front-fronts-requires c = rising c.args.n _ _ c.row_ends-e.ensures

pub put_back-backs-requires : goal.put_back-backs-requires
put_back-backs-requires c = rising c.args.n _ _ c.row_ends-e.ensures

pub returns : goal.returns
returns c =
    let a = c.args in
    let t = a.table.now in
    let e = c.row_ends-e.result in
    let r = rising a.n e (length a.rows.now) c.row_ends-e.ensures in
    let l1 = lays_list t _ t 0 _ _ (lays_none t (sym (overlay_at_none 0 t))) _ c.put-named.ensures.content c.put-named.ensures.next in
    let l2 = lays_part t _ _ _ _ _ l1 e.bones 0 a.rows.now (omega (arith, r.uvs, r.faces, r.last)) c.put_front-fronts.ensures.content c.put_front-fronts.ensures.next in
    let l3 = lays_list t _ _ _ _ _ l2 _ c.put-owned.ensures.content c.put-owned.ensures.next in
    let l4 = lays_part t _ _ _ _ _ l3 (e.faces - e.bones) e.bones a.rows.now (omega (arith, r.uvs, r.faces, r.last)) c.put_back-backs.ensures.content c.put_back-backs.ensures.next in
    let l5 = lays_list t _ _ _ _ _ l4 _ c.put.ensures.content c.put.ensures.next in
    numbers_are a.n e _ _ a.name.now a.rows.now a.owners.now a.names.now t _ c.row_ends-e.ensures c.rows_end-points.ensures c.rows_end-groups.ensures l5.0
