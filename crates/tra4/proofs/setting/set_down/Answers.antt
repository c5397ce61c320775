-- `set_down` lays the parts where they fit, and refuses where not.
use Rattle.std.proofs.Common.{List, [], ◌∷◌, ℤ, pos, length, ap, sym, ◌∙◌, arith, rules}
use mir.Syntax.{w64}
use mir.Facts.{to_z-of_z}
use Rattle.table_rows.specs.Internal.Overlay.{overlay_at}
use Rattle.table_rows.proofs.Chains.{laid-first, laid_next}
use Rattle.tra4.specs.Internal.Answers.{total_of, counts_answer, parts_of}
use Rattle.tra4.proofs.Settings.{short-answer, short-table, long_answer, long_table, first-numbers}
use Rattle.tra4.proofs.setting.set_down.Goals as goal

pub returns-then-table-total : goal.returns-then-table-total
unfolding total_of
returns-then-table-total c =
    let a = c.args in
    let e = c.unwrap_or-keys.ensures in
    record {
      answer = rw e at c.refused.ensures ∙ sym (short-answer a.p (length a.table.now) (rw e at c.if-table-total.true));
      content = short-table a.p _ a.table.now (rw e at c.if-table-total.true);
    }

pub returns-clause-answer : goal.returns-clause-answer
unfolding total_of counts_answer
returns-clause-answer c =
    let e = c.unwrap_or-keys.ensures in
    rw e (sym (long_answer c.args.p (length c.args.table.now) (rw e at c.if-table-total.false)))

pub returns-clause-content : goal.returns-clause-content
unfolding total_of parts_of
returns-clause-content c =
    let a = c.args in
    let e = c.unwrap_or-keys.ensures in
    let t = a.table.now in
    let first = first-numbers a.p.total _ a.p.place a.p.length (to_z-of_z {w = w64} {z = a.p.total} (search rules)) (omega (arith, c.requires.place)) (omega (arith, c.requires.size)) in
    let l1 = laid-first t (a.p.total ∷ pos a.p.place ∷ pos a.p.length ∷ []) _ _ (c.put-named.ensures.content ∙ ap (λ (l : List ℤ). overlay_at 0 l t) first) c.put-named.ensures.next in
    let l2 = laid_next t _ _ _ _ _ _ l1 c.put_part-boned.ensures.content c.put_part-boned.ensures.next in
    let l3 = laid_next t _ _ _ _ _ _ l2 (rw e at c.put_part-keyed.ensures.content) (rw e at c.put_part-keyed.ensures.next) in
    let l4 = laid_next t _ _ _ _ _ _ l3 c.put_part.ensures.content c.put_part.ensures.next in
    long_table a.p _ t _ (rw e at c.if-table-total.false) l4.0
