-- `read_rows` refuses with the first fault or for a short table, or lays the lists, by the law of each branch.
use Rattle.std.proofs.Common.{rules, arith}
use Rattle.refusal.proofs.Rules.{refused_by, clear_by}
use Rattle.signed.proofs.Signed.{bits_pos}
use Rattle.bac6.proofs.Settings.{rules_by, named_by}
use Rattle.bac6.proofs.Figures.{name-fits, broken_rows, none_over, short-rows, long_rows}
use Rattle.bac6.proofs.reader.read_rows.Goals as goal

pub returns-in-Err : goal.returns-in-Err
returns-in-Err c =
    let f = rules_by c.args.p _ _ c.args.rows.now c.claims_of.ensures c.first_fault.ensures.answer in
    let e = refused_by f c.in-Err.is in
    record { outcome = λ h. broken_rows h e c.refused.ensures c.args.table.now }

pub total_of-total-requires : goal.total_of-total-requires
total_of-total-requires c = none_over c.requires (clear_by (rules_by c.args.p _ _ c.args.rows.now c.claims_of.ensures c.first_fault.ensures.answer) c.in_default.is)

pub returns-then-table-total : goal.returns-then-table-total
returns-then-table-total c =
    let f = rules_by c.args.p _ _ c.args.rows.now c.claims_of.ensures c.first_fault.ensures.answer in
    record { outcome = λ h. short-rows h (clear_by f c.in_default.is) _ c.first_fault.ensures.content _ c.total_of-total.ensures c.args.table.now c.refused-then-table-total.ensures c.if-table-total.true }

pub overflow_cast-name : goal.overflow_cast-name
overflow_cast-name c = let z = name-fits c.requires in search rules

pub overflow_cast-name-2 : goal.overflow_cast-name-2
overflow_cast-name-2 c = let z = name-fits c.requires in search rules

pub returns : goal.returns
returns c =
    let a = c.args in
    let z = name-fits c.requires in
    let f = rules_by a.p _ _ a.rows.now c.claims_of.ensures c.first_fault.ensures.answer in
    let n = named_by a.p _ _ _ a.owners.now a.names.now a.table.now _ (bits_pos a.p.place (omega (arith, z.0))) (bits_pos a.p.length (omega (arith, z.1))) c.lay.ensures in
    record { outcome = λ h. long_rows h (clear_by f c.in_default.is) _ c.first_fault.ensures.content _ c.total_of-total.ensures a.table.now _ c.if-table-total.false n }
