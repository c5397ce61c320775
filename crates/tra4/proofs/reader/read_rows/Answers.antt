-- `read_rows` refuses with the first fault, or sets the lists down, by the law of each branch.
use Rattle.std.proofs.Common.{rules}
use mir.Syntax.{w64}
use mir.Facts.{to_z-of_z}
use Rattle.refusal.proofs.Rules.{refused_by, clear_by}
use Rattle.tra4.specs.Internal.Checks.{rules_fault}
use Rattle.tra4.proofs.Ends.{broken_rows, rows_fit, down_rows}
use Rattle.tra4.proofs.reader.read_rows.Goals as goal

pub set_down-requires : goal.set_down-requires
unfolding rules_fault
set_down-requires c =
    let told = rw (to_z-of_z {w = w64} {z = c.args.p.total} (search rules), c.unwrap_or-keys.ensures) at c.first_fault.ensures in
    rows_fit c.requires (clear_by told c.in-Ok.is)

pub returns-in-Err : goal.returns-in-Err
unfolding rules_fault
returns-in-Err c =
    let told = rw (to_z-of_z {w = w64} {z = c.args.p.total} (search rules), c.unwrap_or-keys.ensures) at c.first_fault.ensures in
    record { outcome = λ h. broken_rows h (refused_by told c.in-Err.is) c.refused.ensures c.args.table.now }

pub returns-in-Ok : goal.returns-in-Ok
unfolding rules_fault
returns-in-Ok c =
    let told = rw (to_z-of_z {w = w64} {z = c.args.p.total} (search rules), c.unwrap_or-keys.ensures) at c.first_fault.ensures in
    record { outcome = λ h. down_rows h (clear_by told c.in-Ok.is) c.args.table.now _ c.set_down.ensures.answer c.set_down.ensures.content }
