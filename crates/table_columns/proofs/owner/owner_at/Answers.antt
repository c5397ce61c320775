-- The number at the vertex, or 0 past the end, as `get` has it.
use Rattle.std.proofs.Common.{ap, ◌∙◌, Option, unwrap_or}
use Prim.Native.Nat.{ℕ}
use mir.Facts.{to_z-of_z}
use mir.Syntax.{w64}
use lib.IntN.{ℤ, pos, nat_abs}
use lib.ListN.{get_or}
use Rattle.table_columns.specs.Parts.{number_at}
use Rattle.table_columns.proofs.Lookups.{read_or_zero}
use Rattle.table_columns.proofs.owner.owner_at.Goals as goal

pub returns : goal.returns
unfolding number_at
returns c =
    let l = c.get.ensures.lookup in
    let xs = c.args.owners.now in
    to_z-of_z {w = w64} {z = c.unwrap_or.result} (record { sfits = c.unwrap_or.type_inv })
    ∙ c.unwrap_or.ensures
    ∙ ap (λ (o : Option ℤ). unwrap_or o (pos 0)) c.copied.ensures
    ∙ read_or_zero xs c.magnitude-i.result c.get.result l.0 l.1
    ∙ ap (λ (i : ℕ). get_or xs i (pos 0)) (c.magnitude-i.ensures ∙ ap nat_abs (to_z-of_z {w = w64} {z = c.args.v.0} (record { sfits = c.struct_told-1.given.0.1 })))
