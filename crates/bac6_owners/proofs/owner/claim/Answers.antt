-- `claim` is the definition: where each test passes the entry is free, and its owner is set.
use Rattle.std.proofs.Common.{◌≡◌, ℕ, ◌<◌, length, true, false, slice_index_or, pos, ap, refl, sym, ◌∙◌, arith, rules}
use lib.IntN.{nat_abs}
use mir.Syntax.{w64}
use mir.Val.{SFits, to_z, of_z}
use mir.Facts.{to_z-of_z, Fits-nat_abs}
use Rattle.signed.proofs.Tests.{tested}
use Rattle.table_references.specs.References.{is_none}
use Rattle.bac6_owners.specs.Internal.Claims.{is_free}
use Rattle.bac6_owners.proofs.Owners.{row_natural, row_below, row_told, no_row, row_free, claim_free, claim_taken}
use Rattle.bac6_owners.proofs.owner.claim.Goals as goal

pub returns-then-not-is_row : goal.returns-then-not-is_row
returns-then-not-is_row c =
    let a = c.args in
    let f : SFits w64 a.v.0 = search rules in
    let free = no_row a.points a.v.0 a.owners.now (sym (row_told a.points a.v.0 a.owners.now f c.min.ensures c.is_row.ensures) ∙ c.if-not-is_row.true) in
    record { answer = sym free; content = sym (claim_taken _ _ _ _ free) }

pub overflow_cast-at : goal.overflow_cast-at
overflow_cast-at c =
    let a = c.args in
    let f : SFits w64 a.v.0 = search rules in
    let row = sym (row_told a.points a.v.0 a.owners.now f c.min.ensures c.is_row.ensures) ∙ c.if-not-is_row.false in
    rw (to_z-of_z f, row_natural _ _ row) (tt, Fits-nat_abs tt f)

pub offset_bounds-owners-at : goal.offset_bounds-owners-at
offset_bounds-owners-at c =
    let a = c.args in
    let f : SFits w64 a.v.0 = search rules in
    let row = sym (row_told a.points a.v.0 a.owners.now f c.min.ensures c.is_row.ensures) ∙ c.if-not-is_row.false in
    let below : nat_abs (to_z w64 (of_z w64 a.v.0)) < length a.owners.now = rw (to_z-of_z f) (omega (arith, row_below _ _ row)) in
    omega arith

pub offset_bounds-owners-at-2 : goal.offset_bounds-owners-at-2
offset_bounds-owners-at-2 c =
    let a = c.args in
    let f : SFits w64 a.v.0 = search rules in
    let row = sym (row_told a.points a.v.0 a.owners.now f c.min.ensures c.is_row.ensures) ∙ c.if-not-is_row.false in
    let below : nat_abs (to_z w64 (of_z w64 a.v.0)) < length a.owners.now = rw (to_z-of_z f) (omega (arith, row_below _ _ row)) in
    omega arith

pub slice_copy_out-is_none : goal.slice_copy_out-is_none
slice_copy_out-is_none c =
    let a = c.args in
    let f : SFits w64 a.v.0 = search rules in
    let row = sym (row_told a.points a.v.0 a.owners.now f c.min.ensures c.is_row.ensures) ∙ c.if-not-is_row.false in
    rw (to_z-of_z f) (omega (arith, row_below _ _ row))

pub bounds-owners-at : goal.bounds-owners-at
bounds-owners-at c =
    let a = c.args in
    let f : SFits w64 a.v.0 = search rules in
    let row = sym (row_told a.points a.v.0 a.owners.now f c.min.ensures c.is_row.ensures) ∙ c.if-not-is_row.false in
    rw (to_z-of_z f) (omega (arith, row_below _ _ row))

pub returns-then-not-is_none : goal.returns-then-not-is_none
returns-then-not-is_none c =
    let a = c.args in
    let f : SFits w64 a.v.0 = search rules in
    let row = sym (row_told a.points a.v.0 a.owners.now f c.min.ensures c.is_row.ensures) ∙ c.if-not-is_row.false in
    let told : c.is_none.result ≡ is_none (slice_index_or a.owners.now (nat_abs a.v.0) (pos 0)) =
    tested is_none (slice_index_or a.owners.now (nat_abs (to_z w64 (of_z w64 a.v.0))) (pos 0)) (search rules) c.is_none.ensures
    ∙ ap (λ (i : ℕ). is_none (slice_index_or a.owners.now i (pos 0))) (ap nat_abs (to_z-of_z f)) in
    let free = row_free a.points a.v.0 a.owners.now row (sym told ∙ c.if-not-is_none.true) in
    record { answer = sym free; content = sym (claim_taken _ _ _ _ free) }

pub returns : goal.returns
returns c =
    let a = c.args in
    let f : SFits w64 a.v.0 = search rules in
    let row = sym (row_told a.points a.v.0 a.owners.now f c.min.ensures c.is_row.ensures) ∙ c.if-not-is_row.false in
    let told : c.is_none.result ≡ is_none (slice_index_or a.owners.now (nat_abs a.v.0) (pos 0)) =
    tested is_none (slice_index_or a.owners.now (nat_abs (to_z w64 (of_z w64 a.v.0))) (pos 0)) (search rules) c.is_none.ensures
    ∙ ap (λ (i : ℕ). is_none (slice_index_or a.owners.now i (pos 0))) (ap nat_abs (to_z-of_z f)) in
    let free = row_free a.points a.v.0 a.owners.now row (sym told ∙ c.if-not-is_none.false) in
    record { answer = sym free; content = rw (to_z-of_z f, to_z-of_z c.ranges.bone) (sym (claim_free _ _ _ _ free)) }
