-- `row_why` is its definition: the corners' answer, and then that of the face's group, if it has one.
use Rattle.std.proofs.Common.{◌≡◌, sym, ap, ◌∙◌, pos, get_or, SFits, w64, rules, true, false}
use Rattle.std.proofs.Math.Option.{some}
use Rattle.std.proofs.lemmas.Int.{to_z-of_z}
use Rattle.table_references.specs.References.{is_none}
use Rattle.table_references.specs.Index.{is_index}
use Rattle.table_references.proofs.Numbers.{index_row}
use Rattle.table_columns.proofs.Casts.{natural_cast}
use Rattle.player_spec.specs.Reasons.{corner_first}
use Rattle.player_face_tests.proofs.Corners.{row_is}
use Rattle.player_why.specs.Internal.Rows.{reason_told, corner_told}
use Rattle.player_why.proofs.WhyTests.{no_group, not_owned, no_line, of_polygons, in_group_lem}
use Rattle.player_why.proofs.explaining.row_why.Goals as goal
use Rattle.player_why.proofs.explaining.row_why.Goals.{After-is_index, Else-not-is_index, Else-is_none}

fits : (c : After-is_index) → SFits w64 (get_or c.args.row.now 10 (pos 0))
fits c = search rules

index-told : (c : After-is_index) → c.is_index.result ≡ is_index c.args.f.now.n.groups (get_or c.args.row.now 10 (pos 0))
index-told c = rw (to_z-of_z _ _ (fits c)) at c.is_index.ensures

pub returns-then-not-is_index : goal.returns-then-not-is_index
returns-then-not-is_index c = no_group _ _ _ _ _ _ (sym (index-told (goal.at.returns-then-not-is_index c).After-is_index) ∙ c.if-not-is_index.true)

known : (c : Else-not-is_index) → SFits w64 (get_or c.args.row.now 10 (pos 0)) → is_index c.args.f.now.n.groups (get_or c.args.row.now 10 (pos 0)) ≡ true
known c f = sym (rw (to_z-of_z _ _ f) at c.is_index.ensures) ∙ c.if-not-is_index.false

pub returns-in_err-corner : goal.returns-in_err-corner
returns-in_err-corner c = ap reason_told c.from_residual.ensures ∙ not_owned _ _ _ _ _ _ c.in_err-corner.ensures

pub returns-then-is_none : goal.returns-then-is_none
returns-then-is_none c =
    let e = (goal.at.returns-then-is_none c).Else-not-is_index in
    let f = fits (goal.at.returns-then-is_none c).After-is_index in
    ap some c.first_reason.ensures
    ∙ of_polygons _ _ _ _ _ _ (known e f) _ c.in_ok-corner.ensures (sym (rw (to_z-of_z _ _ f) at c.is_none.ensures) ∙ c.if-is_none.true)

in-group : (c : Else-is_none) → SFits w64 (get_or c.args.row.now 10 (pos 0)) → is_none (get_or c.args.row.now 10 (pos 0)) ≡ false
in-group c f = sym (rw (to_z-of_z _ _ f) at c.is_none.ensures) ∙ c.if-is_none.false

pub overflow_cast-group : goal.overflow_cast-group
overflow_cast-group c =
    let e = (goal.at.overflow_cast-group c).Else-not-is_index in
    let f = fits (goal.at.overflow_cast-group c).After-is_index in
    let g = in-group (goal.at.overflow_cast-group c).Else-is_none f in
    natural_cast _ f (row_is _ _ (sym (index_row _ _ g) ∙ known e f)).0

pub returns-in_err-line : goal.returns-in_err-line
returns-in_err-line c =
    let e = (goal.at.returns-in_err-line c).Else-not-is_index in
    let f = fits (goal.at.returns-in_err-line c).After-is_index in
    let g = in-group (goal.at.returns-in_err-line c).Else-is_none f in
    ap reason_told c.from_residual-in_err-line.ensures ∙ no_line _ _ _ _ _ _ g (rw (to_z-of_z _ _ f, to_z-of_z _ _ c.ranges.total) at c.in_err-line.ensures)

pub returns : goal.returns
returns c =
    let e = (goal.at.returns c).Else-not-is_index in
    let f = fits (goal.at.returns c).After-is_index in
    let g = in-group (goal.at.returns c).Else-is_none f in
    ap some (c.first_reason-2.ensures ∙ ap (corner_first (corner_told c.in_ok-corner.corner)) c.by_line.ensures)
    ∙ in_group_lem _ _ _ _ _ _ (known e f) _ c.in_ok-corner.ensures g _ (rw (to_z-of_z _ _ f, to_z-of_z _ _ c.ranges.total) at c.in_ok-line.ensures)
