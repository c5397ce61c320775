-- `row_owned` is its definition: past the tests of the size and the vertices, it is the owners' answer.
use Rattle.std.proofs.Common.{◌≡◌, sym, ◌∙◌, pos, get_or, take, drop, SFits, w64, rules, true}
use Rattle.std.specs.Prelude.{nat_abs}
use Rattle.std.proofs.lemmas.Int.{to_z-of_z}
use Rattle.table_columns.proofs.Casts.{natural_cast}
use Rattle.player_spec.specs.Lookups.{size_fine, corners_fine}
use Rattle.player_face_tests.proofs.Corners.{size_is}
use Rattle.player_why.proofs.OwnedCorners.{no_size, no_vertices, by_owners}
use Rattle.player_why.proofs.owning.row_owned.Goals as goal
use Rattle.player_why.proofs.owning.row_owned.Goals.{After-size_fine, Else-not-size_fine, After-corners_fine}

fits : (c : After-size_fine) → SFits w64 (get_or c.args.row.now 1 (pos 0))
fits c = search rules

size-told : (c : After-size_fine) → c.size_fine.result ≡ size_fine (get_or c.args.row.now 1 (pos 0))
size-told c = rw (to_z-of_z _ _ (fits c)) at c.size_fine.ensures

pub returns-then-not-size_fine : goal.returns-then-not-size_fine
returns-then-not-size_fine c = no_size _ _ _ (sym (size-told (goal.at.returns-then-not-size_fine c).After-size_fine) ∙ c.if-not-size_fine.true)

sized : (c : Else-not-size_fine) → size_fine (get_or c.args.row.now 1 (pos 0)) ≡ true
sized c = sym (size-told c.before) ∙ c.if-not-size_fine.false

pub overflow_cast-used : goal.overflow_cast-used
overflow_cast-used c =
    let e = (goal.at.overflow_cast-used c).Else-not-size_fine in
    natural_cast _ (fits e.before) (size_is _ (sized e)).0

vertices-told : (c : After-corners_fine) → SFits w64 (get_or c.args.row.now 1 (pos 0)) → c.corners_fine.result ≡ corners_fine c.args.f.now.n.points (nat_abs (get_or c.args.row.now 1 (pos 0))) (take 4 (drop 2 c.args.row.now))
vertices-told c f = rw (to_z-of_z _ _ f) at c.corners_fine.ensures

pub returns-then-not-corners_fine : goal.returns-then-not-corners_fine
returns-then-not-corners_fine c =
    let e = (goal.at.returns-then-not-corners_fine c).Else-not-size_fine in
    let m = (goal.at.returns-then-not-corners_fine c).After-corners_fine in
    no_vertices _ _ _ (sized e) (sym (vertices-told m (fits e.before)) ∙ c.if-not-corners_fine.true)

pub owned-requires : goal.owned-requires
owned-requires c =
    let e = (goal.at.owned-requires c).Else-not-size_fine in
    (c.requires, rw (to_z-of_z _ _ (fits e.before)) (size_is _ (sized e)).1)

pub returns : goal.returns
returns c =
    let e = (goal.at.returns c).Else-not-size_fine in
    let m = (goal.at.returns c).After-corners_fine in
    (rw (to_z-of_z _ _ (fits e.before)) at c.owned.ensures) ∙ by_owners _ _ _ (sized e) (sym (vertices-told m (fits e.before)) ∙ c.if-not-corners_fine.false)
