-- `face_sound` is the definition, column by column: each test that fails settles it, and past them the group's.
use Rattle.std.proofs.Common.{◌≡◌, sym, ◌∙◌, ◌||◌, pos, get_or, take, drop, SFits, w64, rules}
use Rattle.std.specs.Prelude.{nat_abs}
use Rattle.std.proofs.lemmas.Int.{to_z-of_z}
use Rattle.table_references.specs.References.{is_row}
use Rattle.table_columns.proofs.Casts.{natural_cast}
use Rattle.player_spec.specs.Lookups.{size_fine, corners_fine, all_none}
use Rattle.player_face_tests.proofs.Corners.{size_is}
use Rattle.player_corners.proofs.FaceRows.{no_material, no_size, no_vertices, no_uvs, by_group}
use Rattle.player_corners.proofs.face.face_sound.Goals as goal
use Rattle.player_corners.proofs.face.face_sound.Goals.{After-is_row, After-size_fine, After-corners_fine, After-uvs_fine}

row_told : (c : After-is_row) → c.is_row.result ≡ is_row c.args.n.materials (get_or c.args.row.now 0 (pos 0))
row_told c =
    let f : SFits w64 (get_or c.args.row.now 0 (pos 0)) = search rules in
    rw (to_z-of_z _ _ f) at c.is_row.ensures

size-told : (c : After-size_fine) → c.size_fine.result ≡ size_fine (get_or c.args.row.now 1 (pos 0))
size-told c =
    let f : SFits w64 (get_or c.args.row.now 1 (pos 0)) = search rules in
    rw (to_z-of_z _ _ f) at c.size_fine.ensures

vertices-told : (c : After-corners_fine) → c.corners_fine.result ≡ corners_fine c.args.n.points (nat_abs (get_or c.args.row.now 1 (pos 0))) (take 4 (drop 2 c.args.row.now))
vertices-told c =
    let f : SFits w64 (get_or c.args.row.now 1 (pos 0)) = search rules in
    rw (to_z-of_z _ _ f) at c.corners_fine.ensures

uvs-told : (c : After-uvs_fine) → c.uvs_fine.result ≡ (all_none (take 4 (drop 6 c.args.row.now)) || corners_fine c.args.n.uvs (nat_abs (get_or c.args.row.now 1 (pos 0))) (take 4 (drop 6 c.args.row.now)))
uvs-told c =
    let f : SFits w64 (get_or c.args.row.now 1 (pos 0)) = search rules in
    rw (to_z-of_z _ _ f) at c.uvs_fine.ensures

pub returns-then-not-is_row : goal.returns-then-not-is_row
returns-then-not-is_row c = no_material _ _ (sym (row_told (goal.at.returns-then-not-is_row c).After-is_row) ∙ c.if-not-is_row.true)

pub returns-then-not-size_fine : goal.returns-then-not-size_fine
returns-then-not-size_fine c =
    let g = goal.at.returns-then-not-size_fine c in
    no_size _ _ (sym (row_told g.After-is_row) ∙ c.if-not-is_row.false) (sym (size-told g.After-size_fine) ∙ c.if-not-size_fine.true)

pub overflow_cast-used : goal.overflow_cast-used
overflow_cast-used c =
    let f : SFits w64 (get_or c.args.row.now 1 (pos 0)) = search rules in
    natural_cast _ f (size_is _ (sym (size-told (goal.at.overflow_cast-used c).After-size_fine) ∙ c.if-not-size_fine.false)).0

pub returns-then-not-corners_fine : goal.returns-then-not-corners_fine
returns-then-not-corners_fine c =
    let g = goal.at.returns-then-not-corners_fine c in
    no_vertices _ _ (sym (row_told g.After-is_row) ∙ c.if-not-is_row.false) (sym (size-told g.After-size_fine) ∙ c.if-not-size_fine.false) (sym (vertices-told g.After-corners_fine) ∙ c.if-not-corners_fine.true)

pub returns-then-not-uvs_fine : goal.returns-then-not-uvs_fine
returns-then-not-uvs_fine c =
    let g = goal.at.returns-then-not-uvs_fine c in
    no_uvs _ _ (sym (row_told g.After-is_row) ∙ c.if-not-is_row.false) (sym (size-told g.After-size_fine) ∙ c.if-not-size_fine.false) (sym (vertices-told g.After-corners_fine) ∙ c.if-not-corners_fine.false) (sym (uvs-told g.After-uvs_fine) ∙ c.if-not-uvs_fine.true)

pub returns : goal.returns
returns c =
    let g = goal.at.returns c in
    let f : SFits w64 (get_or c.args.row.now 10 (pos 0)) = search rules in
    (rw (to_z-of_z _ _ f) at c.is_index.ensures)
    ∙ by_group _ _ (sym (row_told g.After-is_row) ∙ c.if-not-is_row.false) (sym (size-told g.After-size_fine) ∙ c.if-not-size_fine.false) (sym (vertices-told g.After-corners_fine) ∙ c.if-not-corners_fine.false) (sym (uvs-told g.After-uvs_fine) ∙ c.if-not-uvs_fine.false)
