-- `row_corner` is its definition: each failed test refuses, and past them the numbers at the row's vertex and texture coordinate are the answer.
use Rattle.std.proofs.Common.{◌≡◌, sym, ap, ◌∙◌, ◌≤◌, ◌<◌, ℤ, to_z, of_z, SFits, w64, arith, rules, true}
use Rattle.std.specs.Prelude.{nat_abs, Some, None}
use Rattle.std.proofs.Math.Option.{some}
use Rattle.std.proofs.lemmas.Int.{to_z-of_z}
use Rattle.table_references.specs.References.{is_row, is_none}
use Rattle.table_columns.specs.Columns.{face_material, face_size, face_uv}
use Rattle.table_columns.proofs.Casts.{natural_cast}
use Rattle.table_columns.proofs.Corners.{corner-is}
use Rattle.player_spec.specs.Lookups.{face_sound}
use Rattle.player_corners.specs.Internal.CornerRow.{corner_told, point_of, uv_of}
use Rattle.player_corners.proofs.FaceRows.{face-size, face_vertex_lem, face-uv}
use Rattle.player_corners.proofs.CornerTests.{row_broken, no_corner, point_broken, plain, uv_broken, textured, same_corner}
use Rattle.player_corners.proofs.corners.row_corner.Goals as goal
use Rattle.player_corners.proofs.corners.row_corner.Goals.{Else-not-face_sound, Else-row-k, After-face_uv-t, After-is_none}

pub returns-then-not-face_sound : goal.returns-then-not-face_sound
returns-then-not-face_sound c = row_broken _ _ _ _ (sym c.face_sound.ensures ∙ c.if-not-face_sound.true)

-- what was passed says of the row

fine : (c : Else-not-face_sound) → face_sound c.args.f.now.n c.args.row.now ≡ true
fine c = sym c.face_sound.ensures ∙ c.if-not-face_sound.false

pub overflow_cast-row : goal.overflow_cast-row
overflow_cast-row c =
    let e = (goal.at.overflow_cast-row c).Else-not-face_sound in
    let f : SFits w64 (face_size c.args.row.now) = search rules in
    natural_cast _ f (face-size _ _ (fine e)).0

pub returns-then-row-k : goal.returns-then-row-k
returns-then-row-k c =
    let e = (goal.at.returns-then-row-k c).Else-not-face_sound in
    let f : SFits w64 (face_size c.args.row.now) = search rules in
    no_corner _ _ _ _ (fine e) (rw (to_z-of_z _ _ f) at c.if-row-k.true)

size_fits : (c : Else-row-k) → SFits w64 (face_size c.args.row.now)
size_fits c = search rules

used : (c : Else-row-k) → SFits w64 (face_size c.args.row.now) → c.args.k < nat_abs (face_size c.args.row.now)
used c f = let h = rw (to_z-of_z _ _ f) at c.if-row-k.false in omega arith

below : (c : Else-row-k) → SFits w64 (face_size c.args.row.now) → face_sound c.args.f.now.n c.args.row.now ≡ true → c.args.k < 4
below c f h =
    let u = used c f in
    let s : nat_abs (face_size c.args.row.now) ≤ 4 = (face-size _ _ h).1 in
    omega arith

pub point_at-requires : goal.point_at-requires
point_at-requires c =
    let g = goal.at.point_at-requires c in
    let e = g.Else-not-face_sound in
    let f = size_fits g.Else-row-k in
    ap (is_row c.args.f.now.n.points) (c.face_vertex.ensures ∙ corner-is 2 _ _ (below g.Else-row-k f (fine e))) ∙ face_vertex_lem _ _ (fine e) c.requires _ (used g.Else-row-k f)

pub returns-in_err-p : goal.returns-in_err-p
returns-in_err-p c =
    let g = goal.at.returns-in_err-p c in
    let e = g.Else-not-face_sound in
    let f = size_fits g.Else-row-k in
    let vertex = c.face_vertex.ensures ∙ corner-is 2 _ _ (below g.Else-row-k f (fine e)) in
    ap corner_told c.from_residual.ensures
    ∙ point_broken _ _ _ _ (fine e) (used g.Else-row-k f) (c.in_err-p.ensures ∙ ap (point_of c.args.f.now.n c.args.f.now.table.now) vertex)

-- the corner has a texture coordinate or none
uv : (c : After-face_uv-t) → c.args.k < 4 → c.face_uv-t.result.0 ≡ face_uv c.args.row.now c.args.k
uv c h = c.face_uv-t.ensures ∙ corner-is 6 _ _ h

none_told : (c : After-is_none) → c.face_uv-t.result.0 ≡ face_uv c.args.row.now c.args.k → c.is_none.result ≡ is_none (face_uv c.args.row.now c.args.k)
none_told c h =
    let f : SFits w64 c.face_uv-t.result.0 = search rules in
    (rw (to_z-of_z _ _ f) at c.is_none.ensures) ∙ ap is_none h

pub returns-then-is_none : goal.returns-then-is_none
returns-then-is_none c =
    let g = goal.at.returns-then-is_none c in
    let e = g.Else-not-face_sound in
    let f = size_fits g.Else-row-k in
    let b = below g.Else-row-k f (fine e) in
    let p = c.in_ok-p.p in
    let x : SFits w64 p.x = search rules in
    let y : SFits w64 p.y = search rules in
    let z : SFits w64 p.z = search rules in
    let o : SFits w64 p.owner = search rules in
    let m : SFits w64 (face_material c.args.row.now) = search rules in
    ap some (same_corner p.x p.y p.z p.owner (face_material c.args.row.now) None (to_z-of_z _ _ x) (to_z-of_z _ _ y) (to_z-of_z _ _ z) (to_z-of_z _ _ o) (to_z-of_z _ _ m))
    ∙ plain _ _ _ _ (fine e) (used g.Else-row-k f) _ (c.in_ok-p.ensures ∙ ap (point_of c.args.f.now.n c.args.f.now.table.now) (c.face_vertex.ensures ∙ corner-is 2 _ _ b)) (sym (none_told g.After-is_none (uv g.After-face_uv-t b)) ∙ c.if-is_none.true)

pub uv_at-requires : goal.uv_at-requires
uv_at-requires c =
    let g = goal.at.uv_at-requires c in
    let e = g.Else-not-face_sound in
    let f = size_fits g.Else-row-k in
    let t = uv g.After-face_uv-t (below g.Else-row-k f (fine e)) in
    ap (is_row c.args.f.now.n.uvs) t ∙ face-uv _ _ (fine e) c.requires _ (used g.Else-row-k f) (sym (none_told g.After-is_none t) ∙ c.if-is_none.false)

pub returns-in_err-uv : goal.returns-in_err-uv
returns-in_err-uv c =
    let g = goal.at.returns-in_err-uv c in
    let e = g.Else-not-face_sound in
    let f = size_fits g.Else-row-k in
    let b = below g.Else-row-k f (fine e) in
    let t = uv g.After-face_uv-t b in
    ap corner_told c.from_residual-in_err-uv.ensures
    ∙ uv_broken _ _ _ _ (fine e) (used g.Else-row-k f) _ (c.in_ok-p.ensures ∙ ap (point_of c.args.f.now.n c.args.f.now.table.now) (c.face_vertex.ensures ∙ corner-is 2 _ _ b)) (sym (none_told g.After-is_none t) ∙ c.if-is_none.false) (c.in_err-uv.ensures ∙ ap (uv_of c.args.f.now.n c.args.f.now.table.now) t)

-- a number copied twice
twice : (n : ℤ) → SFits w64 n → to_z w64 (of_z w64 (to_z w64 (of_z w64 n))) ≡ n
twice n f = ap (λ (z : ℤ). to_z w64 (of_z w64 z)) (to_z-of_z _ _ f) ∙ to_z-of_z _ _ f

pub returns : goal.returns
returns c =
    let g = goal.at.returns c in
    let e = g.Else-not-face_sound in
    let f = size_fits g.Else-row-k in
    let b = below g.Else-row-k f (fine e) in
    let t = uv g.After-face_uv-t b in
    let p = c.in_ok-p.p in
    let x : SFits w64 p.x = search rules in
    let y : SFits w64 p.y = search rules in
    let z : SFits w64 p.z = search rules in
    let o : SFits w64 p.owner = search rules in
    let m : SFits w64 (face_material c.args.row.now) = search rules in
    ap some (same_corner p.x p.y p.z p.owner (face_material c.args.row.now) (Some c.in_ok-uv.uv) (twice _ x) (twice _ y) (twice _ z) (twice _ o) (twice _ m))
    ∙ textured _ _ _ _ (fine e) (used g.Else-row-k f) _ (c.in_ok-p.ensures ∙ ap (point_of c.args.f.now.n c.args.f.now.table.now) (c.face_vertex.ensures ∙ corner-is 2 _ _ b)) (sym (none_told g.After-is_none t) ∙ c.if-is_none.false) _ (c.in_ok-uv.ensures ∙ ap (uv_of c.args.f.now.n c.args.f.now.table.now) t)
