-- Each turn tests the owner before those that were looked at; a corner without a bone is the first so far.
use Rattle.std.proofs.Common.{◌≡◌, refl, sym, ap, ◌∙◌, suc, ◌-◌, ◌≤◌, ℤ, pos, length, get_or, drop, SFits, w64, arith, rules, length-drop, length-take}
use Rattle.std.proofs.lemmas.Int.{to_z-of_z}
use Rattle.table_references.specs.References.{is_none}
use Rattle.table_references.specs.Index.{is_index}
use Rattle.table_columns.specs.Columns.{face_vertices}
use Rattle.table_columns.proofs.Corners.{corner-part}
use Rattle.table_columns.proofs.SmallIndices.{byte_fits}
use Rattle.table_figure.proofs.Founds.{owners_room}
use Rattle.player_spec.specs.Lookups.{owner_at}
use Rattle.player_face_tests.proofs.Owners.{owner-part}
use Rattle.player_why.proofs.OwnedCorners.{begins, turn_broken, turn_none, turn_owned, ends}
use Rattle.player_why.proofs.owning.owned.Goals as goal
use Rattle.player_why.proofs.owning.owned.Goals.{Start, After-is_index}

-- the row has room for what is used
room : (c : Start) → c.args.used ≤ length (face_vertices c.args.row.now)
room c =
    let w = c.requires.0 in
    let u = c.requires.1 in
    rw (length-take 4 (drop 2 c.args.row.now), length-drop 2 c.args.row.now) (omega arith)

pub loop-i-init : goal.loop-i-init
loop-i-init c = begins _ _ _ _ (room (goal.at.loop-i-init c).Start)

pub offset_bounds-table-owners : goal.offset_bounds-table-owners
offset_bounds-table-owners c = byte_fits _ _ refl (owners_room _ _ _ c.args.f.now.found).1

pub slice_bounds-owner_at-count : goal.slice_bounds-owner_at-count
slice_bounds-owner_at-count c = (owners_room _ _ _ c.args.f.now.found).0

pub slice_bounds-owner_at-start : goal.slice_bounds-owner_at-start
slice_bounds-owner_at-start c = (owners_room _ _ _ c.args.f.now.found).0

-- the turn's owner, and what the call says of it
module _ (c : After-is_index) where
  abbrev owner : ℤ
  owner = owner_at c.args.f.now.n c.args.f.now.table.now (get_or (face_vertices c.args.row.now) (c.loop-i.i - 1) (pos 0))

  vertex : c.face_vertex.result.0 ≡ get_or (face_vertices c.args.row.now) (c.loop-i.i - 1) (pos 0)
  vertex = c.face_vertex.ensures ∙ corner-part 2 _ _ (let h = c.loop-i-test.true in let w = c.loop-i.invariant.within in let u = c.requires.1 in omega arith)

  owner-is : c.owner_at-owner.result ≡ owner
  owner-is = c.owner_at-owner.ensures ∙ owner-part _ _ _ c.args.f.now.found c.face_vertex.result.0 ∙ ap (owner_at c.args.f.now.n c.args.f.now.table.now) vertex

  fits : SFits w64 c.owner_at-owner.result
  fits = search rules

  index-told : c.is_index.result ≡ is_index c.args.f.now.n.bones owner
  index-told = (rw (to_z-of_z _ _ fits) at c.is_index.ensures) ∙ ap (is_index c.args.f.now.n.bones) owner-is

  -- the corner before the one that was looked at last
  next : c.loop-i.i ≡ suc (c.loop-i.i - 1)
  next = let h = c.loop-i-test.true in omega arith

pub returns-then-not-is_index : goal.returns-then-not-is_index
returns-then-not-is_index c =
    let s = (goal.at.returns-then-not-is_index c).Start in
    let m = (goal.at.returns-then-not-is_index c).After-is_index in
    turn_broken _ _ _ _ (room s) _ _ _ (next m) c.loop-i.invariant (sym (index-told m) ∙ c.if-not-is_index.true)

pub loop-i-preserved-then-is_none : goal.loop-i-preserved-then-is_none
loop-i-preserved-then-is_none c =
    let s = (goal.at.loop-i-preserved-then-is_none c).Start in
    let m = (goal.at.loop-i-preserved-then-is_none c).After-is_index in
    let told = (rw (to_z-of_z _ _ (fits m)) at c.is_none.ensures) ∙ ap is_none (owner-is m) in
    turn_none _ _ _ _ (room s) _ _ _ (next m) c.loop-i.invariant (sym (index-told m) ∙ c.if-not-is_index.false) (sym told ∙ c.if-is_none.true)

pub loop-i-preserved : goal.loop-i-preserved
loop-i-preserved c =
    let s = (goal.at.loop-i-preserved c).Start in
    let m = (goal.at.loop-i-preserved c).After-is_index in
    let told = (rw (to_z-of_z _ _ (fits m)) at c.is_none.ensures) ∙ ap is_none (owner-is m) in
    turn_owned _ _ _ _ (room s) _ _ _ (next m) c.loop-i.invariant (sym (index-told m) ∙ c.if-not-is_index.false) (sym told ∙ c.if-is_none.false)

pub returns : goal.returns
returns c =
    let z : c.loop-i.i ≡ 0 = (let h = c.loop-i-test.false in omega arith) in
    ends _ _ _ _ (room (goal.at.returns c).Start) _ (rw z at c.loop-i.invariant)
