-- `point_at` is the three numbers at their indices, and the owner, where they may be so.
use Rattle.std.proofs.Common.{◌≡◌, refl, sym, ap, ◌∙◌, ℕ, ◌+◌, ◌*◌, ◌≤◌, ◌<◌, Bool, true, false, ◌&&◌, ℤ, pos, length, get_or, to_z, of_z, SFits, w64, arith, rules}
use Rattle.std.specs.Bool.{then_some}
use Rattle.std.specs.Prelude.{[], ◌∷◌, List, nat_abs}
use Rattle.std.proofs.lemmas.Int.{to_z-of_z}
use Rattle.table_references.specs.Index.{is_index}
use Rattle.table_columns.specs.Parts.{numbers_at}
use Rattle.table_columns.proofs.Casts.{natural_cast}
use Rattle.table_columns.proofs.SmallIndices.{small_fits, byte_fits, index_below}
use Rattle.table_columns.proofs.Parts.{three-same, three-at}
use Rattle.table_figure.proofs.Founds.{owners_room}
use Rattle.player_spec.specs.Lookups.{only_if, all_float, point_at}
use Rattle.player_face_tests.proofs.Corners.{row_is}
use Rattle.player_face_tests.proofs.Owners.{owner-part}
use Rattle.player_corners.specs.declared.point.Point.{Point}
use Rattle.player_corners.specs.Internal.CornerRow.{point_told, point_of}
use Rattle.player_corners.proofs.Places.{point_index, point_room}
use Rattle.player_corners.proofs.point.point_at.Goals as goal
use Rattle.player_corners.proofs.point.point_at.Goals.{Start}

fits : (c : Start) → SFits w64 c.args.v.0
fits c = search rules

-- where the numbers stand
abbrev base : Start → ℕ
base c = let a = c.args in a.f.now.sections.points + nat_abs (to_z w64 (of_z w64 a.v.0)) * 3

room : (c : Start) → (base c + 2 < length c.args.f.now.table.now) × (base c + 2 ≤ 40000)
room c = point_room _ _ _ c.args.f.now.found c.args.v.0 (fits c) c.requires

pub overflow_cast-at : goal.overflow_cast-at
overflow_cast-at c = natural_cast _ (fits (goal.at.overflow_cast-at c).Start) (row_is _ _ c.requires).0

pub overflow_mul-base : goal.overflow_mul-base
overflow_mul-base c = let h = (room (goal.at.overflow_mul-base c).Start).1 in small_fits _ (nat_abs (to_z w64 (of_z w64 c.args.v.0)) * 3) refl (omega arith)

pub overflow_add-base : goal.overflow_add-base
overflow_add-base c = let s = (goal.at.overflow_add-base c).Start in let h = (room s).1 in small_fits _ (base s) refl (omega arith)

pub offset_bounds-table-base : goal.offset_bounds-table-base
offset_bounds-table-base c = let s = (goal.at.offset_bounds-table-base c).Start in let h = (room s).1 in byte_fits _ (base s) refl (omega arith)

pub bounds-table-base : goal.bounds-table-base
bounds-table-base c = let s = (goal.at.bounds-table-base c).Start in let h = (room s).0 in index_below _ (base s) c.args.f.now.table.now refl (omega arith)

pub overflow_add-y : goal.overflow_add-y
overflow_add-y c = let s = (goal.at.overflow_add-y c).Start in let h = (room s).1 in small_fits _ (base s + 1) refl (omega arith)

pub offset_bounds-table-base-2 : goal.offset_bounds-table-base-2
offset_bounds-table-base-2 c = let s = (goal.at.offset_bounds-table-base-2 c).Start in let h = (room s).1 in byte_fits _ (base s + 1) refl (omega arith)

pub bounds-table-base-2 : goal.bounds-table-base-2
bounds-table-base-2 c = let s = (goal.at.bounds-table-base-2 c).Start in let h = (room s).0 in index_below _ (base s + 1) c.args.f.now.table.now refl (omega arith)

pub overflow_add-z : goal.overflow_add-z
overflow_add-z c = let s = (goal.at.overflow_add-z c).Start in let h = (room s).1 in small_fits _ (base s + 2) refl (omega arith)

pub offset_bounds-table-base-3 : goal.offset_bounds-table-base-3
offset_bounds-table-base-3 c = let s = (goal.at.offset_bounds-table-base-3 c).Start in let h = (room s).1 in byte_fits _ (base s + 2) refl (omega arith)

pub bounds-table-base-3 : goal.bounds-table-base-3
bounds-table-base-3 c = let s = (goal.at.bounds-table-base-3 c).Start in let h = (room s).0 in index_below _ (base s + 2) c.args.f.now.table.now refl (omega arith)

pub offset_bounds-table-owners : goal.offset_bounds-table-owners
offset_bounds-table-owners c = byte_fits _ _ refl (owners_room _ _ _ c.args.f.now.found).1

pub slice_bounds-owner_at-count : goal.slice_bounds-owner_at-count
slice_bounds-owner_at-count c = (owners_room _ _ _ c.args.f.now.found).0

pub slice_bounds-owner_at-start : goal.slice_bounds-owner_at-start
slice_bounds-owner_at-start c = (owners_room _ _ _ c.args.f.now.found).0

-- what the test leaves
by_test : (b : Bool) (p : Point) → point_told (then_some b p) ≡ only_if b (p.x ∷ p.y ∷ p.z ∷ [], p.owner)
unfolding only_if
by_test true p = refl
by_test false p = refl

ended : (bones : ℕ) (b : Bool) (p : Point) (l : List ℤ) (o : ℤ) → b ≡ (all_float (p.x ∷ p.y ∷ p.z ∷ []) && is_index bones p.owner) → (p.x ∷ p.y ∷ p.z ∷ []) ≡ l → p.owner ≡ o → point_told (then_some b p) ≡ only_if (all_float l && is_index bones o) (l, o)
ended bones b p l o e f g =
    by_test b p
    ∙ ap (λ (v : Bool). only_if v (p.x ∷ p.y ∷ p.z ∷ [], p.owner)) e
    ∙ ap (λ (m : List ℤ). only_if (all_float m && is_index bones p.owner) (m, p.owner)) f
    ∙ ap (λ (z : ℤ). only_if (all_float l && is_index bones z) (l, z)) g

pub returns : goal.returns
unfolding point_of point_at
returns c =
    let s = (goal.at.returns c).Start in
    let a = c.args in
    let t = a.f.now.table.now in
    let x : SFits w64 (get_or t (base s) (pos 0)) = search rules in
    let y : SFits w64 (get_or t (base s + 1) (pos 0)) = search rules in
    let z : SFits w64 (get_or t (base s + 2) (pos 0)) = search rules in
    let o : SFits w64 c.owner_at-owner.result = search rules in
    ap point_told c.then_some.ensures
    ∙ ended _ _ _ _ _ c.point_fine.ensures
    (three-same (to_z-of_z _ _ x) (to_z-of_z _ _ y) (to_z-of_z _ _ z) ∙ sym (three-at t (base s) (room s).0) ∙ ap (λ (i : ℕ). numbers_at t i 3) (point_index _ _ _ c.args.f.now.found a.v.0 (fits s)))
    (to_z-of_z _ _ o ∙ c.owner_at-owner.ensures ∙ owner-part _ _ _ c.args.f.now.found a.v.0)
