-- `uv_at` is the two numbers at their indices, where they may be so.
use Rattle.std.proofs.Common.{◌≡◌, refl, sym, ap, ◌∙◌, ℕ, ◌+◌, ◌*◌, ◌≤◌, ◌<◌, Bool, true, false, ℤ, pos, length, get_or, to_z, of_z, SFits, w64, arith, rules}
use Rattle.std.specs.Bool.{then_some}
use Rattle.std.specs.Prelude.{[], ◌∷◌, List, nat_abs}
use Rattle.std.proofs.lemmas.Int.{to_z-of_z}
use Rattle.table_columns.specs.Parts.{numbers_at}
use Rattle.table_columns.proofs.Casts.{natural_cast}
use Rattle.table_columns.proofs.SmallIndices.{small_fits, byte_fits, index_below}
use Rattle.table_columns.proofs.Parts.{two_same, two_at}
use Rattle.player_spec.specs.Lookups.{only_if, all_float, uv_row}
use Rattle.player_face_tests.proofs.Corners.{row_is}
use Rattle.player_corners.specs.declared.point.Uv.{Uv}
use Rattle.player_corners.specs.Answers.{uv_told}
use Rattle.player_corners.specs.Internal.CornerRow.{uv_of}
use Rattle.player_corners.proofs.Places.{uv_index, uv-room}
use Rattle.player_corners.proofs.point.uv_at.Goals as goal
use Rattle.player_corners.proofs.point.uv_at.Goals.{Start}

fits : (c : Start) → SFits w64 c.args.t.0
fits c = search rules

-- where the numbers stand
abbrev base : Start → ℕ
base c = let a = c.args in a.f.now.sections.uvs + nat_abs (to_z w64 (of_z w64 a.t.0)) * 2

room : (c : Start) → (base c + 1 < length c.args.f.now.table.now) × (base c + 1 ≤ 40000)
room c = uv-room _ _ _ c.args.f.now.found c.args.t.0 (fits c) c.requires

pub overflow_cast-at : goal.overflow_cast-at
overflow_cast-at c = natural_cast _ (fits (goal.at.overflow_cast-at c).Start) (row_is _ _ c.requires).0

pub overflow_mul-base : goal.overflow_mul-base
overflow_mul-base c = let h = (room (goal.at.overflow_mul-base c).Start).1 in small_fits _ (nat_abs (to_z w64 (of_z w64 c.args.t.0)) * 2) refl (omega arith)

pub overflow_add-base : goal.overflow_add-base
overflow_add-base c = let s = (goal.at.overflow_add-base c).Start in let h = (room s).1 in small_fits _ (base s) refl (omega arith)

pub offset_bounds-table-base : goal.offset_bounds-table-base
offset_bounds-table-base c = let s = (goal.at.offset_bounds-table-base c).Start in let h = (room s).1 in byte_fits _ (base s) refl (omega arith)

pub bounds-table-base : goal.bounds-table-base
bounds-table-base c = let s = (goal.at.bounds-table-base c).Start in let h = (room s).0 in index_below _ (base s) c.args.f.now.table.now refl (omega arith)

pub overflow_add-v : goal.overflow_add-v
overflow_add-v c = let s = (goal.at.overflow_add-v c).Start in let h = (room s).1 in small_fits _ (base s + 1) refl (omega arith)

pub offset_bounds-table-base-2 : goal.offset_bounds-table-base-2
offset_bounds-table-base-2 c = let s = (goal.at.offset_bounds-table-base-2 c).Start in let h = (room s).1 in byte_fits _ (base s + 1) refl (omega arith)

pub bounds-table-base-2 : goal.bounds-table-base-2
bounds-table-base-2 c = let s = (goal.at.bounds-table-base-2 c).Start in let h = (room s).0 in index_below _ (base s + 1) c.args.f.now.table.now refl (omega arith)

-- what the test leaves
by_test : (b : Bool) (t : Uv) → uv_told (then_some b t) ≡ only_if b (t.u ∷ t.v ∷ [])
unfolding only_if
by_test true t = refl
by_test false t = refl

ended : (b : Bool) (t : Uv) (l : List ℤ) → b ≡ all_float (t.u ∷ t.v ∷ []) → (t.u ∷ t.v ∷ []) ≡ l → uv_told (then_some b t) ≡ only_if (all_float l) l
ended b t l e f = by_test b t ∙ ap (λ (v : Bool). only_if v (t.u ∷ t.v ∷ [])) e ∙ ap (λ (m : List ℤ). only_if (all_float m) m) f

pub returns : goal.returns
unfolding uv_of uv_row
returns c =
    let s = (goal.at.returns c).Start in
    let a = c.args in
    let t = a.f.now.table.now in
    let u : SFits w64 (get_or t (base s) (pos 0)) = search rules in
    let v : SFits w64 (get_or t (base s + 1) (pos 0)) = search rules in
    ap uv_told c.then_some.ensures
    ∙ ended _ _ _ c.uv_fine.ensures (two_same (to_z-of_z _ _ u) (to_z-of_z _ _ v) ∙ sym (two_at t (base s) (room s).0) ∙ ap (λ (x : ℕ). numbers_at t x 2) (uv_index _ _ _ c.args.f.now.found a.t.0 (fits s)))
