-- `why` is its definition: past the tests of the tables, the face and the frame, it is the answer by the face's row.
use Rattle.std.proofs.Common.{◌≡◌, refl, sym, ap, ◌∙◌, ℕ, ◌+◌, ◌*◌, ◌/◌, ◌≤◌, List, ℤ, pos, length, get_or, to_z, of_z, SFits, w64, arith, rules, true}
use mathlib.Core.Path.{ap₂}
use Rattle.std.proofs.lemmas.Int.{to_z-of_z}
use Rattle.tra4_text.specs.Movement.{Pattern}
use Rattle.table_counts.specs.declared.counts.FigureCounts.{FigureCounts}
use Rattle.table_columns.specs.Parts.{number_at, rows_at}
use Rattle.table_columns.proofs.SmallIndices.{small_fits, byte_fits, index_within}
use Rattle.table_movement.specs.declared.sections.MovementSections.{MovementSections}
use Rattle.table_movement.specs.Sections.{keys_begin, patterns_begin, movement_sections, holds_movement}
use Rattle.table_movement.proofs.Mosts.{movement-room, movement_none, movement-held, movement-found}
use Rattle.player_spec.specs.Lookups.{is_asked, face_at, pattern_rows, why_in}
use Rattle.player_spec.specs.Answers.{numbered}
use Rattle.player_why.specs.Answers.{explained}
use Rattle.player_why.specs.Internal.Rows.{row_why}
use Rattle.player_why.proofs.LentRows.{lent, lent_rows}
use Rattle.player_why.proofs.WhyTests.{explained-is, no_figure_lem, no_movement_lem, no_face_lem, not_asked, by_row}
use Rattle.player_why.proofs.explaining.why.Goals as goal
use Rattle.player_why.proofs.explaining.why.Goals.{In_ok-f, Else-t-eq0, After-is_asked}

pub returns-in_err-f : goal.returns-in_err-f
unfolding numbered
returns-in_err-f c = ap explained c.from_residual.ensures ∙ ap numbered (no_figure_lem _ _ _ _ _ _ c.in_err-f.ensures)

-- what the figure answers is what the table does
same : (c : In_ok-f) → let f = c.in_ok-f.f in let a = c.args in why_in f.n f.table.now a.m a.moves.now a.face a.at ≡ why_in a.n a.table.now a.m a.moves.now a.face a.at
same c = let a = c.args in ap₂ (λ (n : FigureCounts) (t : List ℤ). why_in n t a.m a.moves.now a.face a.at) c.in_ok-f.ensures.0 c.in_ok-f.ensures.1

pub returns-then-t-eq0 : goal.returns-then-t-eq0
unfolding numbered
returns-then-t-eq0 c =
    ap numbered (no_movement_lem _ _ _ _ _ _ c.in_ok-f.f.found.held (movement_none _ _ _ c.movement_in-t.ensures c.if-t-eq0.true) ∙ same (goal.at.returns-then-t-eq0 c).In_ok-f)

-- the pattern lines lie within the movement's table
module _ (c : Else-t-eq0) where
  held : holds_movement c.args.m c.args.moves.now ≡ true
  held = movement-held _ _ _ c.movement_in-t.ensures c.if-t-eq0.false

  patterns_are : c.movement_in-t.result.patterns ≡ patterns_begin c.args.m
  unfolding movement_sections
  patterns_are = ap (λ (s : MovementSections). s.patterns) (movement-found _ _ _ c.movement_in-t.ensures c.if-t-eq0.false)

  room : let m = c.args.m in (m.bones ≤ 128) × (m.keys ≤ 4096) × (m.patterns ≤ 256) × (3 + m.bones * 22 + m.keys * 2 + m.patterns * 3 ≤ length c.args.moves.now)
  room = movement-room _ _ held

  ends : c.movement_in-t.result.patterns + c.args.m.patterns * 3 ≡ patterns_begin c.args.m + c.args.m.patterns * 3
  ends = ap (λ (x : ℕ). x + c.args.m.patterns * 3) patterns_are

  lines : (patterns_begin c.args.m + c.args.m.patterns * 3 ≤ length c.args.moves.now) × (patterns_begin c.args.m + c.args.m.patterns * 3 ≤ 40000)
  unfolding patterns_begin keys_begin
  lines = let r = room in (omega arith, omega arith)

  lines-room : c.movement_in-t.result.patterns + c.args.m.patterns * 3 ≤ length c.args.moves.now
  lines-room = index_within _ _ c.args.moves.now ends lines.0

pub returns-in_err-row : goal.returns-in_err-row
unfolding numbered
returns-in_err-row c =
    let g = goal.at.returns-in_err-row c in
    ap explained c.from_residual-in_err-row.ensures
    ∙ ap numbered (no_face_lem _ _ _ _ _ _ c.in_ok-f.f.found.held (held g.Else-t-eq0) c.in_err-row.ensures ∙ same g.In_ok-f)

pub bounds-moves-0 : goal.bounds-moves-0
bounds-moves-0 c = let h = room (goal.at.bounds-moves-0 c).Else-t-eq0 in omega arith

asked-told : (c : After-is_asked) → c.is_asked.result ≡ is_asked (get_or c.args.moves.now 0 (pos 0)) c.args.at
asked-told c =
    let f : SFits w64 (get_or c.args.moves.now 0 (pos 0)) = search rules in
    rw (to_z-of_z _ _ f) at c.is_asked.ensures

pub returns-then-not-is_asked : goal.returns-then-not-is_asked
unfolding numbered number_at
returns-then-not-is_asked c =
    let g = goal.at.returns-then-not-is_asked c in
    ap numbered (not_asked _ _ _ _ _ _ c.in_ok-f.f.found.held (held g.Else-t-eq0) c.in_ok-row.ensures.0 (sym (asked-told g.After-is_asked) ∙ c.if-not-is_asked.true) ∙ same g.In_ok-f)

pub overflow_mul-count : goal.overflow_mul-count
overflow_mul-count c =
    let h = lines (goal.at.overflow_mul-count c).Else-t-eq0 in
    small_fits _ (c.args.m.patterns * 3) refl (omega arith)

pub overflow_add-from : goal.overflow_add-from
overflow_add-from c =
    let t = (goal.at.overflow_add-from c).Else-t-eq0 in
    small_fits _ _ (ends t) (lines t).1

pub offset_bounds-moves-from : goal.offset_bounds-moves-from
offset_bounds-moves-from c =
    let t = (goal.at.offset_bounds-moves-from c).Else-t-eq0 in
    let h = lines t in
    byte_fits _ _ (patterns_are t) (omega arith)

pub slice_bounds-row_why-end : goal.slice_bounds-row_why-end
slice_bounds-row_why-end c = lines-room (goal.at.slice_bounds-row_why-end c).Else-t-eq0

pub returns : goal.returns
unfolding pattern_rows number_at
returns c =
    let g = goal.at.returns c in
    let a = c.args in
    let f = c.in_ok-f.f in
    let v = a.moves.now in
    let fits : SFits w64 (get_or v 0 (pos 0)) = search rules in
    let z = to_z w64 (of_z w64 (get_or v 0 (pos 0))) in
    let from = c.movement_in-t.result.patterns in
    explained-is _
    ∙ ap numbered
    (c.row_why.ensures
    ∙ ap (λ (r : List ℤ). row_why f.n f.table.now r (rows_at 3 (lent v from a.m.patterns) 0 (length (lent v from a.m.patterns) / 3)) z a.at) c.in_ok-row.ensures.2
    ∙ ap (λ (p : List Pattern). row_why f.n f.table.now (face_at f.n f.table.now a.face) p z a.at) (lent_rows v from a.m.patterns (lines-room g.Else-t-eq0) ∙ ap (λ (i : ℕ). rows_at 3 v i a.m.patterns) (patterns_are g.Else-t-eq0))
    ∙ ap (λ (y : ℤ). row_why f.n f.table.now (face_at f.n f.table.now a.face) (rows_at 3 v (patterns_begin a.m) a.m.patterns) y a.at) (to_z-of_z _ _ fits)
    ∙ by_row _ _ _ _ _ _ f.found.held (held g.Else-t-eq0) c.in_ok-row.ensures.0 (sym (asked-told g.After-is_asked) ∙ c.if-not-is_asked.false)
    ∙ same g.In_ok-f)
