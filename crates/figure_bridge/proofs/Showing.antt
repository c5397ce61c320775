-- Why a face is shown or hidden, on a figure's and a movement's tables, is the reason on their lists, and 21 only where a group face meets a pattern whose group is no row: each number that the lookup reads is the list's, and each other test passes.
use mathlib.Core.Path.{◌≡◌, refl, ap₂, sym, ◌∙◌}
use mathlib.Core.List.{List, [], ◌∷◌, ◌++◌, map}
use mathlib.Core.Bool.{Bool, true, false, ◌&&◌, ◌||◌}
use mathlib.Core.Option.{Option, none, some}
use Prim.Native.Nat.{ℕ, ◌<◌}
use borrow.Author.Tests.{lt-ltb}
use lib.IntN.{ℤ, pos}
use lib.ListN.{length, get_or, take}
use Rattle.refusal.specs.Faults.{clear, is_clear}
use Rattle.text_numerals.proofs.Numerals.{and_true}
use Rattle.parse_spec.proofs.Given.{Every}
use Rattle.bac6_text.specs.Figure.{Bone, Face, Figure}
use Rattle.bac6_text.specs.Rules.{faces_of, owner_of, figure_fault}
use Rattle.refusal.specs.FirstBad.{all}
use Rattle.table_references.specs.References.{is_row, is_none}
use Rattle.bac6_text.specs.Layout.{layout_of, corners, face_row}
use Rattle.bac6_text.proofs.Whole.{WholeFace, WholeFigure}
use Rattle.tra4_text.specs.Movement.{Pattern, group_of, Movement}
use Rattle.tra4_text.specs.Rules.{patterns_fault}
use Rattle.table_counts.specs.declared.counts.FigureCounts.{FigureCounts}
use Rattle.table_counts.specs.declared.counts.MovementCounts.{MovementCounts}
use Rattle.player_spec.specs.Reasons.{reason_of, why_of}
use Rattle.table_figure.specs.Sections.{holds_figure}
use Rattle.table_movement.specs.Sections.{holds_movement}
use Rattle.table_columns.specs.Parts.{number_at}
use Rattle.table_references.specs.Index.{is_index}
use Rattle.player_spec.specs.Lookups.{only_if, is_asked, size_fine, corners_fine, face_at, owner_at, owners_fine, corner_owners, group_named, pattern_rows, lines_fine, patterns_fine, can_show, why_in}
use Rattle.pair_text.specs.Rules.{groups_fault}
use Rattle.figure_bridge.specs.Rows.{grouped_face_of, has_no_group}
use Rattle.figure_bridge.proofs.Tests.{owner_known}
use Rattle.refusal.proofs.FirstBad.{first_bad-clear}
use Rattle.figure_bridge.proofs.Parts.{counts}
use Rattle.figure_bridge.proofs.Grouped.{group_number, group_known}
use Rattle.figure_bridge.proofs.FaceRows.{row-size, row-vertices, row-group, filled, vertex_corners, size-fine, vertices-fine}
use Rattle.figure_bridge.proofs.Corners.{figure_holds, face_stands, owner_of_lem, face-whole, vertex_rows}

-- ---- where every test passes but that of the patterns

module _ (n : FigureCounts) (t : List ℤ) (m : MovementCounts) (moves : List ℤ) (face at : ℕ) (g : ℤ) (f : Face) where
  why_by : face_at n t face ≡ face_row g f → holds_figure n t ≡ true → holds_movement m moves ≡ true → face < n.faces → is_asked (number_at moves 0) at ≡ true → size_fine (pos f.size) ≡ true → corners_fine n.points f.size (corners 4 f.vertices) ≡ true → owners_fine n t f.size (corners 4 f.vertices) ≡ true → is_index n.groups g ≡ true → why_in n t m moves face at ≡ only_if (is_none g || patterns_fine n t m moves) (reason_of (map (owner_at n t) (take f.size (corners 4 f.vertices))) (group_named g) (pattern_rows n t m moves) at)
  unfolding why_in can_show corner_owners
  why_by row held moving below asked size vertices owners group =
      rw (row, row-size g f, row-vertices g f, row-group g f, held, moving, lt-ltb face n.faces below, asked, size, vertices, owners, group)

-- ---- patterns

module _ (n : FigureCounts) (t : List ℤ) (m : MovementCounts) (moves : List ℤ) where
  abbrev known : List Pattern → Bool
  known ps = all (λ (p : Pattern). is_row n.groups (group_of p)) ps

  lines_known : (ps : List Pattern) → Every (λ p. is_row 2 (get_or p 2 (pos 0)) ≡ true) ps → lines_fine n.groups ps ≡ known ps
  unfolding lines_fine all
  lines_known [] h = refl
  lines_known (p ∷ ps) h = rw (h.0, lines_known ps h.1) (go (is_row n.groups (group_of p)) (known ps))
    where
      go : (a b : Bool) → ((a && true) && b) ≡ (a && b)
      go true b = refl
      go false b = refl

  patterns_known : (ps : List Pattern) → pattern_rows n t m moves ≡ ps → patterns_fault (number_at moves 0) ps ≡ clear → Every (λ p. is_row 2 (get_or p 2 (pos 0)) ≡ true) ps → patterns_fine n t m moves ≡ known ps
  unfolding patterns_fine is_clear
  patterns_known ps rows sound flags = rw (rows, sound) (lines_known ps flags)

group-named : (o : Option ℕ) → group_named (group_number o) ≡ o
unfolding group_named group_number is_none
group-named none = refl
group-named (some g) = refl

no_group : (f : Face × Option ℕ) → is_none (group_number f.1) ≡ has_no_group f
unfolding group_number is_none has_no_group
no_group (f, none) = refl
no_group (f, some g) = refl

-- ---- owners of corners

module _ (n : FigureCounts) (t : List ℤ) (bs : List Bone) (e : n.bones ≡ length bs) (o : (v : ℤ) → is_row n.points v ≡ true → owner_at n t v ≡ owner_of bs v) where
  owners_fine_lem : (vs unused : List ℤ) → all (is_row n.points) vs ≡ true → owners_fine n t (length vs) (vs ++ unused) ≡ true
  unfolding owners_fine all
  owners_fine_lem [] unused h = refl
  owners_fine_lem (v ∷ vs) unused h =
      let p = and_true (is_row n.points v) (all (is_row n.points) vs) h in
      rw (o v p.0, e, owner_known bs v, owners_fine_lem vs unused p.1)

  owners_same : (vs unused : List ℤ) → all (is_row n.points) vs ≡ true → map (owner_at n t) (take (length vs) (vs ++ unused)) ≡ map (owner_of bs) vs
  unfolding all
  owners_same [] unused h = refl
  owners_same (v ∷ vs) unused h =
      let p = and_true (is_row n.points v) (all (is_row n.points) vs) h in
      rw (o v p.0, owners_same vs unused p.1)

-- ---- the tables of a figure and a movement

module _ (f : Figure) (w : WholeFigure f) (c : figure_fault f ≡ clear) (rest : List ℤ) (face : ℕ) (below : face < length (faces_of f)) where
  abbrev table : List ℤ
  table = layout_of f ++ rest

  abbrev this : Face × Option ℕ
  this = grouped_face_of f face

  whole : WholeFace this.0
  whole = face-whole f w c rest face below

  rows : all (is_row (length f.points)) this.0.vertices ≡ true
  rows = vertex_rows f w c rest face below

  used_fine : owners_fine (counts f) table this.0.size (corners 4 this.0.vertices) ≡ true
  used_fine = let p = filled this.0.vertices (vertex_corners this.0 whole) in rw (p.here, ← whole.vertices) (owners_fine_lem (counts f) table f.bones refl (owner_of_lem f w c rest) this.0.vertices p.unused rows)

  used_same : map (owner_at (counts f) table) (take this.0.size (corners 4 this.0.vertices)) ≡ map (owner_of f.bones) this.0.vertices
  used_same = let p = filled this.0.vertices (vertex_corners this.0 whole) in rw (p.here, ← whole.vertices) (owners_same (counts f) table f.bones refl (owner_of_lem f w c rest) this.0.vertices p.unused rows)

  pub why_stands : (n : MovementCounts) (moves : List ℤ) (m : Movement) (at : ℕ) → holds_movement n moves ≡ true → is_asked (number_at moves 0) at ≡ true → pattern_rows (counts f) table n moves ≡ m.patterns → patterns_fault (number_at moves 0) m.patterns ≡ clear → Every (λ p. is_row 2 (get_or p 2 (pos 0)) ≡ true) m.patterns → why_in (counts f) table n moves face at ≡ only_if (has_no_group this || is_clear (groups_fault (length f.groups) m.patterns)) (why_of f.bones m.patterns this at)
  unfolding groups_fault why_of
  why_stands n moves m at moving asked lines sound flags =
      why_by (counts f) table n moves face at (group_number this.1) this.0
      (face_stands f w c rest face below)
      (figure_holds f w c rest)
      moving
      below
      asked
      (size-fine this.0 whole)
      (vertices-fine this.0 whole (length f.points) ∙ rows)
      used_fine
      (group_known f face below)
      ∙ ap₂ only_if
      (ap₂ ◌||◌ (no_group this) (patterns_known (counts f) table n moves m.patterns lines sound flags ∙ sym (first_bad-clear 20 (λ (p : Pattern). is_row (length f.groups) (group_of p)) 0 m.patterns)))
      (rw (used_same, group-named this.1, lines))
