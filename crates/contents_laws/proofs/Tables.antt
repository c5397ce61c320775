-- Why a face is shown or hidden, by what it reads: of the figure's table the face's row and the owners of points, of the movement's the total and the pattern lines; so on tables that agree in these it is the same.
use mathlib.Core.Path.{◌≡◌, refl, ap₂}
use mathlib.Core.List.{List, [], ◌∷◌, map}
use mathlib.Core.Bool.{Bool, true, false, and-false, ◌&&◌}
use Prim.Native.Nat.{ℕ, zero, suc, ◌<◌}
use borrow.Author.Tests.{ltb-true}
use lib.Dec.{ltb}
use lib.IntN.{ℤ, nat_abs}
use lib.ListN.{take}
use Rattle.text_numerals.proofs.Numerals.{and_true}
use Rattle.table_counts.specs.declared.counts.FigureCounts.{FigureCounts}
use Rattle.table_counts.specs.declared.counts.MovementCounts.{MovementCounts}
use Rattle.table_references.specs.References.{is_row}
use Rattle.table_references.specs.Index.{is_index}
use Rattle.table_columns.specs.Columns.{face_size, face_vertices}
use Rattle.table_columns.specs.Parts.{number_at}
use Rattle.table_figure.specs.Sections.{holds_figure}
use Rattle.table_movement.specs.Sections.{holds_movement}
use Rattle.player_spec.specs.Lookups.{only_if, corners_fine, face_at, owner_at, owners_fine, corner_owners, pattern_rows, patterns_fine, can_show, why_in}

-- ---- the figure's table

module _ (n : FigureCounts) (t u : List ℤ) (owners : (v : ℤ) → is_row n.points v ≡ true → owner_at n u v ≡ owner_at n t v) where
  used_fine : (used : ℕ) (vs : List ℤ) → corners_fine n.points used vs ≡ true → owners_fine n u used vs ≡ owners_fine n t used vs
  unfolding corners_fine owners_fine
  used_fine zero vs h = refl
  used_fine (suc used) [] h = refl
  used_fine (suc used) (v ∷ vs) h =
      let p = and_true (is_row n.points v) (corners_fine n.points used vs) h in
      ap₂ (λ (o : ℤ) (x : Bool). is_index n.bones o && x) (owners v p.0) (used_fine used vs p.1)

  used_owners : (used : ℕ) (vs : List ℤ) → corners_fine n.points used vs ≡ true → map (owner_at n u) (take used vs) ≡ map (owner_at n t) (take used vs)
  unfolding corners_fine
  used_owners zero [] h = refl
  used_owners zero (v ∷ vs) h = refl
  used_owners (suc used) [] h = refl
  used_owners (suc used) (v ∷ vs) h =
      let p = and_true (is_row n.points v) (corners_fine n.points used vs) h in
      ap₂ ◌∷◌ (owners v p.0) (used_owners used vs p.1)

  module _ (m : MovementCounts) (moves : List ℤ) (face at : ℕ) (held : holds_figure n u ≡ holds_figure n t) where
    no_face_lem : ltb face n.faces ≡ false → why_in n u m moves face at ≡ why_in n t m moves face at
    unfolding why_in can_show only_if
    no_face_lem e = rw (e, and-false (holds_figure n u && holds_movement m moves), and-false (holds_figure n t && holds_movement m moves))

    module _ (row : face_at n u face ≡ face_at n t face) where
      abbrev used : ℕ
      used = nat_abs (face_size (face_at n t face))

      abbrev vertices : List ℤ
      vertices = face_vertices (face_at n t face)

      by_row : (v : Bool) → corners_fine n.points used vertices ≡ v → why_in n u m moves face at ≡ why_in n t m moves face at
      unfolding why_in can_show patterns_fine pattern_rows corner_owners only_if
      by_row true e = rw (row, held, used_fine used vertices e, used_owners used vertices e)
      by_row false e = rw (row, held, e, and-false)

    pub why-figure : (face < n.faces → face_at n u face ≡ face_at n t face) → why_in n u m moves face at ≡ why_in n t m moves face at
    why-figure row = go (ltb face n.faces) refl
      where
        go : (v : Bool) → ltb face n.faces ≡ v → why_in n u m moves face at ≡ why_in n t m moves face at
        go true e = by_row (row (ltb-true _ _ e)) _ refl
        go false e = no_face_lem e

-- ---- the movement's table

pub why-movement : (n : FigureCounts) (t : List ℤ) (m : MovementCounts) (moves nexts : List ℤ) (face at : ℕ) → holds_movement m nexts ≡ holds_movement m moves → number_at nexts 0 ≡ number_at moves 0 → pattern_rows n t m nexts ≡ pattern_rows n t m moves → why_in n t m nexts face at ≡ why_in n t m moves face at
unfolding why_in can_show patterns_fine
why-movement n t m moves nexts face at held total rows = rw (held, total, rows)
