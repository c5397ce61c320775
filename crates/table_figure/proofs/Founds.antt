-- What the sections that were found say: where the owners and the faces begin.
use mathlib.Core.Path.{◌≡◌, ap}
use mathlib.Core.List.{List}
use Prim.Native.Nat.{ℕ, ◌+◌, ◌*◌, ◌≤◌}
use lib.IntN.{ℤ}
use lib.ListN.{length}
use Rattle.table_counts.specs.declared.counts.FigureCounts.{FigureCounts}
use Rattle.table_figure.specs.declared.sections.FigureSections.{FigureSections}
use Rattle.table_figure.specs.Sections.{owners_begin, faces_begin, figure_sections, figure_in}
use Rattle.table_figure.specs.Internal.Found.{Found}
use Rattle.table_figure.proofs.Mosts.{figure-held, figure-found}
use Rattle.table_figure.proofs.Indices.{owners_place}

module _ (n : FigureCounts) (table : List ℤ) (s : FigureSections) where
  -- sections that end are those of the counts
  pub found : s ≡ figure_in n table → (s.end ≡ 0 → ⊥) → Found n table s
  found e z = record { held = figure-held n table s e z; sections = figure-found n table s e z }

  module _ (f : Found n table s) where
    pub owners_are : s.owners ≡ owners_begin n
    unfolding figure_sections
    owners_are = ap (λ (x : FigureSections). x.owners) f.sections

    pub owners_room : (s.owners ≤ length table) × (s.owners ≤ 40000)
    owners_room = rw owners_are (owners_place n table f.held)

    pub faces_are : (face : ℕ) → s.faces + face * 11 ≡ faces_begin n + face * 11
    unfolding figure_sections
    faces_are face = ap (λ (x : FigureSections). x.faces + face * 11) f.sections
