-- What a table that holds what a figure's counts say has: each count within its most, and room for them; and what its sections tell of that.
use mathlib.Core.Path.{◌≡◌, refl, ap, sym, ◌∙◌}
use mathlib.Core.List.{List}
use mathlib.Core.Bool.{Bool, true, false, not}
use Prim.Native.Nat.{◌+◌, ◌*◌, ◌≤◌, ◌<◌}
use native.Mathlib.Omega.{arith}
use borrow.Author.Tests.{leb-true, le-leb, lt-leb, eqb-true, eqb-false}
use lib.Dec.{eqb}
use lib.IntN.{ℤ}
use lib.ListN.{length}
use Rattle.text_numerals.proofs.Numerals.{and_true}
use Rattle.refusal.proofs.Rules.{count_clear}
use Rattle.table_counts.specs.declared.counts.FigureCounts.{FigureCounts}
use Rattle.table_counts.specs.Counts.{figure_lists, figure_mosts}
use Rattle.table_figure.specs.declared.sections.FigureSections.{FigureSections}
use Rattle.table_figure.specs.Sections.{no_figure_sections, points_begin, bones_begin, owners_begin, uvs_begin, faces_begin, groups_begin, figure_end, figure_sections, few_in_figure, holds_figure, figure_in, WithinMosts}
use Rattle.refusal.proofs.Faults.{clear_true}

module _ (n : FigureCounts) where
  pub figure-within : few_in_figure n ≡ true → WithinMosts n
  unfolding few_in_figure figure_lists figure_mosts
  figure-within h =
      let a = count_clear 0 n.textures 16 _ _ (clear_true _ h) in
      let b = count_clear 1 n.colours 256 _ _ a.1 in
      let c = count_clear 2 n.materials 64 _ _ b.1 in
      let d = count_clear 3 n.points 2048 _ _ c.1 in
      let e = count_clear 4 n.normals 2048 _ _ d.1 in
      let f = count_clear 5 n.bones 128 _ _ e.1 in
      let g = count_clear 6 n.uvs 4096 _ _ f.1 in
      let i = count_clear 7 n.faces 1024 _ _ g.1 in
      let j = count_clear 8 n.groups 32 _ _ i.1 in
      (a.0, b.0, c.0, d.0, e.0, f.0, g.0, i.0, j.0)

  -- the counts are small, and the table has room for them
  module _ (table : List ℤ) (h : holds_figure n table ≡ true) where
    pub figure_small : WithinMosts n
    unfolding holds_figure
    figure_small = figure-within (and_true (few_in_figure n) _ h).0

    pub figure-room : 2 + n.textures * 2 + n.colours * 3 + n.materials * 9 + n.points * 3 + n.normals * 3 + n.bones * 14 + n.points + n.uvs * 2 + n.faces * 11 + n.groups * 2 ≤ length table
    unfolding holds_figure figure_end groups_begin points_begin owners_begin bones_begin uvs_begin faces_begin
    figure-room = leb-true _ _ (and_true (few_in_figure n) _ h).1

  figure_some : figure_end n ≡ 0 → ⊥
  unfolding figure_end groups_begin faces_begin uvs_begin owners_begin bones_begin points_begin
  figure_some e = omega arith

  module _ (table : List ℤ) where
    pub figure-many : few_in_figure n ≡ false → no_figure_sections ≡ figure_in n table
    unfolding figure_in holds_figure
    figure-many h = rw (h, figure_in)

    pub figure-short : few_in_figure n ≡ true → length table < figure_end n → no_figure_sections ≡ figure_in n table
    unfolding figure_in holds_figure
    figure-short h l = rw (h, lt-leb _ _ l, figure_in)

    pub figure_there : few_in_figure n ≡ true → figure_end n ≤ length table → figure_sections n ≡ figure_in n table
    unfolding figure_in holds_figure
    figure_there h l = rw (h, le-leb _ _ l, figure_in)

    figure_yes : holds_figure n table ≡ true → figure_in n table ≡ figure_sections n
    unfolding figure_in
    figure_yes h = rw (h, figure_in)

    figure_no : holds_figure n table ≡ false → figure_in n table ≡ no_figure_sections
    unfolding figure_in
    figure_no h = rw (h, figure_in)

    module _ (s : FigureSections) (e : s ≡ figure_in n table) where
      pub figure_none : s.end ≡ 0 → holds_figure n table ≡ false
      figure_none z = go (holds_figure n table) refl
        where
          go : (b : Bool) → holds_figure n table ≡ b → holds_figure n table ≡ false
          go true h = absurd (figure_some (sym (ap (λ (x : FigureSections). x.end) (e ∙ figure_yes h) ∙ unfold figure_sections in refl) ∙ z))
          go false h = h

      pub figure-held : (s.end ≡ 0 → ⊥) → holds_figure n table ≡ true
      figure-held z = go (holds_figure n table) refl
        where
          go : (b : Bool) → holds_figure n table ≡ b → holds_figure n table ≡ true
          go true h = h
          go false h = absurd (z (ap (λ (x : FigureSections). x.end) (e ∙ figure_no h) ∙ unfold no_figure_sections in refl))

      pub figure-found : (s.end ≡ 0 → ⊥) → s ≡ figure_sections n
      figure-found z = e ∙ figure_yes (figure-held z)

      pub figure-ended : not (eqb s.end 0) ≡ holds_figure n table
      figure-ended = go (eqb s.end 0) refl
        where
          go : (b : Bool) → eqb s.end 0 ≡ b → not (eqb s.end 0) ≡ holds_figure n table
          go true z = rw (z, figure_none (eqb-true _ _ z))
          go false z = rw (z, figure-held (eqb-false _ _ z))
