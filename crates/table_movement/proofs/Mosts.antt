-- What a table that holds what a movement's counts say has: each count within its most, and room for them; and what its sections tell of that.
use mathlib.Core.Path.{◌≡◌, refl, ap, sym, ◌∙◌}
use mathlib.Core.List.{List}
use mathlib.Core.Bool.{Bool, true, false, not}
use Prim.Native.Nat.{◌+◌, ◌*◌, ◌≤◌, ◌<◌}
use native.Mathlib.Omega.{arith}
use borrow.Author.Tests.{leb-true, le-leb, lt-leb, eqb-true, eqb-false}
use lib.Dec.{eqb}
use lib.IntN.{ℤ}
use lib.ListN.{length}
use Rattle.text_numerals.proofs.Numerals.{and_true}
use Rattle.refusal.proofs.Rules.{count_clear}
use Rattle.table_counts.specs.declared.counts.MovementCounts.{MovementCounts}
use Rattle.table_counts.specs.Counts.{movement_lists, movement_mosts}
use Rattle.table_movement.specs.declared.sections.MovementSections.{MovementSections}
use Rattle.table_movement.specs.Sections.{no_movement_sections, keys_begin, patterns_begin, movement_end, movement_sections, few_in_movement, holds_movement, movement_in}
use Rattle.refusal.proofs.Faults.{clear_true}

module _ (n : MovementCounts) where
  pub movement-within : few_in_movement n ≡ true → (n.bones ≤ 128) × (n.keys ≤ 4096) × (n.patterns ≤ 256)
  unfolding few_in_movement movement_lists movement_mosts
  movement-within h =
      let b = count_clear 0 n.bones 128 _ _ (clear_true _ h) in
      let k = count_clear 1 n.keys 4096 _ _ b.1 in
      let p = count_clear 2 n.patterns 256 _ _ k.1 in
      (b.0, k.0, p.0)

  pub movement-room : (table : List ℤ) → holds_movement n table ≡ true → (n.bones ≤ 128) × (n.keys ≤ 4096) × (n.patterns ≤ 256) × (3 + n.bones * 22 + n.keys * 2 + n.patterns * 3 ≤ length table)
  unfolding holds_movement movement_end patterns_begin keys_begin
  movement-room table h =
      let b = and_true (few_in_movement n) _ h in
      let w = movement-within b.0 in
      (w.0, w.1, w.2, leb-true _ _ b.1)

  movement_some : movement_end n ≡ 0 → ⊥
  unfolding movement_end patterns_begin keys_begin
  movement_some e = omega arith

  module _ (table : List ℤ) where
    pub movement-many : few_in_movement n ≡ false → no_movement_sections ≡ movement_in n table
    unfolding movement_in holds_movement
    movement-many h = rw (h, movement_in)

    pub movement-short : few_in_movement n ≡ true → length table < movement_end n → no_movement_sections ≡ movement_in n table
    unfolding movement_in holds_movement
    movement-short h l = rw (h, lt-leb _ _ l, movement_in)

    pub movement_there : few_in_movement n ≡ true → movement_end n ≤ length table → movement_sections n ≡ movement_in n table
    unfolding movement_in holds_movement
    movement_there h l = rw (h, le-leb _ _ l, movement_in)

    -- sections that end at 0 are none
    movement_yes : holds_movement n table ≡ true → movement_in n table ≡ movement_sections n
    unfolding movement_in
    movement_yes h = rw (h, movement_in)

    movement_no : holds_movement n table ≡ false → movement_in n table ≡ no_movement_sections
    unfolding movement_in
    movement_no h = rw (h, movement_in)

    module _ (s : MovementSections) (e : s ≡ movement_in n table) where
      pub movement_none : s.end ≡ 0 → holds_movement n table ≡ false
      movement_none z = go (holds_movement n table) refl
        where
          go : (b : Bool) → holds_movement n table ≡ b → holds_movement n table ≡ false
          go true h = absurd (movement_some (sym (ap (λ (x : MovementSections). x.end) (e ∙ movement_yes h) ∙ unfold movement_sections in refl) ∙ z))
          go false h = h

      pub movement-held : (s.end ≡ 0 → ⊥) → holds_movement n table ≡ true
      movement-held z = go (holds_movement n table) refl
        where
          go : (b : Bool) → holds_movement n table ≡ b → holds_movement n table ≡ true
          go true h = h
          go false h = absurd (z (ap (λ (x : MovementSections). x.end) (e ∙ movement_no h) ∙ unfold no_movement_sections in refl))

      pub movement-found : (s.end ≡ 0 → ⊥) → s ≡ movement_sections n
      movement-found z = e ∙ movement_yes (movement-held z)

      pub movement-ended : not (eqb s.end 0) ≡ holds_movement n table
      movement-ended = go (eqb s.end 0) refl
        where
          go : (b : Bool) → eqb s.end 0 ≡ b → not (eqb s.end 0) ≡ holds_movement n table
          go true z = rw (z, movement_none (eqb-true _ _ z))
          go false z = rw (z, movement-held (eqb-false _ _ z))
