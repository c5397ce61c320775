-- What the code reads of a bone's name, in tables that hold their counts, is the definition's name.
use mathlib.Core.Path.{◌≡◌, refl, ◌∙◌}
use mathlib.Core.List.{List, [], ◌∷◌}
use mathlib.Core.Bool.{Bool, true, false}
use mathlib.Core.Option.{Option, none, some}
use Prim.Native.Nat.{ℕ, ◌<◌}
use native.Mathlib.Omega.{arith}
use borrow.Author.Tests.{lt-ltb}
use lib.IntN.{ℤ}
use lib.ListN.{length}
use Rattle.text_runs.specs.Runs.{same}
use Rattle.parse_spec.specs.Fields.{is_some}
use Rattle.table_counts.specs.declared.counts.FigureCounts.{FigureCounts}
use Rattle.table_counts.specs.declared.counts.MovementCounts.{MovementCounts}
use Rattle.table_figure.specs.Sections.{holds_figure}
use Rattle.table_movement.specs.Sections.{holds_movement}
use Rattle.player_spec.specs.Lookups.{only_if}
use Rattle.player_names.specs.Names.{part_at, figure_span, figure_name, movement_name, if_true, figure_named, movement_named}
use Rattle.pair_text.specs.Rules.{names_agree}
use Rattle.player_label.specs.BoneNames.{all_named, names_in}

part_some : (text : List ℕ) (s : Option (ℕ × ℕ)) → is_some s ≡ is_some (part_at text s)
unfolding is_some part_at
part_some text none = refl
part_some text (some s) = refl

pub if_some : {A : Type 0} (b : Bool) (a : A) → is_some (only_if b a) ≡ b
unfolding is_some only_if
if_some true a = refl
if_some false a = refl

module _ (text : List ℕ) (n : FigureCounts) (table : List ℤ) where
  pub unheld_names : holds_figure n table ≡ false → is_some (names_in text n table) ≡ false
  unfolding names_in
  unheld_names h = if_some _ _ ∙ rw h

  module _ (held : holds_figure n table ≡ true) where
    pub held-names : is_some (names_in text n table) ≡ all_named (figure_name text n table) 0 n.bones
    unfolding names_in
    held-names = if_some _ _ ∙ rw held

    pub figure_span_lem : (row : ℕ) → row < n.bones → figure_named (length text) n table row ≡ figure_span (length text) n table row
    unfolding figure_named if_true
    figure_span_lem row h = rw (held, lt-ltb row n.bones h)

    pub figure_some : (row : ℕ) → row < n.bones → is_some (figure_named (length text) n table row) ≡ is_some (figure_name text n table row)
    unfolding figure_name
    figure_some row h = rw (figure_span_lem row h) (part_some text (figure_span (length text) n table row))

    pub figure-part : (row : ℕ) → row < n.bones → part_at text (figure_named (length text) n table row) ≡ figure_name text n table row
    unfolding figure_name
    figure-part row h = rw (figure_span_lem row h)

pub movement-part : (text : List ℕ) (m : MovementCounts) (table : List ℤ) → holds_movement m table ≡ true → (row : ℕ) → row < m.bones → part_at text (movement_named (length text) m table row) ≡ movement_name text table row
unfolding movement_name movement_named if_true
movement-part text m table held row h = rw (held, lt-ltb row m.bones h)

-- ---- two names

pub first_empty : (a b : List ℕ) → length a ≡ 0 → true ≡ names_agree a b
unfolding names_agree
first_empty [] b e = refl
first_empty (x ∷ a) b e = absurd (omega arith)

pub second_empty : (a b : List ℕ) → length b ≡ 0 → true ≡ names_agree a b
unfolding names_agree
second_empty [] b e = refl
second_empty (x ∷ a) [] e = refl
second_empty (x ∷ a) (y ∷ b) e = absurd (omega arith)

pub both_some : (a b : List ℕ) → (length a ≡ 0 → ⊥) → (length b ≡ 0 → ⊥) → same a b ≡ names_agree a b
unfolding names_agree
both_some [] b h k = absurd (h refl)
both_some (x ∷ a) [] h k = absurd (k refl)
both_some (x ∷ a) (y ∷ b) h k = refl
