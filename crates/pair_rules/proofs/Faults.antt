-- The rules 18 to 20 in order, by what each test found; the pattern lines stand in their part of the movement's table.
use mathlib.Core.Path.{◌≡◌, ap, sym, ◌∙◌}
use mathlib.Core.List.{List}
use mathlib.Core.Bool.{true, false}
use Prim.Native.Nat.{ℕ, ◌+◌, ◌*◌}
use native.Mathlib.Omega.{arith}
use borrow.Author.Tests.{eq-eqb, ne_eqb}
use lib.IntN.{ℤ}
use lib.ListN.{take, drop}
use Rattle.refusal.specs.Faults.{Fault, clear, fault}
use Rattle.refusal.proofs.Rules.{or-clear, or-fault}
use Rattle.table_counts.specs.declared.counts.FigureCounts.{FigureCounts}
use Rattle.table_counts.specs.declared.counts.MovementCounts.{MovementCounts}
use Rattle.table_movement.specs.Sections.{keys_begin, patterns_begin, holds_movement}
use Rattle.table_figure.specs.Sections.{holds_figure}
use Rattle.table_columns.specs.Parts.{rows_at}
use Rattle.table_columns.proofs.Parts.{part-rows}
use Rattle.player_names.specs.Names.{figure_name, movement_name}
use Rattle.pair_text.specs.Rules.{bones_fault, names_fault, groups_fault}
use Rattle.player_label.specs.BoneNames.{names_from}
use Rattle.pair_rules.specs.Internal.Tables.{rows_fault, tables_fault}

module _ (figure : List ℕ) (n : FigureCounts) (table : List ℤ) (movement : List ℕ) (m : MovementCounts) (moves : List ℤ) where
  abbrev faults : Fault
  faults = rows_fault figure n table movement m moves

  abbrev named : Fault
  named = names_fault 0 (names_from (figure_name figure n table) 0 n.bones) (names_from (movement_name movement moves) 0 m.bones)

  pub bones_differ : (n.bones ≡ m.bones → ⊥) → fault 18 m.bones ≡ faults
  unfolding rows_fault bones_fault
  bones_differ h = sym (or-fault _ (rw (ne_eqb _ _ h)))

  module _ (same : n.bones ≡ m.bones) where
    bones-same : bones_fault n.bones m.bones ≡ clear
    unfolding bones_fault
    bones-same = rw (eq-eqb _ _ same)

    pub names-found : (k p : ℕ) → named ≡ fault k p → fault k p ≡ faults
    unfolding rows_fault
    names-found k p e = sym (or-clear _ bones-same ∙ or-fault _ e)

    -- the lines in their part of the table
    pub groups-found : (size : ℕ) → size ≡ m.patterns * 3 → named ≡ clear → groups_fault n.groups (rows_at 3 (take size (drop (3 + m.bones * 22 + m.keys * 2) moves)) 0 m.patterns) ≡ faults
    unfolding rows_fault patterns_begin keys_begin
    groups-found size s e =
        let z : 3 + m.bones * 22 + m.keys * 2 + 0 ≡ 3 + m.bones * 22 + m.keys * 2 = omega arith in
        ap (groups_fault n.groups) (part-rows 3 (3 + m.bones * 22 + m.keys * 2) 0 size m.patterns moves (omega arith) ∙ ap (λ (i : ℕ). rows_at 3 moves i m.patterns) z)
        ∙ sym (or-clear _ bones-same ∙ or-clear _ e)

  -- ---- whether the tables hold what their counts say

  pub unheld_figure : holds_figure n table ≡ false → fault 21 0 ≡ tables_fault figure n table movement m moves
  unfolding tables_fault
  unheld_figure h = rw (h, tables_fault)

  pub unheld_movement : holds_figure n table ≡ true → holds_movement m moves ≡ false → fault 21 0 ≡ tables_fault figure n table movement m moves
  unfolding tables_fault
  unheld_movement h k = rw (h, k, tables_fault)

  pub held_tables : holds_figure n table ≡ true → holds_movement m moves ≡ true → tables_fault figure n table movement m moves ≡ faults
  unfolding tables_fault
  held_tables h k = rw (h, k, tables_fault)
