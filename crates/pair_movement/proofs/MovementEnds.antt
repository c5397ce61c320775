-- What loading a movement answers at each end of the code: the figure's names broken, the movement refused, its table too short, a rule of pairs broken, or all taken.
use mathlib.Core.Path.{◌≡◌, refl, ap, sym, ◌∙◌}
use mathlib.Core.List.{List}
use mathlib.Core.Bool.{Bool, true, false, ◌&&◌, false≢true}
use mathlib.Core.Option.{none, some}
use Prim.Native.Nat.{ℕ, ◌<◌}
use lib.IntN.{ℤ}
use lib.ListN.{length}
use Rattle.refusal.specs.Faults.{clear, fault}
use Rattle.text_numerals.proofs.Numerals.{and_true}
use Rattle.text_check.specs.Internal.Strings.{StringAt}
use Rattle.parse_spec.specs.Fields.{is_some}
use Rattle.refusal.specs.Outcomes.{rejected, accepted}
use Rattle.tra4_text.specs.Movement.{Movement}
use Rattle.tra4_text.specs.Answer.{movement_answer, movement_table}
use Rattle.tra4.specs.Answers.{answer_of}
use Rattle.table_counts.specs.declared.counts.FigureCounts.{FigureCounts}
use Rattle.table_figure.specs.Sections.{holds_figure}
use Rattle.player_spec.specs.Lookups.{only_if}
use Rattle.player_names.specs.Names.{figure_name}
use Rattle.movement_bridge.proofs.Tables.{counts_read, whole-read, table-read, patterns_stand}
use Rattle.movement_bridge.proofs.Names.{bone_name}
use Rattle.pair_text.specs.Rules.{pair_fault}
use Rattle.pair_text.specs.Answer.{Loaded, refused, loaded, if_paired, with_movement, movement_left}
use Rattle.player_label.specs.BoneNames.{names_from, all_named, names_in}
use Rattle.pair_bridge.proofs.Names.{names-length, movement_names_in}
use Rattle.pair_movement.specs.Moved.{with_names, moved_answer, moved_reply}
use Rattle.pair_rules.specs.Internal.Tables.{rows_fault}
use Rattle.tra4_text.specs.Rules.{movement_counts}

-- ---- the figure's names

module _ (figure : List ℕ) (n : FigureCounts) (table : List ℤ) where
  abbrev pub names : List (List ℕ)
  names = names_from (figure_name figure n table) 0 n.bones

  pub names_none : is_some (names_in figure n table) ≡ false → names_in figure n table ≡ none
  unfolding names_in only_if is_some
  names_none e = go (holds_figure n table && all_named (figure_name figure n table) 0 n.bones) refl
    where
      go : (b : Bool) → (holds_figure n table && all_named (figure_name figure n table) 0 n.bones) ≡ b → names_in figure n table ≡ none
      go true p = absurd (false≢true (sym e ∙ rw p))
      go false p = rw p

  pub names_some : is_some (names_in figure n table) ≡ true → (names_in figure n table ≡ some names) × (holds_figure n table ≡ true)
  unfolding names_in only_if is_some
  names_some e = go (holds_figure n table && all_named (figure_name figure n table) 0 n.bones) refl
    where
      go : (b : Bool) → (holds_figure n table && all_named (figure_name figure n table) 0 n.bones) ≡ b → (names_in figure n table ≡ some names) × (holds_figure n table ≡ true)
      go true p = (rw p, (and_true _ _ p).0)
      go false p = absurd (false≢true (sym (rw p) ∙ e))

  module _ (movement : List ℕ) (space : ℕ) where
    abbrev moved : Loaded Movement
    moved = moved_answer figure n table movement space

    pub moved_unnamed : is_some (names_in figure n table) ≡ false → moved ≡ refused 21 0 0
    unfolding moved_answer with_names
    moved_unnamed e = rw (names_none e)

    module _ (named : is_some (names_in figure n table) ≡ true) where
      by_names : moved ≡ with_movement names n.groups (movement_answer movement space)
      unfolding moved_answer with_names
      by_names = rw (names_some named).0

      pub moved-rejected : (k p : ℕ) → movement_answer movement space ≡ rejected k p → moved ≡ refused k p 1
      unfolding with_movement
      moved-rejected k p e = by_names ∙ rw e

      pub moved-fault : (m : Movement) (k p : ℕ) → movement_answer movement space ≡ accepted m → pair_fault names n.groups m ≡ fault k p → moved ≡ refused k p 2
      unfolding with_movement if_paired
      moved-fault m k p e f = by_names ∙ rw (e, with_movement, f)

      pub moved-loaded : (m : Movement) → movement_answer movement space ≡ accepted m → pair_fault names n.groups m ≡ clear → moved ≡ loaded m
      unfolding with_movement if_paired
      moved-loaded m e f = by_names ∙ rw (e, with_movement, f)

-- ---- a movement that was taken: the rules over the two tables are those of the texts

module _ (text : List ℕ) (table : List ℤ) (m : Movement) (taken : movement_answer text (length table) ≡ accepted m) (stands : (i : ℕ) → i < length m.bones → StringAt text (bone_name m.bones i).at (bone_name m.bones i).bytes) (figure : List ℕ) (n : FigureCounts) (rows : List ℤ) where
  pub tables_are : rows_fault figure n rows text (counts_read m) (movement_table text table) ≡ pair_fault (names figure n rows) n.groups m
  unfolding rows_fault pair_fault movement_counts
  tables_are =
      rw (names-length (figure_name figure n rows) 0 n.bones, movement_names_in text m (whole-read text table m taken) (movement_table text table) _ (table-read text table m taken) stands, patterns_stand text table m taken)

-- ---- a refusal, for the answer and the lent table

pub refused_both : (l : Loaded Movement) (k p file : ℕ) → l ≡ refused k p file → (moves : List ℤ) → (moved_reply (refused k p file) ≡ moved_reply l) × (moves ≡ movement_left moves l)
unfolding movement_left
refused_both l k p file e moves = (ap moved_reply (sym e), rw e)
