-- What loading a pair answers at each end of the code: the figure refused or its table too short, the movement refused, or both taken; the second half is the movement's with the figure's own table.
use mathlib.Core.Path.{◌≡◌, refl, ap, sym}
use mathlib.Core.List.{List}
use mathlib.Core.Option.{some}
use Prim.Native.Nat.{ℕ, ◌<◌}
use native.Mathlib.Omega.{arith}
use lib.IntN.{ℤ}
use lib.ListN.{length, drop}
use Rattle.text_check.specs.Internal.Strings.{StringAt}
use Rattle.refusal.specs.Outcomes.{rejected, accepted}
use Rattle.bac6_text.specs.Figure.{Figure}
use Rattle.bac6_text.specs.Layout as figures
use Rattle.bac6_text.specs.Answer.{figure_answer, table_after}
use Rattle.bac6.specs.Answers as bac6
use Rattle.tra4_text.specs.Movement.{Movement}
use Rattle.tra4_text.specs.Layout as movements
use Rattle.tra4_text.specs.Answer.{movement_answer}
use Rattle.tra4.specs.Answers as tra4
use Rattle.tra4.specs.declared.setting.MovementAnswer.{MovementAnswer}
use Rattle.figure_bridge.proofs.Names.{bone_name}
use Rattle.figure_bridge.proofs.Texts.{counts_are, figure-taken, whole-figure, figure-table}
use Rattle.pair_text.specs.Rules.{figure_names}
use Rattle.bac6.specs.declared.setting.FigureAnswer.{FigureAnswer}
use Rattle.table_counts.specs.declared.counts.FigureCounts.{FigureCounts}
use Rattle.movement_bridge.specs.Counts as moving
use Rattle.pair_text.specs.Answer.{Loaded, refused, loaded, with_movement, with_figure, paired, pair_answer, movement_of, figure_left, movement_left}
use Rattle.pair_load.specs.declared.pair.PairAnswer.{PairAnswer}
use Rattle.player_label.specs.BoneNames.{names_in}
use Rattle.pair_bridge.proofs.Names.{figure_names_in}
use Rattle.pair_load.specs.Answers.{pair_reply}
use Rattle.pair_movement.specs.Moved.{with_names, moved_answer, moved_reply}
use Rattle.bac6_text.specs.Rules.{figure_counts}
use Rattle.tra4_text.specs.Rules.{movement_counts}

module _ (figure : List ℕ) (room : ℕ) (movement : List ℕ) (space : ℕ) where
  pub figure-refused : (n p : ℕ) → figure_answer figure room ≡ rejected n p → pair_answer figure room movement space ≡ refused n p 0
  unfolding pair_answer paired
  figure-refused n p e = rw e

  -- the figure as it was read into a table of the most numbers
  module _ (table : List ℤ) (f : Figure) (taken : figure_answer figure (length table) ≡ accepted f) (stands : (i : ℕ) → i < length f.bones → StringAt figure (bone_name f.bones i).at (bone_name f.bones i).bytes) where
    abbrev moved : Loaded Movement
    moved = moved_answer figure (figure_counts f) (table_after figure table) movement space

    names_are : names_in figure (figure_counts f) (table_after figure table) ≡ some (figure_names f)
    names_are = rw (counts_are f, figure-table figure table f taken) (figure_names_in figure f (whole-figure figure table f taken) (figure-taken figure table f taken).shape.clean (drop (length (figures.layout_of f)) table) stands)

    moved-is : moved ≡ with_movement (figure_names f) (length f.groups) (movement_answer movement space)
    unfolding moved_answer with_names figure_counts
    moved-is = rw names_are

    pub pair_is : figure_answer figure room ≡ accepted f → pair_answer figure room movement space ≡ with_figure f moved
    unfolding pair_answer paired
    pair_is e = rw (e, moved-is)

-- ---- the movement's half of a pair

pub half_is : (f : Figure) (l : Loaded Movement) → movement_of (with_figure f l) ≡ l
unfolding movement_of with_figure
half_is f (refused n p file) = refl
half_is f (loaded m) = refl

-- what is loaded has a total, so that a total of 0 is a refusal's
some_total : (m : Movement) → 0 < length (movements.layout_of m)
unfolding movements.layout_of movements.name_numbers
some_total m = omega arith

pub moved-refused : (l : Loaded Movement) (a : MovementAnswer) → a ≡ moved_reply l → a.total ≡ 0 → l ≡ refused a.refusal a.place a.file
unfolding moved_reply tra4.answer_of
moved-refused (refused n p file) a e z = rw e
moved-refused (loaded m) a e z = let t : a.total ≡ length (movements.layout_of m) = ap (λ (x : MovementAnswer). x.total) e in absurd (omega (arith, some_total m))

pub record Moved (l : Loaded Movement) (a : MovementAnswer) : Type 0 where
  pub movement : Movement
  pub is : l ≡ loaded movement
  pub answer : a ≡ tra4.answer_of (accepted movement)

pub moved-taken : (l : Loaded Movement) (a : MovementAnswer) → a ≡ moved_reply l → (a.total ≡ 0 → ⊥) → Moved l a
unfolding moved_reply
moved-taken (refused n p file) a e z = absurd (z (ap (λ (x : MovementAnswer). x.total) e))
moved-taken (loaded m) a e z = record { movement = m; is = refl; answer = e }

-- ---- a refusal, for the answer and the figure's table; and what is loaded

pub refused-pair : (l : Loaded (Figure × Movement)) (k p file : ℕ) → l ≡ refused k p file → (table : List ℤ) → (pair_reply (refused k p file) ≡ pair_reply l) × (table ≡ figure_left table l)
unfolding figure_left
refused-pair l k p file e table = (ap pair_reply (sym e), rw e)

pub refused_half : (l : Loaded (Figure × Movement)) (k p file : ℕ) → l ≡ refused k p file → (moves : List ℤ) → moves ≡ movement_left moves (movement_of l)
unfolding movement_of movement_left
refused_half l k p file e moves = rw e

pub figure-kept : (f : Figure) (l : Loaded Movement) (k p file : ℕ) → l ≡ refused k p file → with_figure f l ≡ refused k p file
unfolding with_figure
figure-kept f l k p file e = rw e

pub reply-is : (a : FigureAnswer) (b : MovementAnswer) (f : Figure) (m : Movement) → a ≡ bac6.answer_of (accepted f) → b ≡ tra4.answer_of (accepted m) → ◌≡◌ {A = PairAnswer} (record { refusal = 0; place = 0; file = 0; figure_total = a.total; figure = a.counts; movement_total = b.total; movement = b.counts }) (pair_reply (loaded (f, m)))
unfolding pair_reply bac6.answer_of tra4.answer_of
reply-is a b f m e g = rw (e, g)
