-- What loading a pair answers, in document 01's order: the figure's 1 to 17, the movement's, then 18, 19, 20; and what it leaves in the two tables.
use Rattle.std.specs.Prelude.{List, ◌++◌, ℕ, length, drop, ℤ}
use Rattle.refusal.specs.Faults.{Fault, clear, fault}
use Rattle.refusal.specs.Outcomes.{Outcome, rejected, accepted}
use Rattle.bac6_text.specs.Figure.{Figure}
use Rattle.bac6_text.specs.Layout as bac6
use Rattle.bac6_text.specs.Answer.{figure_answer}
use Rattle.tra4_text.specs.Movement.{Movement}
use Rattle.tra4_text.specs.Layout as tra4
use Rattle.tra4_text.specs.Answer.{movement_answer}
use Rattle.pair_text.specs.Rules.{figure_names, pair_fault}

-- a refusal's number, place and file (0 figure, 1 movement, 2 both), or what was loaded
pub data Loaded (A : Type 0) : Type 0 where
  refused : ℕ → ℕ → ℕ → Loaded A
  loaded : A → Loaded A

unfoldable pub if_paired : Movement → Fault → Loaded Movement
if_paired m clear = loaded m
if_paired m (fault n p) = refused n p 2

-- a movement, for a figure whose bones have these names and which has so many groups
unfoldable pub with_movement : List (List ℕ) → ℕ → Outcome Movement → Loaded Movement
with_movement names groups (rejected n p) = refused n p 1
with_movement names groups (accepted m) = if_paired m (pair_fault names groups m)

unfoldable pub with_figure : Figure → Loaded Movement → Loaded (Figure × Movement)
with_figure f (refused n p file) = refused n p file
with_figure f (loaded m) = loaded (f, m)

unfoldable pub paired : Outcome Figure → Outcome Movement → Loaded (Figure × Movement)
paired (rejected n p) o = refused n p 0
paired (accepted f) o = with_figure f (with_movement (figure_names f) (length f.groups) o)

-- for a figure's table of `room` numbers and a movement's of `space`
unfoldable pub pair_answer : List ℕ → ℕ → List ℕ → ℕ → Loaded (Figure × Movement)
pair_answer figure room movement space = paired (figure_answer figure room) (movement_answer movement space)

-- each table at exit: the layout and what stood beyond it, or the table at entry
unfoldable pub figure_left : List ℤ → Loaded (Figure × Movement) → List ℤ
figure_left table (refused n p file) = table
figure_left table (loaded (f, m)) = bac6.layout_of f ++ drop (length (bac6.layout_of f)) table

unfoldable pub movement_left : List ℤ → Loaded Movement → List ℤ
movement_left moves (refused n p file) = moves
movement_left moves (loaded m) = tra4.layout_of m ++ drop (length (tra4.layout_of m)) moves

-- of a pair the movement
unfoldable pub movement_of : Loaded (Figure × Movement) → Loaded Movement
movement_of (refused n p file) = refused n p file
movement_of (loaded (f, m)) = loaded m

-- by two texts and what the two lent tables held: what loading them answers, and each table at exit
module _ (F : List ℕ) (table : List ℤ) (M : List ℕ) (moves : List ℤ) where
  abbrev pub loading : Loaded (Figure × Movement)
  loading = pair_answer F (length table) M (length moves)

  abbrev pub table_left : List ℤ
  table_left = figure_left table loading

  abbrev pub moves_left : List ℤ
  moves_left = movement_left moves (movement_of loading)
