-- What loading a movement with a figure that already stands in a table answers.
use Rattle.std.specs.Prelude.{List, ℕ, ℤ, length}
use Rattle.std.proofs.Math.Option.{Option, none, some}
use Rattle.refusal.specs.Outcomes.{Outcome, accepted}
use Rattle.tra4_text.specs.Movement.{Movement}
use Rattle.tra4_text.specs.Answer.{movement_answer}
use Rattle.tra4.specs.Answers as tra4
use Rattle.tra4.specs.declared.setting.MovementAnswer.{MovementAnswer}
use Rattle.table_counts.specs.declared.counts.FigureCounts.{FigureCounts}
use Rattle.pair_text.specs.Answer.{Loaded, refused, loaded, with_movement}
use Rattle.player_label.specs.BoneNames.{names_in}
use Rattle.table_counts.specs.Counts.{no_movement}

-- 21 where the figure's counts, table or bone names break a rule
unfoldable pub with_names : Option (List (List ℕ)) → ℕ → Outcome Movement → Loaded Movement
with_names none groups o = refused 21 0 0
with_names (some names) groups o = with_movement names groups o

-- by the figure's text, counts and table, and the movement's text, for a table of `space` numbers
unfoldable pub moved_answer : List ℕ → FigureCounts → List ℤ → List ℕ → ℕ → Loaded Movement
moved_answer figure n table movement space = with_names (names_in figure n table) n.groups (movement_answer movement space)

-- a refusal's number, place and file and zeros; or the total and the three counts
unfoldable pub moved_reply : Loaded Movement → MovementAnswer
moved_reply (refused n p file) = record { refusal = n; place = p; file = file; total = 0; counts = no_movement }
moved_reply (loaded m) = tra4.answer_of (accepted m)

-- by a figure's text, counts and table, a movement's text and what its lent table held
abbrev pub moving : List ℕ → FigureCounts → List ℤ → List ℕ → List ℤ → Loaded Movement
moving F n table M moves = moved_answer F n table M (length moves)
