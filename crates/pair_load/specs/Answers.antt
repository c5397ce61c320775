-- What loading answers: of a pair, and of a movement with a figure that already stands in a table.
use Rattle.std.specs.Prelude.{List, ℕ, ℤ, length}
use Rattle.bac6_text.specs.Figure.{Figure}
use Rattle.bac6_text.specs.Layout as figures
use Rattle.tra4_text.specs.Movement.{Movement}
use Rattle.tra4_text.specs.Layout as movements
use Rattle.pair_text.specs.Answer.{Loaded, refused, loaded, loading}
use Rattle.pair_load.specs.declared.pair.PairAnswer.{PairAnswer}
use Rattle.bac6_text.specs.Rules.{figure_counts}
use Rattle.tra4_text.specs.Rules.{movement_counts}
use Rattle.table_counts.specs.Counts.{no_figure, no_movement}

-- ---- a movement, with a figure in a table

-- ---- a pair

-- a refusal's number, place and file and zeros; or both totals and both readers' counts
unfoldable pub pair_reply : Loaded (Figure × Movement) → PairAnswer
pair_reply (refused n p file) = record { refusal = n; place = p; file = file; figure_total = 0; figure = no_figure; movement_total = 0; movement = no_movement }
pair_reply (loaded (f, m)) =
    record {
      refusal = 0;
      place = 0;
      file = 0;
      figure_total = length (figures.layout_of f);
      figure = figure_counts f;
      movement_total = length (movements.layout_of m);
      movement = movement_counts m;
    }

-- by two texts and what the two lent tables held
abbrev pub reply : List ℕ → List ℤ → List ℕ → List ℤ → PairAnswer
reply F table M moves = pair_reply (loading F table M moves)
