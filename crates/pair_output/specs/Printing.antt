-- What the program `pair` prints of an input, from the two texts alone.
use Rattle.std.specs.Prelude.{List, [], ◌∷◌, ℕ, length}
use Rattle.text_runs.specs.Runs.{part}
use Rattle.report_lists.specs.Lists.{text_of}
use Rattle.bac6_text.specs.Figure.{Figure}
use Rattle.bac6_text.specs.Layout as figures
use Rattle.tra4_text.specs.Movement.{Movement}
use Rattle.tra4_text.specs.Layout as movements
use Rattle.player_label.specs.Labels.{or_empty}
use Rattle.report_lists.specs.Parts.{lines_from}
use Rattle.pair_text.specs.Answer.{Loaded, refused, loaded, pair_answer}
use Rattle.pair_bridge.specs.Playing.{label_asked}
use Rattle.pair_head.specs.Division as input
use Rattle.pair_listing.specs.Lines.{reply_line}
use Rattle.label_listing.specs.Lines.{label_parts}

-- a refusal; or the totals, and each bone's label
unfoldable pub pair_lines : Loaded (Figure × Movement) → List (List ℕ)
pair_lines (refused n p file) = reply_line n p file 0 0 ∷ []
pair_lines (loaded (f, m)) =
    reply_line 0 0 0 (length (figures.layout_of f)) (length (movements.layout_of m))
    ∷ lines_from (λ bone. label_parts bone (or_empty (label_asked f m bone))) 0 (length f.bones)

-- for tables of 8,192 and 11,779 numbers
unfoldable pub texts_lines : List ℕ → List ℕ → List (List ℕ)
texts_lines figure movement = pair_lines (pair_answer figure 8192 movement 11779)

unfoldable pub divided_lines : List ℕ → input.Divided → List (List ℕ)
divided_lines text (input.refused n) = reply_line n 0 0 0 0 ∷ []
divided_lines text (input.figure end) = texts_lines (part text 9 end) (part text end (length text))

-- of an input of which a text is at hand, and more bytes follow
unfoldable pub input_lines : List ℕ → ℕ → List (List ℕ)
input_lines text more = divided_lines text (input.divided text more)

unfoldable pub input_text : List ℕ → ℕ → List ℕ
input_text text more = text_of (input_lines text more)
