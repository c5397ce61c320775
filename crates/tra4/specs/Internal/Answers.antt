-- How what was parsed is answered.
use Rattle.std.specs.Prelude.{List, [], ◌∷◌, ◌++◌, true, false, ℕ, ◌+◌, ◌*◌, ◌≤◌, leb, ℤ, pos, length, take, unwrap_or}
use Rattle.table_rows.specs.Internal.Overlay.{overlay_at}
use Rattle.refusal.specs.Outcomes.{Outcome, ruled}
use Rattle.parse_text.specs.Internal.Answered as outcomes
use Rattle.tra4_text.specs.Movement.{Movement}
use Rattle.tra4_text.specs.Rules.{movement_fault}
use Rattle.tra4_text.specs.Layout.{layout_of}
use Rattle.tra4_parse.specs.declared.shape.Shape.{Shape}
use Rattle.tra4.specs.declared.setting.MovementAnswer.{MovementAnswer}
use Rattle.tra4.specs.Answers.{refused_with, answer_of}
use Rattle.tra4.specs.Internal.Checks.{Held}

-- an outcome's answer, and what it leaves of the table
abbrev pub Answered : Outcome Movement → List ℤ → List ℤ → MovementAnswer → Type 0
Answered o table exit r = outcomes.Answered answer_of layout_of o table exit r

-- that of the rules over the movement that the rows hold
pub record RowsAnswered (p : Shape) (b k g table exit : List ℤ) (r : MovementAnswer) : Type 0 where
  pub outcome : (h : Held p b k g) → Answered (ruled h.read (movement_fault h.read)) table exit r

-- ---- from the counts and tables

unfoldable pub total_of : Shape → ℕ
total_of p = 3 + p.bones * 22 + unwrap_or p.keys 0 * 2 + p.patterns * 3

unfoldable pub counts_answer : Shape → MovementAnswer
counts_answer p = record { refusal = 0; place = 0; file = 0; total = total_of p; counts = record { bones = p.bones; keys = unwrap_or p.keys 0; patterns = p.patterns } }

-- 17 where the table is too short
unfoldable pub down_answer : Shape → ℕ → MovementAnswer
down_answer p room = elim (leb (total_of p) room) [ true ↦ counts_answer p | false ↦ refused_with 17 (total_of p) ]

unfoldable pub down_table : Shape → List ℤ → List ℤ → List ℤ
down_table p numbers table = elim (leb (total_of p) (length table)) [ true ↦ overlay_at 0 numbers table | false ↦ table ]

-- the lists' parts of the tables, one after the other
unfoldable pub parts_of : Shape → List ℤ → List ℤ → List ℤ → List ℤ
parts_of p b k g =
    (p.total ∷ pos p.place ∷ pos p.length ∷ [])
    ++ take (p.bones * 22) b
    ++ take (unwrap_or p.keys 0 * 2) k
    ++ take (p.patterns * 3) g

-- the tables have all rows, and the numbers are small
pub record Fits (p : Shape) (b k g : List ℤ) : Type 0 where
  pub place : p.place ≤ 65536
  pub size : p.length ≤ 65536
  pub total : total_of p ≤ 11779
  pub bones : p.bones * 22 ≤ length b
  pub keys : unwrap_or p.keys 0 * 2 ≤ length k
  pub patterns : p.patterns * 3 ≤ length g
