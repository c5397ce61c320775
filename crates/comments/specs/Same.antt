-- What document 02, (ix), says of a text and the same text with notes: "both are accepted or both refused with the same number at the same word, list, row, count or text's end; when accepted, tables differ in
-- name places alone and with the same other file every player's answer is equal, labels by their bytes."
use Rattle.std.specs.Prelude.{◌≡◌, List, Bool, true, false, ℕ, eqb, ℤ, drop}
use Rattle.std.proofs.Math.Option.{Option}
use Rattle.refusal.specs.Outcomes.{Outcome, rejected, accepted}
use Rattle.text_notes.specs.SameWord.{SamePlace}
use Rattle.table_counts.specs.declared.counts.FigureCounts.{FigureCounts}
use Rattle.table_counts.specs.declared.counts.MovementCounts.{MovementCounts}
use Rattle.table_figure.specs.Sections.{figure_end}
use Rattle.table_movement.specs.Sections.{movement_end}
use Rattle.table_contents.specs.Contents.{figure_contents, movement_contents}
use Rattle.bac6_text.specs.Figure.{Figure}
use Rattle.bac6_text.specs.Rules.{figure_counts}
use Rattle.bac6_text.specs.Answer.{table_after}
use Rattle.tra4_text.specs.Movement.{Movement}
use Rattle.tra4_text.specs.Rules.{movement_counts}
use Rattle.tra4_text.specs.Answer.{movement_table}
use Rattle.player_spec.specs.Fractions.{Fraction}
use Rattle.player_spec.specs.Faces.{CornerOf}
use Rattle.player_spec.specs.Reasons.{Reason}
use Rattle.player_spec.specs.Lookups.{sample_in, corner_in, shown_in, why_in}
use Rattle.player_label.specs.Labels.{label_in}
use Rattle.pair_text.specs.Answer.{Loaded, refused, loaded, table_left, moves_left}
use Rattle.bac6.specs.Answers as bac6
use Rattle.tra4.specs.Answers as tra4
use Rattle.pair_movement.specs.Moved.{moved_answer}
use Rattle.pair_load.specs.Answers.{reply}

-- ---- reading a text, and the same with notes

-- taken both, R then holding of what they say, or refused both with one number, at one word, list, row, count or total
unfoldable pub SameOutcome : {A : Type 0} → List ℕ → List ℕ → (A → A → Type 0) → Outcome A → Outcome A → Type 0
SameOutcome text text' R (accepted a) (accepted b) = R a b
SameOutcome text text' R (accepted a) (rejected n p) = ⊥
SameOutcome text text' R (rejected n p) (accepted b) = ⊥
SameOutcome text text' R (rejected n p) (rejected i q) = (i ≡ n) × SamePlace text text' n p q

module _ (text text' : List ℕ) (table : List ℤ) where
  -- a table that held `table`
  pub record SameFigure (f g : Figure) : Type 0 where
    -- the answer, with its total and counts
    pub answer : bac6.answer_of (accepted g) ≡ bac6.answer_of (accepted f)
    -- the tables, name places left out, and the numbers beyond their total
    pub contents : figure_contents text' (figure_counts g) (table_after text' table) ≡ figure_contents text (figure_counts f) (table_after text table)
    pub beyond : drop (figure_end (figure_counts g)) (table_after text' table) ≡ drop (figure_end (figure_counts f)) (table_after text table)
    -- whatever is asked, with any other text, counts and table
    pub corner : (face i : ℕ) → corner_in (figure_counts g) (table_after text' table) face i ≡ corner_in (figure_counts f) (table_after text table) face i
    pub shown : (k : MovementCounts) (moves : List ℤ) (face at : ℕ) → shown_in (figure_counts g) (table_after text' table) k moves face at ≡ shown_in (figure_counts f) (table_after text table) k moves face at
    pub why : (k : MovementCounts) (moves : List ℤ) (face at : ℕ) → why_in (figure_counts g) (table_after text' table) k moves face at ≡ why_in (figure_counts f) (table_after text table) k moves face at
    pub label : (M : List ℕ) (k : MovementCounts) (moves : List ℤ) (bone : ℕ) → label_in text' (figure_counts g) (table_after text' table) M k moves bone ≡ label_in text (figure_counts f) (table_after text table) M k moves bone
    -- a movement loaded for it
    pub movement : (M : List ℕ) (space : ℕ) → moved_answer text' (figure_counts g) (table_after text' table) M space ≡ moved_answer text (figure_counts f) (table_after text table) M space

  pub record SameMovement (m o : Movement) : Type 0 where
    pub answer : tra4.answer_of (accepted o) ≡ tra4.answer_of (accepted m)
    pub contents : movement_contents text' (movement_counts o) (movement_table text' table) ≡ movement_contents text (movement_counts m) (movement_table text table)
    pub beyond : drop (movement_end (movement_counts o)) (movement_table text' table) ≡ drop (movement_end (movement_counts m)) (movement_table text table)
    pub sample : (bone channel at : ℕ) → sample_in (movement_counts o) (movement_table text' table) bone channel at ≡ sample_in (movement_counts m) (movement_table text table) bone channel at
    pub shown : (n : FigureCounts) (t : List ℤ) (face at : ℕ) → shown_in n t (movement_counts o) (movement_table text' table) face at ≡ shown_in n t (movement_counts m) (movement_table text table) face at
    pub why : (n : FigureCounts) (t : List ℤ) (face at : ℕ) → why_in n t (movement_counts o) (movement_table text' table) face at ≡ why_in n t (movement_counts m) (movement_table text table) face at
    pub label : (F : List ℕ) (n : FigureCounts) (t : List ℤ) (bone : ℕ) → label_in F n t text' (movement_counts o) (movement_table text' table) bone ≡ label_in F n t text (movement_counts m) (movement_table text table) bone

-- ---- loading a pair, and the same with notes in one of its files (0 the figure, 1 the movement)

-- the places of a refusal that speaks of a file: where that has the notes as in its text, else the same
unfoldable pub PlacesIn : ℕ → List ℕ → List ℕ → ℕ → ℕ → ℕ → ℕ → Type 0
PlacesIn noted text text' file n p q = elim (eqb file noted) as (λ x. Type 0) [ true ↦ SamePlace text text' n p q | false ↦ q ≡ p ]

unfoldable pub SameLoaded : {A : Type 0} → ℕ → List ℕ → List ℕ → (A → A → Type 0) → Loaded A → Loaded A → Type 0
SameLoaded noted text text' R (loaded a) (loaded b) = R a b
SameLoaded noted text text' R (loaded a) (refused n p file) = ⊥
SameLoaded noted text text' R (refused n p file) (loaded b) = ⊥
SameLoaded noted text text' R (refused n p file) (refused i q other) = (i ≡ n) × (other ≡ file) × PlacesIn noted text text' file n p q

-- what each lookup answers on the counts and tables that loading two texts leaves
module _ (F : List ℕ) (table : List ℤ) (M : List ℕ) (moves : List ℤ) where
  abbrev pub sample_left : ℕ → ℕ → ℕ → Option Fraction
  sample_left bone channel at = sample_in (reply F table M moves).movement (moves_left F table M moves) bone channel at

  abbrev pub corner_left : ℕ → ℕ → Option CornerOf
  corner_left face i = corner_in (reply F table M moves).figure (table_left F table M moves) face i

  abbrev pub shown_left : ℕ → ℕ → Option Bool
  shown_left face at = shown_in (reply F table M moves).figure (table_left F table M moves) (reply F table M moves).movement (moves_left F table M moves) face at

  abbrev pub why_left : ℕ → ℕ → Option Reason
  why_left face at = why_in (reply F table M moves).figure (table_left F table M moves) (reply F table M moves).movement (moves_left F table M moves) face at

  abbrev pub label_left : ℕ → Option (List ℕ)
  label_left bone = label_in F (reply F table M moves).figure (table_left F table M moves) M (reply F table M moves).movement (moves_left F table M moves) bone

-- two pairs that are loaded, and what they say
module _ (F F' : List ℕ) (table : List ℤ) (M M' : List ℕ) (moves : List ℤ) where
  pub record SamePair (x y : Figure × Movement) : Type 0 where
    -- each text is taken alone, and loading leaves the table that reading it alone leaves (`Pair-held` of demand 2): its contents, and the numbers beyond
    pub figure : SameFigure F F' table x.0 y.0
    pub movement : SameMovement M M' moves x.1 y.1
    pub answer : reply F' table M' moves ≡ reply F table M moves
    -- whatever is asked; the calls that load and then play answer the same (demand 3)
    pub sample : (bone channel at : ℕ) → sample_left F' table M' moves bone channel at ≡ sample_left F table M moves bone channel at
    pub corner : (face i : ℕ) → corner_left F' table M' moves face i ≡ corner_left F table M moves face i
    pub shown : (face at : ℕ) → shown_left F' table M' moves face at ≡ shown_left F table M moves face at
    pub why : (face at : ℕ) → why_left F' table M' moves face at ≡ why_left F table M moves face at
    pub label : (bone : ℕ) → label_left F' table M' moves bone ≡ label_left F table M moves bone
