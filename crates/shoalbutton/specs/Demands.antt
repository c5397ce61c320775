-- The user's demands, as statements over the definitions that the calls of this crate equal. proofs/Demands.antt gives them.
-- That every call ends and answers is what a proved crate is; each call's contract has no `requires`.
use Rattle.std.specs.Prelude.{◌≡◌, ◌↔◌, List, [], ◌++◌, ℕ, suc, ◌≤◌, ◌<◌, ℤ, length, get_or, drop}
use Rattle.std.proofs.Math.Option.{some}
use Rattle.text_check.specs.Faults.{Format, bac, tra, text_fault}
use Rattle.refusal.specs.Faults.{Fault, clear}
use Rattle.text_tokens.specs.Tokens.{Lexeme, lex}
use Rattle.parse_spec.specs.Readers.{got, Reader}
use Rattle.refusal.specs.Outcomes.{rejected, accepted}
use Rattle.bac6_text.specs.Figure.{Figure}
use Rattle.bac6_text.specs.Grammar.{figure}
use Rattle.bac6_text.specs.Rules.{faces_of, figure_fault}
use Rattle.bac6_text.specs.Layout as figures
use Rattle.bac6_text.specs.Answer.{figure_answer, table_after}
use Rattle.tra4_text.specs.Movement.{Channel, Movement}
use Rattle.tra4_text.specs.Grammar.{movement}
use Rattle.tra4_text.specs.Rules.{movement_fault}
use Rattle.tra4_text.specs.Layout as movements
use Rattle.tra4_text.specs.Answer.{movement_answer, movement_table}
use Rattle.table_counts.specs.declared.counts.FigureCounts.{FigureCounts}
use Rattle.table_counts.specs.declared.counts.MovementCounts.{MovementCounts}
use Rattle.player_spec.specs.Fractions.{whole}
use Rattle.player_spec.specs.Samples.{key_frame, key_value, standing, sample_of}
use Rattle.player_spec.specs.Faces.{corner_of, shown_of}
use Rattle.player_spec.specs.Reasons.{why_of}
use Rattle.player_spec.specs.Lookups.{sample_in, corner_in, shown_in, why_in}
use Rattle.player_spec.specs.Answers.{numbered}
use Rattle.player_laws.specs.Bounds.{Between, LowestTerms, key_at}
use Rattle.player_label.specs.Labels.{label_of, label_in}
use Rattle.movement_bridge.specs.Counts.{channel_of}
use Rattle.figure_bridge.specs.Rows.{face_of, grouped_face_of}
use Rattle.pair_text.specs.Rules.{figure_names, movement_names, pair_fault}
use Rattle.pair_text.specs.Answer.{refused, loaded, pair_answer, figure_left, movement_of, movement_left, table_left, moves_left}
use Rattle.pair_bridge.specs.Playing.{frames_of, sample_asked, corner_asked, shown_asked, why_asked, label_asked}
use Rattle.bac6.specs.Answers as bac6
use Rattle.tra4.specs.Answers as tra4
use Rattle.pair_load.specs.Answers.{pair_reply, reply}
use Rattle.refusal_laws.specs.Numbers.{figure_numbers, movement_numbers, Refusal, numbers_of, text_of, IsTaken, IsLoaded}

-- ---- 1: "a refusal has its fixed number and place, and lent tables stay untouched": the number is one that 01 gives for the file, never 0

pub record Demand1 : Type 0 where
  pub figure_refused : (text : List ℕ) (room n p : ℕ) → figure_answer text room ≡ rejected n p → Refusal figure_numbers text n p
  pub movement_refused : (text : List ℕ) (room n p : ℕ) → movement_answer text room ≡ rejected n p → Refusal movement_numbers text n p
  pub pair_refused : (F : List ℕ) (room : ℕ) (M : List ℕ) (space n p file : ℕ) → pair_answer F room M space ≡ refused n p file → Refusal (numbers_of file) (text_of file F M) n p
  -- so an answer's refusal is 0 exactly where the text is taken
  pub figure_zero : (text : List ℕ) (room : ℕ) → (bac6.answer_of (figure_answer text room)).refusal ≡ 0 ↔ IsTaken (figure_answer text room)
  pub movement_zero : (text : List ℕ) (room : ℕ) → (tra4.answer_of (movement_answer text room)).refusal ≡ 0 ↔ IsTaken (movement_answer text room)
  pub pair_zero : (F : List ℕ) (room : ℕ) (M : List ℕ) (space : ℕ) → (pair_reply (pair_answer F room M space)).refusal ≡ 0 ↔ IsLoaded (pair_answer F room M space)
  -- and a table stays as it was where the text is refused
  pub figure_stays : (text : List ℕ) (table : List ℤ) (n p : ℕ) → figure_answer text (length table) ≡ rejected n p → table_after text table ≡ table
  pub movement_stays : (text : List ℕ) (table : List ℤ) (n p : ℕ) → movement_answer text (length table) ≡ rejected n p → movement_table text table ≡ table
  pub pair_stays : (table moves : List ℤ) (n p file : ℕ) → (figure_left table (refused n p file) ≡ table) × (movement_left moves (movement_of (refused n p file)) ≡ moves)

-- ---- 2: "A text is taken exactly when it keeps the rules, and the tables then hold what the text says, every decimal digit. A pair likewise."

-- a text of a format keeps the rules and says what `a` holds, for a table of `room` numbers
pub record Keeps {A : Type 0} (f : Format) (grammar : Reader A) (rules : A → Fault) (layout : A → List ℤ) (text : List ℕ) (room : ℕ) (a : A) : Type 0 where
  -- 1 to 4
  pub words : text_fault f text ≡ clear
  -- 5 to 7
  pub left : List Lexeme
  pub shape : grammar (lex text) ≡ got a left
  -- 8 to 16
  pub ruled : rules a ≡ clear
  -- 17
  pub fits : length (layout a) ≤ room

abbrev pub KeepsFigure : List ℕ → ℕ → Figure → Type 0
KeepsFigure text room f = Keeps bac figure figure_fault figures.layout_of text room f

abbrev pub KeepsMovement : List ℕ → ℕ → Movement → Type 0
KeepsMovement text room m = Keeps tra movement movement_fault movements.layout_of text room m

pub record KeepsPair (F : List ℕ) (room : ℕ) (M : List ℕ) (space : ℕ) (f : Figure) (m : Movement) : Type 0 where
  pub figure_kept : KeepsFigure F room f
  pub movement_kept : KeepsMovement M space m
  -- 18 to 20
  pub paired : pair_fault (figure_names f) (length f.groups) m ≡ clear

pub record Demand2 : Type 0 where
  pub figure_taken : (text : List ℕ) (room : ℕ) (f : Figure) → figure_answer text room ≡ accepted f ↔ KeepsFigure text room f
  pub figure_held : (text : List ℕ) (table : List ℤ) (f : Figure) → figure_answer text (length table) ≡ accepted f → table_after text table ≡ figures.layout_of f ++ drop (length (figures.layout_of f)) table
  pub movement_taken : (text : List ℕ) (room : ℕ) (m : Movement) → movement_answer text room ≡ accepted m ↔ KeepsMovement text room m
  pub movement_held : (text : List ℕ) (table : List ℤ) (m : Movement) → movement_answer text (length table) ≡ accepted m → movement_table text table ≡ movements.layout_of m ++ drop (length (movements.layout_of m)) table
  pub pair_taken : (F : List ℕ) (room : ℕ) (M : List ℕ) (space : ℕ) (f : Figure) (m : Movement) → pair_answer F room M space ≡ loaded (f, m) ↔ KeepsPair F room M space f m
  -- where a pair is taken, each text is taken alone, and each table is what reading it alone leaves
  pub pair_held : (F : List ℕ) (table : List ℤ) (M : List ℕ) (moves : List ℤ) (f : Figure) (m : Movement) (e : pair_answer F (length table) M (length moves) ≡ loaded (f, m)) → (figure_left table (loaded (f, m)) ≡ table_after F table) × (movement_left moves (movement_of (loaded (f, m))) ≡ movement_table M moves)

-- ---- 3: "For every loaded pair, every frame, bone, channel, face and corner, the player's answer equals the one worked out exactly from the two texts alone."

-- the exact sample of the channel of a number: on a key the key's value, between two keys not below the smaller nor above the larger, past the last the last's, and of a channel
-- without keys, which is one that is left out, the standing pose; in lowest terms
pub record SampleLaws (channel : ℕ) (c : Channel) : Type 0 where
  pub on_key : (i : ℕ) → i < length c → sample_of channel c (key_frame (key_at c i)) ≡ whole (key_value (key_at c i))
  pub between : (i at : ℕ) → suc i < length c → key_frame (key_at c i) ≤ at → at < key_frame (key_at c (suc i)) → Between (key_value (key_at c i)) (key_value (key_at c (suc i))) (sample_of channel c at)
  pub past_last : (i at : ℕ) → suc i ≡ length c → key_frame (key_at c i) ≤ at → sample_of channel c at ≡ whole (key_value (key_at c i))
  pub left_out : (at : ℕ) → c ≡ [] → sample_of channel c at ≡ whole (standing channel)
  pub lowest : (at : ℕ) → LowestTerms (sample_of channel c at)

-- the two texts, and what the two lent tables held
module _ (F : List ℕ) (table : List ℤ) (M : List ℕ) (moves : List ℤ) where
  -- the counts that loading answers, and the tables that it leaves
  abbrev pub n : FigureCounts
  n = (reply F table M moves).figure

  abbrev pub T : List ℤ
  T = table_left F table M moves

  abbrev pub k : MovementCounts
  k = (reply F table M moves).movement

  abbrev pub U : List ℤ
  U = moves_left F table M moves

  pub record Played (f : Figure) (m : Movement) : Type 0 where
    -- what is in the files
    pub sample : (bone channel at : ℕ) → bone < length m.bones → channel < 10 → at < frames_of m → numbered (sample_in k U bone channel at) ≡ (0, 0, 0, some (sample_of channel (channel_of m bone channel) at))
    pub shown : (face at : ℕ) → face < length (faces_of f) → at < frames_of m → numbered (shown_in n T k U face at) ≡ (0, 0, 0, some (shown_of f.bones m.patterns (grouped_face_of f face) at))
    pub why : (face at : ℕ) → face < length (faces_of f) → at < frames_of m → numbered (why_in n T k U face at) ≡ (0, 0, 0, some (why_of f.bones m.patterns (grouped_face_of f face) at))
    pub corner : (face i : ℕ) → face < length (faces_of f) → i < (face_of f face).size → numbered (corner_in n T face i) ≡ (0, 0, 0, some (corner_of f (face_of f face) i))
    pub label : (bone : ℕ) → bone < length m.bones → numbered (label_in F n T M k U bone) ≡ (0, 0, 0, some (label_of (get_or (figure_names f) bone []) (get_or (movement_names m) bone [])))
    -- as many bones in the one as in the other
    pub bones : length f.bones ≡ length m.bones
    pub laws : (bone channel : ℕ) → bone < length m.bones → channel < 10 → SampleLaws channel (channel_of m bone channel)
    -- whatever is asked: 21 exactly for what is not in the files
    pub every_sample : (bone channel at : ℕ) → sample_in k U bone channel at ≡ sample_asked m bone channel at
    pub every_shown : (face at : ℕ) → shown_in n T k U face at ≡ shown_asked f m face at
    pub every_why : (face at : ℕ) → why_in n T k U face at ≡ why_asked f m face at
    pub every_corner : (face i : ℕ) → corner_in n T face i ≡ corner_asked f face i
    pub every_label : (bone : ℕ) → label_in F n T M k U bone ≡ label_asked f m bone

-- for every two texts and every two tables
abbrev pub Demand3 : Type 0
Demand3 = (F : List ℕ) (table : List ℤ) (M : List ℕ) (moves : List ℤ) (f : Figure) (m : Movement) → pair_answer F (length table) M (length moves) ≡ loaded (f, m) → Played F table M moves f m
