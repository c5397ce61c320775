-- The demands. A text is taken exactly when it keeps the rules, by going back through the answer's steps and forth again; a pair likewise. Each lookup on a loaded pair is the texts' own answer.
use mathlib.Core.Path.{◌≡◌, refl, ap, sym, ◌∙◌}
use mathlib.Core.Logic.{◌↔◌}
use mathlib.Core.List.{List}
use mathlib.Core.Bool.{Bool, true, false}
use Prim.Native.Nat.{ℕ, ◌<◌}
use borrow.Author.Tests.{lt-ltb, eqb-true}
use lib.Dec.{eqb}
use lib.IntN.{ℤ}
use lib.ListN.{length, length-map}
use Rattle.text_check.specs.Faults.{Format, bac, tra}
use Rattle.refusal.specs.Faults.{Fault}
use Rattle.refusal.proofs.Faults.{fault-not-clear}
use Rattle.parse_spec.specs.Readers.{Reader}
use Rattle.refusal.specs.Outcomes.{rejected, accepted, fitted}
use Rattle.parse_text.specs.Texts.{outcome}
use Rattle.parse_text.proofs.Outcomes.{text-clear, all-taken, fitted-room, accepted-clear, laid-rejected}
use Rattle.bac6_text.specs.Figure.{Figure}
use Rattle.bac6_text.specs.Grammar.{figure}
use Rattle.bac6_text.specs.Rules.{faces_of, figure_fault}
use Rattle.bac6_text.specs.Layout as figures
use Rattle.bac6_text.specs.Answer.{figure_outcome, figure_answer, table_after}
use Rattle.tra4_text.specs.Movement.{Movement}
use Rattle.tra4_text.specs.Grammar.{movement}
use Rattle.tra4_text.specs.Rules.{movement_fault}
use Rattle.tra4_text.specs.Layout as movements
use Rattle.tra4_text.specs.Answer.{movement_outcome, movement_answer, movement_table}
use Rattle.movement_bridge.proofs.Taken.{taken}
use Rattle.player_spec.specs.Lookups.{only_if}
use Rattle.player_spec.specs.Answers.{numbered}
use Rattle.player_laws.proofs.Keys.{on_key_at, between-at, past_last-at, sample-lowest, sample_none}
use Rattle.movement_bridge.specs.Counts.{channel_of}
use Rattle.movement_bridge.proofs.Sampling.{channel-sound}
use Rattle.movement_bridge.proofs.Tables.{table-read}
use Rattle.figure_bridge.specs.Rows.{face_of}
use Rattle.figure_bridge.proofs.Texts.{figure-table}
use Rattle.pair_text.specs.Answer.{refused, loaded, paired, pair_answer, figure_left, movement_of, movement_left}
use Rattle.pair_text.proofs.Taken as pairs
use Rattle.pair_text.specs.Rules.{figure_names, bones_fault}
use Rattle.pair_bridge.specs.Playing.{frames_of, sample_asked, corner_asked, shown_asked, why_asked, label_asked}
use Rattle.refusal_laws.proofs.Refusals.{figure-refusal, movement-refusal, pair-refusal}
use Rattle.refusal_laws.proofs.Answers.{figure-zero, movement-zero, pair-zero}
use Rattle.pair_laws.proofs.Parts.{parts_taken, figure-left, moves-left}
use Rattle.pair_laws.proofs.Loaded.{every_sample, every_corner, every_shown, every_why, every_label}
use Rattle.shoalbutton.specs.Demands.{Keeps, KeepsFigure, KeepsMovement, KeepsPair, Demand1, Demand2, SampleLaws, Played, Demand3}

-- ---- over a format

module _ {A : Type 0} (f : Format) (grammar : Reader A) (rules : A → Fault) (layout : A → List ℤ) (text : List ℕ) (room : ℕ) (a : A) where
  taken_keeps : fitted layout room (outcome f grammar rules text) ≡ accepted a → Keeps f grammar rules layout text room a
  taken_keeps e =
      let t = taken f grammar rules layout text room a e in
      record { words = accepted-clear f grammar rules layout text room a e; left = t.shape.left; shape = t.shape.gives; ruled = t.shape.clean; fits = t.room_is }

  keeps_taken : Keeps f grammar rules layout text room a → fitted layout room (outcome f grammar rules text) ≡ accepted a
  keeps_taken k = ap (fitted layout room) (text-clear f grammar rules text k.words ∙ all-taken rules k.shape k.ruled) ∙ fitted-room layout a room k.fits

figure_exactly : (text : List ℕ) (room : ℕ) (f : Figure) → figure_answer text room ≡ accepted f ↔ KeepsFigure text room f
unfolding figure_answer figure_outcome
figure_exactly text room f = (taken_keeps bac figure figure_fault figures.layout_of text room f, keeps_taken bac figure figure_fault figures.layout_of text room f)

movement_exactly : (text : List ℕ) (room : ℕ) (m : Movement) → movement_answer text room ≡ accepted m ↔ KeepsMovement text room m
unfolding movement_answer movement_outcome
movement_exactly text room m = (taken_keeps tra movement movement_fault movements.layout_of text room m, keeps_taken tra movement movement_fault movements.layout_of text room m)

-- ---- a pair

module _ (F : List ℕ) (room : ℕ) (M : List ℕ) (space : ℕ) (f : Figure) (m : Movement) where
  pair_keeps : pair_answer F room M space ≡ loaded (f, m) → KeepsPair F room M space f m
  pair_keeps e =
      let t = parts_taken F room M space f m e in
      record { figure_kept = (figure_exactly F room f).0 t.figure; movement_kept = (movement_exactly M space m).0 t.movement; paired = t.rules }

  keeps_pair : KeepsPair F room M space f m → pair_answer F room M space ≡ loaded (f, m)
  unfolding pair_answer
  keeps_pair k = pairs.pair_loads (record { figure = (figure_exactly F room f).1 k.figure_kept; movement = (movement_exactly M space m).1 k.movement_kept; rules = k.paired })

-- ---- the tables

figure_stays : (text : List ℕ) (table : List ℤ) (n p : ℕ) → figure_answer text (length table) ≡ rejected n p → table_after text table ≡ table
unfolding table_after
figure_stays text table n p e = sym (laid-rejected figures.layout_of e table)

movement_stays : (text : List ℕ) (table : List ℤ) (n p : ℕ) → movement_answer text (length table) ≡ rejected n p → movement_table text table ≡ table
unfolding movement_table
movement_stays text table n p e = sym (laid-rejected movements.layout_of e table)

pair_stays : (table moves : List ℤ) (n p file : ℕ) → (figure_left table (refused n p file) ≡ table) × (movement_left moves (movement_of (refused n p file)) ≡ moves)
unfolding figure_left movement_left movement_of
pair_stays table moves n p file = (refl, refl)

pub demand_1 : Demand1
demand_1 =
    record {
      figure_refused = figure-refusal;
      movement_refused = movement-refusal;
      pair_refused = pair-refusal;
      figure_zero = figure-zero;
      movement_zero = movement-zero;
      pair_zero = pair-zero;
      figure_stays = figure_stays;
      movement_stays = movement_stays;
      pair_stays = pair_stays;
    }

pub demand_2 : Demand2
demand_2 =
    record {
      figure_taken = figure_exactly;
      figure_held = figure-table;
      movement_taken = movement_exactly;
      movement_held = table-read;
      pair_taken = λ F room M space f m. (pair_keeps F room M space f m, keeps_pair F room M space f m);
      pair_held = λ F table M moves f m e. (figure-left F table M moves f m e, moves-left F table M moves f m e);
    }

-- ---- demand 3

module _ (F : List ℕ) (table : List ℤ) (M : List ℕ) (moves : List ℤ) (f : Figure) (m : Movement) (e : pair_answer F (length table) M (length moves) ≡ loaded (f, m)) where
  abbrev parts : pairs.PairTaken (figure_answer F (length table)) (movement_answer M (length moves)) f m
  parts = parts_taken F (length table) M (length moves) f m e

  -- rule 18
  same-bones : length f.bones ≡ length m.bones
  unfolding bones_fault figure_names
  same-bones = sym (length-map f.bones _) ∙ go (eqb (length (figure_names f)) (length m.bones)) refl
    where
      go : (v : Bool) → eqb (length (figure_names f)) (length m.bones) ≡ v → length (figure_names f) ≡ length m.bones
      go true p = eqb-true _ _ p
      go false p = absurd (fault-not-clear _ _ (rw (p, bones_fault) at (pairs.bones-kept (figure_names f) (length f.groups) m parts.rules)))

  -- ---- what exists

  laws : (bone channel : ℕ) → bone < length m.bones → channel < 10 → SampleLaws channel (channel_of m bone channel)
  laws bone channel h k =
      let sound = channel-sound M moves m parts.movement bone channel h k in
      record {
        on_key = λ i l. on_key_at channel m.total_frames _ sound i l;
        between = λ i at l a b. between-at channel m.total_frames _ sound i l at a b;
        past_last = λ i at l a. past_last-at channel m.total_frames _ sound i l at a;
        left_out = λ at l. sample_none channel _ at l;
        lowest = λ at. sample-lowest channel m.total_frames _ at sound;
      }

  played : Played F table M moves f m
  unfolding numbered sample_asked shown_asked why_asked corner_asked label_asked only_if
  played =
      record {
        sample = λ bone channel at h k l. ap numbered (every_sample F table M moves f m e bone channel at) ∙ rw (lt-ltb bone (length m.bones) h, lt-ltb channel 10 k, lt-ltb at (frames_of m) l);
        shown = λ face at h l. ap numbered (every_shown F table M moves f m e face at) ∙ rw (lt-ltb face (length (faces_of f)) h, lt-ltb at (frames_of m) l);
        why = λ face at h l. ap numbered (every_why F table M moves f m e face at) ∙ rw (lt-ltb face (length (faces_of f)) h, lt-ltb at (frames_of m) l);
        corner = λ face i h l. ap numbered (every_corner F table M moves f m e face i) ∙ rw (lt-ltb face (length (faces_of f)) h, lt-ltb i (face_of f face).size l);
        label = λ bone h. ap numbered (every_label F table M moves f m e bone) ∙ rw (lt-ltb bone (length f.bones) (rw same-bones h), lt-ltb bone (length m.bones) h);
        bones = same-bones;
        laws = laws;
        every_sample = every_sample F table M moves f m e;
        every_shown = every_shown F table M moves f m e;
        every_why = every_why F table M moves f m e;
        every_corner = every_corner F table M moves f m e;
        every_label = every_label F table M moves f m e;
      }

pub demand_3 : Demand3
demand_3 = played
