-- Every refusal of a text or a pair has one of 01's numbers, none of which is 0, and the place of 1 to 7 is within the text; by what each step of the answer gives.
use mathlib.Core.Path.{◌≡◌, refl}
use mathlib.Core.List.{List, ◌++◌}
use mathlib.Core.Bool.{Bool, true, false}
use Prim.Native.Nat.{ℕ, zero, suc, ◌≤◌, ◌<◌}
use native.Mathlib.Omega.{arith}
use lib.Dec.{leb}
use lib.ListN.{length}
use lib.IntN.{ℤ}
use Rattle.text_check.specs.Faults.{Format, bac, tra, text_fault}
use Rattle.refusal.specs.Faults.{Fault, clear, fault}
use Rattle.text_bytes.proofs.Every.{every_at}
use Rattle.text_tokens.specs.Tokens.{ending, lexeme, lex}
use Rattle.text_numerals.proofs.Numerals.{between_true}
use Rattle.parse_spec.specs.Readers as readers
use Rattle.parse_spec.specs.Readers.{Got, got, Reader}
use Rattle.refusal.specs.Outcomes.{Outcome, rejected, accepted, ruled, fitted}
use Rattle.parse_text.specs.Texts.{shaped, checked, outcome}
use Rattle.bac6_text.specs.Figure.{Figure}
use Rattle.bac6_text.specs.Grammar.{figure}
use Rattle.bac6_text.specs.Rules.{figure_fault}
use Rattle.bac6_text.specs.Layout as figures
use Rattle.bac6_text.specs.Answer.{figure_outcome, figure_answer}
use Rattle.tra4_text.specs.Movement.{Movement}
use Rattle.tra4_text.specs.Grammar.{movement}
use Rattle.tra4_text.specs.Rules.{movement_fault}
use Rattle.tra4_text.specs.Layout as movements
use Rattle.tra4_text.specs.Answer.{movement_outcome, movement_answer}
use Rattle.pair_text.specs.Rules.{figure_names, pair_fault}
use Rattle.pair_text.specs.Answer.{Loaded, refused, loaded, if_paired, with_movement, with_figure, paired, pair_answer}
use Rattle.text_notes.specs.Notes.{token_at}
use Rattle.parse_alike.proofs.Tokens.{Both, GotAlike}
use Rattle.parse_alike.proofs.Readers.{Alike}
use Rattle.parse_alike.proofs.Texts.{texts_both}
use Rattle.bac6_alike.proofs.Shape.{figure_alike}
use Rattle.tra4_alike.proofs.Shape.{movement_alike}
use Rattle.refusal_laws.specs.Numbers.{is_among, figure_numbers, movement_numbers, pair_numbers, Refusal, numbers_of, text_of}
use Rattle.refusal_laws.proofs.Among.{among_more}
use Rattle.refusal_laws.proofs.Texts.{early_numbers, Early, Faulty, Begins, text_early, lex-begins}
use Rattle.refusal_laws.proofs.Rules.{Anywhere, figure_faulty, movement_faulty, pair_faulty}

-- ---- a text's answer, over what holds of its refusals

-- an outcome, where it is a refusal, is one of R
abbrev Rejects : {A : Type 0} → (ℕ → ℕ → Type 0) → Outcome A → Type 0
Rejects R (rejected n p) = R n p
Rejects R (accepted a) = Unit {0}

-- a place within b bytes, in two texts that are one
abbrev Near : ℕ → ℕ → ℕ → Type 0
Near b p q = p ≤ b

lex_both : (text : List ℕ) → Both (Near (length text)) (lex text) (lex text)
unfolding token_at
lex_both text = texts_both (Near (length text)) text text refl (λ i h. every_at (Begins (length text)) (lex text) i (lexeme 0 ending) (lex-begins text) h)

-- 5, 6 and 7
early_number : (n : ℕ) → 5 ≤ n → n ≤ 7 → is_among n early_numbers ≡ true
unfolding is_among
early_number zero l h = absurd (omega arith)
early_number (suc zero) l h = refl
early_number (suc (suc zero)) l h = refl
early_number (suc (suc (suc zero))) l h = refl
early_number (suc (suc (suc (suc zero)))) l h = refl
early_number (suc (suc (suc (suc (suc zero))))) l h = refl
early_number (suc (suc (suc (suc (suc (suc zero)))))) l h = refl
early_number (suc (suc (suc (suc (suc (suc (suc zero))))))) l h = refl
early_number (suc (suc (suc (suc (suc (suc (suc (suc n)))))))) l h = absurd (omega arith)

module _ {A : Type 0} (text : List ℕ) (R : ℕ → ℕ → Type 0) (early : (n p : ℕ) → Early (length text) n p → R n p) (rules : A → Fault) (rule : (a : A) → Faulty R (rules a)) where
  ruled_rejects : (a : A) (g : Fault) → Faulty R g → Rejects R (ruled a g)
  unfolding ruled
  ruled_rejects a clear h = tt
  ruled_rejects a (fault n p) h = h

  shaped_rejects : (S : A → A → Type 0) (g : Got A) → GotAlike (Near (length text)) S g g → Rejects R (shaped rules g)
  unfolding shaped
  shaped_rejects S (got a l) h = ruled_rejects a (rules a) (rule a)
  shaped_rejects S (readers.refused n p) h = let b = between_true 5 7 n h.shape in early n p (record { number = early_number n b.0 b.1; place = h.places })

  checked_rejects : {S : A → A → Type 0} (grammar : Reader A) → Alike (Near (length text)) S grammar grammar → (g : Fault) → Faulty (Early (length text)) g → Rejects R (checked grammar rules text g)
  unfolding checked
  checked_rejects {S} grammar h clear k = shaped_rejects S (grammar (lex text)) (h.each (lex text) (lex text) (lex_both text))
  checked_rejects grammar h (fault n p) k = early n p k

  fitted_rejects : (layout : A → List ℤ) (room : ℕ) (o : Outcome A) → Anywhere R 17 → Rejects R o → Rejects R (fitted layout room o)
  unfolding fitted
  fitted_rejects layout room (rejected n p) t h = h
  fitted_rejects layout room (accepted a) t h = go (leb (length (layout a)) room)
    where
      go : (v : Bool) → Rejects {A = A} R (elim v as (λ x. Outcome A) [ true ↦ accepted a | false ↦ rejected 17 (length (layout a)) ])
      go true = tt
      go false = t (length (layout a))

  answer_rejects : {S : A → A → Type 0} (f : Format) (grammar : Reader A) (layout : A → List ℤ) (room : ℕ) → Alike (Near (length text)) S grammar grammar → Anywhere R 17 → Rejects R (fitted layout room (outcome f grammar rules text))
  unfolding outcome
  answer_rejects f grammar layout room h t = fitted_rejects layout room _ t (checked_rejects grammar h (text_fault f text) (text_early f text))

-- ---- the refusals of one file

module _ (numbers text : List ℕ) where
  -- 1 to 7, of which every file has all
  early_refusal : (more : List ℕ) → numbers ≡ early_numbers ++ more → (n p : ℕ) → Early (length text) n p → Refusal numbers text n p
  early_refusal more e n p h = record { number = rw e (among_more n early_numbers more h.number); place = λ _. h.place }

  late_refusal : (n : ℕ) → is_among n numbers ≡ true → 7 < n → Anywhere (Refusal numbers text) n
  late_refusal n e h p = record { number = e; place = λ k. absurd (omega arith) }

module _ (text : List ℕ) (room : ℕ) where
  figure_rejects : Rejects (Refusal figure_numbers text) (figure_answer text room)
  unfolding figure_answer figure_outcome is_among figure_numbers
  figure_rejects =
      let late = late_refusal figure_numbers text in
      answer_rejects text (Refusal figure_numbers text) (early_refusal figure_numbers text _ refl) figure_fault
      (λ f. figure_faulty _ f (late 8 refl (omega arith)) (late 9 refl (omega arith)) (late 10 refl (omega arith)) (late 11 refl (omega arith)) (late 12 refl (omega arith)) (late 13 refl (omega arith)))
      bac figure figures.layout_of room figure_alike (late 17 refl (omega arith))

  movement_rejects : Rejects (Refusal movement_numbers text) (movement_answer text room)
  unfolding movement_answer movement_outcome is_among movement_numbers
  movement_rejects =
      let late = late_refusal movement_numbers text in
      answer_rejects text (Refusal movement_numbers text) (early_refusal movement_numbers text _ refl) movement_fault
      (λ m. movement_faulty _ m (late 8 refl (omega arith)) (late 14 refl (omega arith)) (late 15 refl (omega arith)) (late 16 refl (omega arith)))
      tra movement movements.layout_of room movement_alike (late 17 refl (omega arith))

  pub figure-refusal : (n p : ℕ) → figure_answer text room ≡ rejected n p → Refusal figure_numbers text n p
  figure-refusal n p e = rw e at figure_rejects

  pub movement-refusal : (n p : ℕ) → movement_answer text room ≡ rejected n p → Refusal movement_numbers text n p
  movement-refusal n p e = rw e at movement_rejects

-- ---- the refusals of a pair

-- where something is not loaded, it is refused with one of R
abbrev pub Refuses : {A : Type 0} → (ℕ → ℕ → ℕ → Type 0) → Loaded A → Type 0
Refuses R (refused n p file) = R n p file
Refuses R (loaded a) = Unit {0}

-- a movement for a figure, by what holds of the movement's own refusals and of those of both
module _ (M : List ℕ) (R : ℕ → ℕ → ℕ → Type 0) (own : (n p : ℕ) → Refusal movement_numbers M n p → R n p 1) (both : (n p : ℕ) → Refusal pair_numbers M n p → R n p 2) where
  rules_refuse : (m : Movement) (g : Fault) → Faulty (Refusal pair_numbers M) g → Refuses R (if_paired m g)
  unfolding if_paired
  rules_refuse m clear h = tt
  rules_refuse m (fault n p) h = both n p h

  outcome_refuses : (names : List (List ℕ)) (groups : ℕ) (o : Outcome Movement) → Rejects (Refusal movement_numbers M) o → Refuses R (with_movement names groups o)
  unfolding with_movement is_among pair_numbers
  outcome_refuses names groups (rejected n p) h = own n p h
  outcome_refuses names groups (accepted m) h =
      let late = late_refusal pair_numbers M in
      rules_refuse m (pair_fault names groups m) (pair_faulty _ names groups m (late 18 refl (omega arith)) (late 19 refl (omega arith)) (late 20 refl (omega arith)))

  pub movement_refuses : (names : List (List ℕ)) (groups space : ℕ) → Refuses R (with_movement names groups (movement_answer M space))
  movement_refuses names groups space = outcome_refuses names groups (movement_answer M space) (movement_rejects M space)

module _ (F : List ℕ) (room : ℕ) (M : List ℕ) (space : ℕ) where
  abbrev ByFile : ℕ → ℕ → ℕ → Type 0
  ByFile n p file = Refusal (numbers_of file) (text_of file F M) n p

  with_refuses : (f : Figure) (l : Loaded Movement) → Refuses ByFile l → Refuses ByFile (with_figure f l)
  unfolding with_figure
  with_refuses f (refused n p file) h = h
  with_refuses f (loaded m) h = tt

  paired_refuses : (o : Outcome Figure) → Rejects (Refusal figure_numbers F) o → Refuses ByFile (paired o (movement_answer M space))
  unfolding paired numbers_of text_of
  paired_refuses (rejected n p) h = h
  paired_refuses (accepted f) h = with_refuses f _ (movement_refuses M ByFile (λ n p h. h) (λ n p h. h) (figure_names f) (length f.groups) space)

  pub pair-refusal : (n p file : ℕ) → pair_answer F room M space ≡ refused n p file → Refusal (numbers_of file) (text_of file F M) n p
  unfolding pair_answer
  pair-refusal n p file e = rw e at (paired_refuses (figure_answer F room) (figure_rejects F room))
