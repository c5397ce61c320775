-- The refusal of an answer of the code is 0 exactly where the text is taken or the pair is loaded, since no refusal's number is 0.
use mathlib.Core.Path.{◌≡◌, refl, ap, sym, ◌∙◌}
use mathlib.Core.Logic.{◌↔◌}
use mathlib.Core.List.{List}
use mathlib.Core.Option.{Option, none, some}
use Prim.Native.Nat.{ℕ}
use native.Mathlib.Omega.{arith}
use lib.IntN.{ℤ}
use Rattle.refusal.specs.Outcomes.{Outcome, rejected, accepted}
use Rattle.bac6_text.specs.Answer.{figure_answer}
use Rattle.tra4_text.specs.Answer.{movement_answer}
use Rattle.pair_text.specs.Answer.{Loaded, refused, loaded, pair_answer}
use Rattle.bac6.specs.Answers as bac6
use Rattle.tra4.specs.Answers as tra4
use Rattle.table_counts.specs.declared.counts.FigureCounts.{FigureCounts}
use Rattle.player_label.specs.BoneNames.{names_in}
use Rattle.pair_load.specs.Answers.{pair_reply}
use Rattle.pair_movement.specs.Moved.{with_names, moved_answer, moved_reply}
use Rattle.refusal_laws.specs.Numbers.{is_among, Refusal, numbers_of, moved_numbers_of, IsTaken, IsLoaded}
use Rattle.refusal_laws.proofs.Among.{number-not-zero, moved-not-zero}
use Rattle.refusal_laws.proofs.Refusals.{figure-refusal, movement-refusal, Refuses, movement_refuses, pair-refusal}

-- ---- a text

module _ {A : Type 0} (refusal : Outcome A → ℕ) (says : (n p : ℕ) → refusal (rejected n p) ≡ n) (silent : (a : A) → refusal (accepted a) ≡ 0) where
  zero-taken : (o : Outcome A) → ((n p : ℕ) → o ≡ rejected n p → n ≡ 0 → ⊥) → (refusal o ≡ 0) ↔ IsTaken o
  zero-taken (rejected n p) h = (λ e. absurd (h n p refl (sym (says n p) ∙ e)), λ t. ap refusal t.1 ∙ silent t.0)
  zero-taken (accepted a) h = (λ e. (a, refl), λ t. silent a)

pub figure-zero : (text : List ℕ) (room : ℕ) → ((bac6.answer_of (figure_answer text room)).refusal ≡ 0) ↔ IsTaken (figure_answer text room)
unfolding bac6.answer_of bac6.refused_with numbers_of
figure-zero text room = zero-taken (λ o. (bac6.answer_of o).refusal) (λ n p. refl) (λ f. refl) (figure_answer text room) (λ n p e. number-not-zero n 0 (figure-refusal text room n p e).number)

pub movement-zero : (text : List ℕ) (room : ℕ) → ((tra4.answer_of (movement_answer text room)).refusal ≡ 0) ↔ IsTaken (movement_answer text room)
unfolding tra4.answer_of tra4.refused_with numbers_of
movement-zero text room = zero-taken (λ o. (tra4.answer_of o).refusal) (λ n p. refl) (λ m. refl) (movement_answer text room) (λ n p e. number-not-zero n 1 (movement-refusal text room n p e).number)

-- ---- a pair

module _ {A : Type 0} (refusal : Loaded A → ℕ) (says : (n p file : ℕ) → refusal (refused n p file) ≡ n) (silent : (a : A) → refusal (loaded a) ≡ 0) where
  zero-loaded : (l : Loaded A) → ((n p file : ℕ) → l ≡ refused n p file → n ≡ 0 → ⊥) → (refusal l ≡ 0) ↔ IsLoaded l
  zero-loaded (refused n p file) h = (λ e. absurd (h n p file refl (sym (says n p file) ∙ e)), λ t. ap refusal t.1 ∙ silent t.0)
  zero-loaded (loaded a) h = (λ e. (a, refl), λ t. silent a)

pub pair-zero : (F : List ℕ) (room : ℕ) (M : List ℕ) (space : ℕ) → ((pair_reply (pair_answer F room M space)).refusal ≡ 0) ↔ IsLoaded (pair_answer F room M space)
unfolding pair_reply
pair-zero F room M space = zero-loaded (λ l. (pair_reply l).refusal) (λ n p file. refl) (λ x. refl) (pair_answer F room M space) (λ n p file e. number-not-zero n file (pair-refusal F room M space n p file e).number)

-- ---- a movement, with a figure in a table

module _ (F : List ℕ) (counts : FigureCounts) (table : List ℤ) (M : List ℕ) (space : ℕ) where
  abbrev ByFile : ℕ → ℕ → ℕ → Type 0
  ByFile n p file = Refusal (moved_numbers_of file) M n p

  names-refuse : (names : Option (List (List ℕ))) → Refuses ByFile (with_names names counts.groups (movement_answer M space))
  unfolding with_names moved_numbers_of is_among
  names-refuse none = record { number = refl; place = λ h. omega arith }
  names-refuse (some names) = movement_refuses M ByFile (λ n p h. h) (λ n p h. h) names counts.groups space

  pub moved-refusal : (n p file : ℕ) → moved_answer F counts table M space ≡ refused n p file → Refusal (moved_numbers_of file) M n p
  unfolding moved_answer
  moved-refusal n p file e = rw e at (names-refuse (names_in F counts table))

  pub moved-zero : ((moved_reply (moved_answer F counts table M space)).refusal ≡ 0) ↔ IsLoaded (moved_answer F counts table M space)
  unfolding moved_reply tra4.answer_of
  moved-zero = zero-loaded (λ l. (moved_reply l).refusal) (λ n p file. refl) (λ m. refl) (moved_answer F counts table M space) (λ n p file e. moved-not-zero n file (moved-refusal n p file e).number)
