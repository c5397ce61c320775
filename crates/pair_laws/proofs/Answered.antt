-- What loading a pair and then playing it answers: the pair's refusal, or what is asked of the two texts. A total of 0 is a refusal's.
use mathlib.Core.Path.{◌≡◌, refl, ap, ◌∙◌}
use mathlib.Core.List.{List}
use mathlib.Core.Option.{Option, none, some}
use Prim.Native.Nat.{ℕ, ◌<◌}
use native.Mathlib.Omega.{arith}
use lib.ListN.{length}
use Rattle.bac6_text.specs.Figure.{Figure}
use Rattle.bac6_text.specs.Layout.{layout_of, name_numbers}
use Rattle.tra4_text.specs.Movement.{Movement}
use Rattle.player_spec.specs.Answers.{numbered}
use Rattle.pair_text.specs.Answer.{Loaded, refused, loaded}
use Rattle.pair_load.specs.Answers.{pair_reply}
use Rattle.pair_load.specs.declared.pair.PairAnswer.{PairAnswer}
use Rattle.pair_laws.specs.Playing.{played}

some_total : (f : Figure) → 0 < length (layout_of f)
unfolding layout_of name_numbers
some_total f = omega arith

module _ {A : Type 0} (asked : Figure → Movement → Option A) where
  pub pair-refused : (l : Loaded (Figure × Movement)) (a : PairAnswer) → a ≡ pair_reply l → a.figure_total ≡ 0 → ◌≡◌ {A = ℕ × ℕ × ℕ × Option A} (a.refusal, a.place, a.file, none) (played l asked)
  unfolding played pair_reply
  pair-refused (refused n p file) a e z = rw e
  pair-refused (loaded (f, m)) a e z = let t : a.figure_total ≡ length (layout_of f) = ap (λ (x : PairAnswer). x.figure_total) e in absurd (omega (arith, some_total f))

pub record Opened (l : Loaded (Figure × Movement)) : Type 0 where
  pub figure : Figure
  pub movement : Movement
  pub is : l ≡ loaded (figure, movement)

pub pair-loaded : (l : Loaded (Figure × Movement)) (a : PairAnswer) → a ≡ pair_reply l → (a.figure_total ≡ 0 → ⊥) → Opened l
unfolding pair_reply
pair-loaded (refused n p file) a e z = absurd (z (ap (λ (x : PairAnswer). x.figure_total) e))
pair-loaded (loaded (f, m)) a e z = record { figure = f; movement = m; is = refl }

-- the answer of a lookup on what was loaded, from the answer on the texts; its place and file are 0
module _ {A : Type 0} (asked : Figure → Movement → Option A) (l : Loaded (Figure × Movement)) (o : Opened l) (found : Option A) (same : found ≡ asked o.figure o.movement) where
  pub by_texts : numbered found ≡ played l asked
  unfolding played
  by_texts = ap numbered same ∙ rw o.is

  pub told_by : (answer : ℕ × ℕ × ℕ × Option A) (number : ℕ) → number ≡ answer.0 → answer ≡ numbered found → ◌≡◌ {A = ℕ × ℕ × ℕ × Option A} (number, 0, 0, answer.3) (played l asked)
  told_by answer number h e = rw (h, e) (zeros found ∙ by_texts)
    where
      zeros : (x : Option A) → ◌≡◌ {A = ℕ × ℕ × ℕ × Option A} ((numbered x).0, 0, 0, (numbered x).3) (numbered x)
      zeros none = unfold numbered in refl
      zeros (some a) = unfold numbered in refl
