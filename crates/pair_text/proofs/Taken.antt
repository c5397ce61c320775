-- A pair is loaded exactly where both texts are taken and no rule of pairs is broken, by going back through the answer's steps.
use mathlib.Core.Path.{◌≡◌, refl, ap}
use mathlib.Core.List.{List}
use Prim.Native.Nat.{ℕ}
use native.Mathlib.Omega.{arith}
use lib.ListN.{length}
use Rattle.refusal.specs.Faults.{Fault, clear, fault}
use Rattle.refusal.specs.Outcomes.{Outcome, rejected, accepted}
use Rattle.refusal.proofs.Rules.{or-first, or_second}
use Rattle.bac6_text.specs.Figure.{Figure}
use Rattle.tra4_text.specs.Movement.{Movement}
use Rattle.pair_text.specs.Rules.{figure_names, movement_names, bones_fault, names_fault, groups_fault, pair_fault}
use Rattle.pair_text.specs.Answer.{Loaded, refused, loaded, if_paired, with_movement, with_figure, paired}

pub refused-not : {A : Type 0} (n p file : ℕ) (a : A) → refused n p file ≡ loaded a → ⊥
refused-not n p file a e = let z : ◌≡◌ {A = ℕ} 0 1 = cc in omega (arith, z)

pub record PairTaken (o : Outcome Figure) (q : Outcome Movement) (f : Figure) (m : Movement) : Type 0 where
  pub figure : o ≡ accepted f
  pub movement : q ≡ accepted m
  pub rules : pair_fault (figure_names f) (length f.groups) m ≡ clear

module _ (names : List (List ℕ)) (groups : ℕ) where
  abbrev pub Half : Outcome Movement → Movement → Type 0
  Half q m = (q ≡ accepted m) × (pair_fault names groups m ≡ clear)

  ruled_back : (k m : Movement) (g : Fault) → pair_fault names groups k ≡ g → if_paired k g ≡ loaded m → Half (accepted k) m
  unfolding if_paired
  ruled_back k m clear h e = let q : m ≡ k = cc in (rw q, rw q h)
  ruled_back k m (fault n p) h e = absurd (refused-not n p 2 m e)

  pub half_back : (q : Outcome Movement) (m : Movement) → with_movement names groups q ≡ loaded m → Half q m
  unfolding with_movement
  half_back (rejected n p) m e = absurd (refused-not n p 1 m e)
  half_back (accepted k) m e = ruled_back k m (pair_fault names groups k) refl e

whole_back : (g f : Figure) (l : Loaded Movement) (m : Movement) → with_figure g l ≡ loaded (f, m) → (g ≡ f) × (l ≡ loaded m)
unfolding with_figure
whole_back g f (refused n p file) m e = absurd (refused-not n p file (f, m) e)
whole_back g f (loaded k) m e =
    let q : ◌≡◌ {A = Figure × Movement} (g, k) (f, m) = cc in
    (ap (λ (x : Figure × Movement). x.0) q, ap (λ (x : Figure × Movement). loaded x.1) q)

pub pair-taken : (o : Outcome Figure) (q : Outcome Movement) (f : Figure) (m : Movement) → paired o q ≡ loaded (f, m) → PairTaken o q f m
unfolding paired
pair-taken (rejected n p) q f m e = absurd (refused-not n p 0 (f, m) e)
pair-taken (accepted g) q f m e =
    let b = whole_back g f (with_movement (figure_names g) (length g.groups) q) m e in
    let s : g ≡ f = b.0 in
    let h = half_back (figure_names g) (length g.groups) q m b.1 in
    record { figure = ap accepted s; movement = h.0; rules = rw s at h.1 }

pub pair_loads : {o : Outcome Figure} {q : Outcome Movement} {f : Figure} {m : Movement} → PairTaken o q f m → paired o q ≡ loaded (f, m)
unfolding paired with_figure with_movement if_paired
pair_loads t = rw (t.figure, t.movement, paired, with_movement, t.rules)

-- ---- each rule, where none is broken

module _ (names : List (List ℕ)) (groups : ℕ) (m : Movement) (e : pair_fault names groups m ≡ clear) where
  pub groups-kept : groups_fault groups m.patterns ≡ clear
  unfolding pair_fault
  groups-kept = or_second (names_fault 0 names (movement_names m)) _ (or_second (bones_fault (length names) (length m.bones)) _ e)

  pub bones-kept : bones_fault (length names) (length m.bones) ≡ clear
  unfolding pair_fault
  bones-kept = or-first _ _ e
