-- Rule 16, said of every line: one has frame 0 if there are any, and each keeps its own rule.
use mathlib.Core.Path.{◌≡◌, refl, ap₂, sym, ◌∙◌}
use mathlib.Core.Logic.{◌↔◌, ◌⊎◌, inl, inr}
use mathlib.Core.List.{List, [], ◌∷◌}
use mathlib.Core.Bool.{Bool, true, false, ◌&&◌, ◌||◌}
use Prim.Native.Nat.{suc}
use native.Mathlib.Omega.{arith}
use borrow.Author.Tests.{eqb-true, eq-eqb, ne_eqb}
use lib.Dec.{eqb}
use lib.ListN.{length}
use lib.IntN.{ℤ}
use Rattle.refusal.specs.Faults.{Fault, clear, fault, is_clear}
use Rattle.refusal.specs.FirstBad.{all, first_bad}
use Rattle.refusal.specs.Rules.{or_else}
use Rattle.refusal.proofs.Faults.{clear_true, is-clear}
use Rattle.refusal.proofs.FirstBad.{first_bad-clear}
use Rattle.text_numerals.proofs.Numerals.{and_true}
use Rattle.tra4_text.specs.Movement.{Pattern}
use Rattle.tra4_text.specs.Rules.{pattern_fine, has_start, start_fault, patterns_fault}

both_clear : (a b : Fault) → is_clear (or_else a b) ≡ (is_clear a && is_clear b)
unfolding or_else is_clear
both_clear clear b = refl
both_clear (fault n p) b = refl

start-clear : (ps : List Pattern) → is_clear (start_fault ps) ≡ (eqb (length ps) 0 || has_start ps)
unfolding start_fault is_clear
start-clear [] = refl
start-clear (p ∷ ps) = rw (ne_eqb (suc (length ps)) 0 (λ e. omega arith)) (go (has_start (p ∷ ps)) refl)
  where
    go : (v : Bool) → has_start (p ∷ ps) ≡ v → is_clear (start_fault (p ∷ ps)) ≡ v
    go true e = rw e
    go false e = rw e

module _ (total : ℤ) where
  pub patterns_told : (ps : List Pattern) → is_clear (patterns_fault total ps) ≡ ((eqb (length ps) 0 || has_start ps) && all (pattern_fine total) ps)
  unfolding patterns_fault
  patterns_told ps = both_clear (start_fault ps) (first_bad 16 (pattern_fine total) 0 ps) ∙ ap₂ ◌&&◌ (start-clear ps) (first_bad-clear 16 (pattern_fine total) 0 ps)

  pub patterns-taken : (ps : List Pattern) → patterns_fault total ps ≡ clear ↔ (((length ps ≡ 0) ⊎ (has_start ps ≡ true)) × (all (pattern_fine total) ps ≡ true))
  patterns-taken ps = (there, back)
    where
      either : (v : Bool) → eqb (length ps) 0 ≡ v → (v || has_start ps) ≡ true → (length ps ≡ 0) ⊎ (has_start ps ≡ true)
      either true e h = inl (eqb-true (length ps) 0 e)
      either false e h = inr h

      there : patterns_fault total ps ≡ clear → ((length ps ≡ 0) ⊎ (has_start ps ≡ true)) × (all (pattern_fine total) ps ≡ true)
      there e =
          let p = and_true (eqb (length ps) 0 || has_start ps) (all (pattern_fine total) ps) (sym (patterns_told ps) ∙ sym (is-clear e)) in
          (either (eqb (length ps) 0) refl p.0, p.1)

      started : (length ps ≡ 0) ⊎ (has_start ps ≡ true) → (eqb (length ps) 0 || has_start ps) ≡ true
      started (inl e) = rw (eq-eqb (length ps) 0 e)
      started (inr e) = rw e (or_true (eqb (length ps) 0))
        where
          or_true : (v : Bool) → (v || true) ≡ true
          or_true true = refl
          or_true false = refl

      back : ((length ps ≡ 0) ⊎ (has_start ps ≡ true)) × (all (pattern_fine total) ps ≡ true) → patterns_fault total ps ≡ clear
      back h = clear_true (patterns_fault total ps) (patterns_told ps ∙ rw (started h.0, h.1))

  -- the place: row 0 where there are lines and none has frame 0, else the first line that breaks its own rule
  pub startless : (p : Pattern) (ps : List Pattern) → has_start (p ∷ ps) ≡ false → patterns_fault total (p ∷ ps) ≡ fault 16 0
  unfolding patterns_fault start_fault or_else
  startless p ps e = rw e

  pub started : (ps : List Pattern) → has_start ps ≡ true → patterns_fault total ps ≡ first_bad 16 (pattern_fine total) 0 ps
  unfolding patterns_fault start_fault or_else
  started [] e = refl
  started (p ∷ ps) e = rw e
