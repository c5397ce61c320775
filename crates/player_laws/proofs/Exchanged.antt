-- The order of pattern lines matters among lines of one group and frame alone: two neighbours that are not may be exchanged; by the pass without rows.
use mathlib.Core.Path.{◌≡◌, refl, ap, sym, ◌∙◌}
use mathlib.Core.List.{List, [], ◌∷◌, ◌++◌}
use mathlib.Core.Bool.{Bool, true, false, ◌&&◌, ◌||◌}
use mathlib.Core.Option.{Option, none, some}
use Prim.Native.Nat.{ℕ, suc, ◌≤◌, ◌<◌}
use native.Mathlib.Omega.{arith}
use borrow.Author.Tests.{leb-true, leb-false, le-leb, lt-leb, eqb-true}
use lib.Dec.{leb}
use lib.IntN.{ℤ, nat_abs}
use lib.ListN.{length}
use Rattle.refusal.specs.Faults.{clear}
use Rattle.refusal.specs.FirstBad.{all}
use Rattle.refusal.proofs.Faults.{clear_true, is-clear}
use Rattle.text_numerals.proofs.Numerals.{and_true}
use Rattle.tra4_text.specs.Movement.{Pattern, frame_of, group_of}
use Rattle.tra4_text.specs.Rules.{is_zero, pattern_fine, has_start, patterns_fault}
use Rattle.tra4_text.proofs.Patterns.{patterns_told}
use Rattle.player_spec.specs.Deciding.{line_frame, applies, flag_of, Line, not_after, better, deciding_from, deciding, state_by}
use Rattle.player_spec.proofs.Greatest.{better_yes, better_no}

-- ---- the pass without rows

abbrev line : Option Line → Option Pattern
line none = none
line (some l) = some l.1

module _ (g at : ℕ) where
  unfoldable next : Option Pattern → Pattern → Option Pattern
  next none p = elim (applies g at p) [ true ↦ some p | false ↦ none ]
  next (some b) p = elim (applies g at p && leb (line_frame b) (line_frame p)) [ true ↦ some p | false ↦ some b ]

  unfoldable through : Option Pattern → List Pattern → Option Pattern
  through b [] = b
  through b (p ∷ ps) = through (next b p) ps

  next_none : (b : Option Pattern) (p : Pattern) → applies g at p ≡ false → next b p ≡ b
  unfolding next
  next_none none p a = rw (a, next)
  next_none (some b) p a = rw (a, next)

  next_first : (p : Pattern) → applies g at p ≡ true → next none p ≡ some p
  unfolding next
  next_first p a = rw (a, next)

  next_taken : (b p : Pattern) → applies g at p ≡ true → line_frame b ≤ line_frame p → next (some b) p ≡ some p
  unfolding next
  next_taken b p a h = rw (a, le-leb _ _ h, next)

  next_kept : (b p : Pattern) → line_frame p < line_frame b → next (some b) p ≡ some b
  unfolding next
  next_kept b p h = go (applies g at p) refl
    where
      go : (v : Bool) → applies g at p ≡ v → next (some b) p ≡ some b
      go true a = rw (a, lt-leb (line_frame b) (line_frame p) h, next)
      go false a = rw (a, next)

  line_next : (row : ℕ) (best : Option Line) (p : Pattern) → line (better g at row best p) ≡ next (line best) p
  line_next row none p = go (applies g at p) refl
    where
      go : (v : Bool) → applies g at p ≡ v → line (better g at row none p) ≡ next none p
      go true a = rw (better_yes g at row none p (unfold not_after in (rw a)), next_first p a)
      go false a = rw (better_no g at row none p (rw a), next_none none p a)
  line_next row (some l) p = go (applies g at p) (leb (line_frame l.1) (line_frame p)) refl refl
    where
      go : (v w : Bool) → applies g at p ≡ v → leb (line_frame l.1) (line_frame p) ≡ w → line (better g at row (some l) p) ≡ next (some l.1) p
      go true true a h = rw (better_yes g at row (some l) p (unfold not_after in (rw (a, h))), next_taken l.1 p a (leb-true _ _ h))
      go true false a h = rw (better_no g at row (some l) p (unfold not_after in (rw (a, h))), next_kept l.1 p (leb-false _ _ h))
      go false w a h = rw (better_no g at row (some l) p (rw a), next_none (some l.1) p a)

  line_through : (row : ℕ) (best : Option Line) (ps : List Pattern) → line (deciding_from g at row best ps) ≡ through (line best) ps
  unfolding deciding_from through
  line_through row best [] = refl
  line_through row best (p ∷ ps) = line_through (suc row) (better g at row best p) ps ∙ ap (λ (b : Option Pattern). through b ps) (line_next row best p)

  flagged : Option Pattern → Bool
  flagged none = false
  flagged (some p) = flag_of p

  state-line : (best : Option Line) → state_by best ≡ flagged (line best)
  unfolding state_by flagged
  state-line none = refl
  state-line (some l) = refl

  -- ---- two neighbours

  -- both apply, the one of smaller frame first
  rising : (b : Option Pattern) (p q : Pattern) → applies g at p ≡ true → applies g at q ≡ true → line_frame p < line_frame q → next (next b p) q ≡ next (next b q) p
  rising none p q a c h = rw (next_first p a, next_first q c, next_taken p q c (omega arith), next_kept q p h)
  rising (some b) p q a c h = go (leb (line_frame b) (line_frame p)) (leb (line_frame b) (line_frame q)) refl refl
    where
      go : (v w : Bool) → leb (line_frame b) (line_frame p) ≡ v → leb (line_frame b) (line_frame q) ≡ w → next (next (some b) p) q ≡ next (next (some b) q) p
      go true w e f =
          let u = leb-true _ _ e in
          rw (next_taken b p a u, next_taken b q c (omega arith), next_taken p q c (omega arith), next_kept q p h)
      go false true e f = rw (next_kept b p (leb-false _ _ e), next_taken b q c (leb-true _ _ f), next_kept q p h)
      go false false e f = rw (next_kept b p (leb-false _ _ e), next_kept b q (leb-false _ _ f), next_kept b p (leb-false _ _ e))

  same-group : (p q : Pattern) → applies g at p ≡ true → applies g at q ≡ true → nat_abs (group_of p) ≡ nat_abs (group_of q)
  unfolding applies
  same-group p q a c = eqb-true _ g (and_true _ _ a).0 ∙ sym (eqb-true _ g (and_true _ _ c).0)

  swapped : (b : Option Pattern) (p q : Pattern) → (nat_abs (group_of p) ≡ nat_abs (group_of q) → line_frame p ≡ line_frame q → ⊥) → next (next b p) q ≡ next (next b q) p
  swapped b p q apart = go (applies g at p) (applies g at q) refl refl
    where
      ordered : applies g at p ≡ true → applies g at q ≡ true → (v w : Bool) → leb (line_frame p) (line_frame q) ≡ v → leb (line_frame q) (line_frame p) ≡ w → next (next b p) q ≡ next (next b q) p
      ordered a c true true e f = absurd (apart (same-group p q a c) (let u = leb-true (line_frame p) (line_frame q) e in let x = leb-true (line_frame q) (line_frame p) f in omega arith))
      ordered a c v false e f = rising b p q a c (leb-false _ _ f)
      ordered a c false true e f = sym (rising b q p c a (leb-false _ _ e))

      go : (v w : Bool) → applies g at p ≡ v → applies g at q ≡ w → next (next b p) q ≡ next (next b q) p
      go true true a c = ordered a c (leb (line_frame p) (line_frame q)) (leb (line_frame q) (line_frame p)) refl refl
      go false w a c = rw (next_none b p a, next_none (next b q) p a)
      go true false a c = rw (next_none b q c, next_none (next b p) q c)

  exchanged_from : (b : Option Pattern) (before after : List Pattern) (p q : Pattern) → (nat_abs (group_of p) ≡ nat_abs (group_of q) → line_frame p ≡ line_frame q → ⊥) → through b (before ++ (p ∷ q ∷ after)) ≡ through b (before ++ (q ∷ p ∷ after))
  unfolding through
  exchanged_from b [] after p q apart = ap (λ (x : Option Pattern). through x after) (swapped b p q apart)
  exchanged_from b (x ∷ before) after p q apart = exchanged_from (next b x) before after p q apart

  pub state_exchanged : (before after : List Pattern) (p q : Pattern) → (nat_abs (group_of p) ≡ nat_abs (group_of q) → line_frame p ≡ line_frame q → ⊥) → state_by (deciding g at (before ++ (p ∷ q ∷ after))) ≡ state_by (deciding g at (before ++ (q ∷ p ∷ after)))
  unfolding deciding
  state_exchanged before after p q apart =
      state-line _ ∙ ap flagged (line_through 0 none (before ++ (p ∷ q ∷ after)) ∙ exchanged_from none before after p q apart ∙ sym (line_through 0 none (before ++ (q ∷ p ∷ after)))) ∙ sym (state-line _)

-- ---- and the rule

and_swap : (a b c : Bool) → (a && (b && c)) ≡ (b && (a && c))
and_swap true true c = refl
and_swap true false c = refl
and_swap false true c = refl
and_swap false false c = refl

or_swap : (a b c : Bool) → (a || (b || c)) ≡ (b || (a || c))
or_swap true true c = refl
or_swap true false c = refl
or_swap false true c = refl
or_swap false false c = refl

module _ (total : ℤ) (p q : Pattern) (after : List Pattern) where
  all_swap : (before : List Pattern) → all (pattern_fine total) (before ++ (p ∷ q ∷ after)) ≡ all (pattern_fine total) (before ++ (q ∷ p ∷ after))
  unfolding all
  all_swap [] = and_swap (pattern_fine total p) (pattern_fine total q) (all (pattern_fine total) after)
  all_swap (x ∷ before) = ap (λ (v : Bool). pattern_fine total x && v) (all_swap before)

  start_swap : (before : List Pattern) → has_start (before ++ (p ∷ q ∷ after)) ≡ has_start (before ++ (q ∷ p ∷ after))
  unfolding has_start
  start_swap [] = or_swap (is_zero (frame_of p)) (is_zero (frame_of q)) (has_start after)
  start_swap (x ∷ before) = ap (λ (v : Bool). is_zero (frame_of x) || v) (start_swap before)

  count_swap : (before : List Pattern) → length (before ++ (p ∷ q ∷ after)) ≡ length (before ++ (q ∷ p ∷ after))
  count_swap [] = refl
  count_swap (x ∷ before) = ap suc (count_swap before)

  pub rule_exchanged : (before : List Pattern) → patterns_fault total (before ++ (p ∷ q ∷ after)) ≡ clear → patterns_fault total (before ++ (q ∷ p ∷ after)) ≡ clear
  rule_exchanged before e =
      clear_true (patterns_fault total (before ++ (q ∷ p ∷ after)))
      (patterns_told total (before ++ (q ∷ p ∷ after)) ∙ rw (← count_swap before, ← start_swap before, ← all_swap before) (sym (patterns_told total (before ++ (p ∷ q ∷ after))) ∙ sym (is-clear e)))
