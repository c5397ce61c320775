-- Rule 16 by the code's tests: no line, none with frame 0, or the first that breaks its own rule.
use mathlib.Core.Path.{◌≡◌, refl, ap, sym, ◌∙◌}
use mathlib.Core.List.{List, [], ◌∷◌}
use mathlib.Core.Bool.{Bool, true, false, not, ◌&&◌, ◌||◌}
use Prim.Native.Nat.{ℕ, zero, suc, ◌+◌, ◌-◌, ◌/◌, min, ◌≤◌, ◌<◌}
use native.Mathlib.Omega.{arith}
use lib.ListN.{length, take, drop, get_or, length-drop}
use lib.IntN.{ℤ, pos}
use Rattle.refusal.specs.Faults.{clear, fault}
use Rattle.refusal.specs.FirstBad.{all, first_bad}
use Rattle.refusal.proofs.Faults.{is-clear, not-clear}
use Rattle.refusal.proofs.FirstBad.{first_bad-clear}
use Rattle.refusal.specs.Rules.{or_else}
use Rattle.tra4_text.specs.Movement.{frame_of}
use Rattle.tra4_text.specs.Rules.{is_zero, pattern_fine, has_start, start_fault, patterns_fault}
use Rattle.table_columns.specs.Parts.{numbers_at, rows_of}
use Rattle.table_columns.proofs.Parts.{three-at}
use Rattle.table_columns.proofs.Rows.{rows_more, rows_short}
use Rattle.tra4_frames.proofs.Frames.{row_frame}

-- ---- the lines that are whole

pub whole_lines : (n m : ℕ) (t : List ℤ) → m ≡ min n (length t / 3) → rows_of 3 n t ≡ rows_of 3 m t
whole_lines zero zero t e = refl
whole_lines zero (suc m) t e = absurd (omega arith)
whole_lines (suc n) zero t e = rows_short 3 (suc n) t (omega arith) ∙ sym (unfold rows_of in refl)
whole_lines (suc n) (suc m) t e =
    let h : 3 ≤ length t = omega arith in
    rows_more 3 n t h ∙ ap (λ (l : List (List ℤ)). take 3 t ∷ l) (whole_lines n m (drop 3 t) (rw length-drop (omega arith))) ∙ sym (rows_more 3 m t h)

-- ---- all lines

module _ (total : ℤ) (t : List ℤ) where
  pub no_line : (n : ℕ) → n ≡ 0 → first_bad 16 (pattern_fine total) 0 (rows_of 3 n t) ≡ patterns_fault total (rows_of 3 n t)
  unfolding patterns_fault start_fault or_else first_bad rows_of
  no_line n e = rw e

  module _ (h : 3 ≤ length t) where
    pub no_start : (n : ℕ) → 0 < n → has_start (rows_of 3 n t) ≡ false → fault 16 0 ≡ patterns_fault total (rows_of 3 n t)
    unfolding patterns_fault start_fault or_else
    no_start zero o e = absurd (omega arith)
    no_start (suc k) o e = let r = rows_more 3 k t h in rw r (rw (rw r at e))

    pub some_start : (n : ℕ) → has_start (rows_of 3 n t) ≡ true → first_bad 16 (pattern_fine total) 0 (rows_of 3 n t) ≡ patterns_fault total (rows_of 3 n t)
    unfolding patterns_fault start_fault or_else rows_of
    some_start zero e = refl
    some_start (suc k) e = let r = rows_more 3 k t h in rw r (rw (rw r at e))

-- ---- one line, which begins at `base`

pub line_row : (t : List ℤ) (base : ℕ) → 3 ≤ length t - base → take 3 (drop base t) ≡ get_or t base (pos 0) ∷ get_or t (base + 1) (pos 0) ∷ get_or t (base + 2) (pos 0) ∷ []
line_row t base h = unfold numbers_at in three-at t base (omega arith)

-- ---- a line with frame 0 is one that fails the test of all others, so one walk serves both rules

abbrev pub not_start : List ℤ → Bool
not_start p = not (is_zero (frame_of p))

pub row-start : (t : List ℤ) (base : ℕ) (v : Bool) → is_zero (get_or t base (pos 0)) ≡ v → not_start (take 3 (drop base t)) ≡ not v
row-start t base v e = ap not (ap is_zero (row_frame t 3 base (omega arith)) ∙ e)

start-all : (ps : List (List ℤ)) → has_start ps ≡ not (all not_start ps)
unfolding has_start all
start-all [] = refl
start-all (p ∷ ps) = go (is_zero (frame_of p)) (start-all ps)
  where
    go : (v : Bool) → has_start ps ≡ not (all not_start ps) → (v || has_start ps) ≡ not (not v && all not_start ps)
    go true ih = refl
    go false ih = ih

module _ (ps : List (List ℤ)) where
  pub start_none : first_bad 16 not_start 0 ps ≡ clear → has_start ps ≡ false
  start_none e = start-all ps ∙ ap not (sym (first_bad-clear 16 not_start 0 ps) ∙ sym (is-clear e))

  pub start_some : {k row : ℕ} → first_bad 16 not_start 0 ps ≡ fault k row → has_start ps ≡ true
  start_some e = start-all ps ∙ ap not (sym (first_bad-clear 16 not_start 0 ps) ∙ sym (not-clear e))
