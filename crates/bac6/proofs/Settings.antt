-- How an outcome is answered, by whether it is a refusal and by whether the table is long enough.
use mathlib.Core.Path.{◌≡◌, ap, ap₂, ◌∙◌}
use mathlib.Core.List.{List, [], ◌∷◌}
use Prim.Native.Nat.{ℕ, ◌≤◌, ◌<◌}
use lib.IntN.{ℤ, pos}
use lib.ListN.{length}
use Rattle.table_rows.specs.Internal.Overlay.{overlay_at}
use Rattle.table_counts.specs.declared.counts.FigureCounts.{FigureCounts}
use Rattle.refusal.specs.Outcomes.{Outcome, rejected, accepted}
use Rattle.parse_text.proofs.Answers.{refused-answer, answer-parts}
use Rattle.parse_text.proofs.Outcomes.{fitted-room, fitted_short, laid-rejected, laid-accepted}
use Rattle.bac6_text.specs.Figure.{Figure}
use Rattle.bac6_text.specs.Rules.{figure_counts}
use Rattle.bac6_text.specs.Layout.{layout_of}
use Rattle.bac6_text.specs.Answer.{figure_outcome, figure_answer, table_after}
use Rattle.refusal.specs.Faults.{Fault}
use Rattle.bac6_bones.specs.Internal.Into.{fault_of}
use Rattle.bac6_shape.specs.declared.shape.Parsed.{Parsed}
use Rattle.bac6_layout.specs.Internal.Numbers.{numbers_of}
use Rattle.bac6_check.specs.Internal.Rows.{rows_fault}
use Rattle.bac6.specs.declared.setting.FigureAnswer.{FigureAnswer}
use Rattle.bac6.specs.Answers.{refused_with, answer_of}
use Rattle.bac6.specs.Internal.Answers.{Answered, laid_numbers}
use Rattle.bac6.specs.Internal.Checks.{rules_fault}

-- ---- the numbers that the code lays, and the rules that it runs

pub named_by : (p : Parsed) (a b : ℤ) (rows owners names table exit : List ℤ) → a ≡ pos p.place → b ≡ pos p.length → exit ≡ overlay_at 0 (numbers_of p.counts (a ∷ b ∷ []) rows owners names) table → exit ≡ overlay_at 0 (laid_numbers p rows owners names) table
unfolding laid_numbers
named_by p a b rows owners names table exit ea eb h = h ∙ rw (ea, eb)

pub rules_by : (p : Parsed) (claims r : Fault) (rows : List ℤ) → claims ≡ fault_of p.fault → r ≡ rows_fault p.counts claims rows → r ≡ rules_fault p rows
unfolding rules_fault
rules_by p claims r rows e h = h ∙ rw e

-- ---- the ways to answer

-- a refusal leaves the table
pub refused_answered : {o : Outcome Figure} {n p : ℕ} {r : FigureAnswer} → o ≡ rejected n p → r ≡ refused_with n p → (table : List ℤ) → Answered o table table r
unfolding answer_of
refused_answered e a table = refused-answer answer_of layout_of e a table

module _ (f : Figure) (table : List ℤ) (total : ℕ) (e : total ≡ length (layout_of f)) where
  -- and so does a table that is too short
  pub short_answered : {r : FigureAnswer} → r ≡ refused_with 17 total → length table < total → Answered (accepted f) table table r
  unfolding answer_of
  short_answered a h =
      let k : length table < length (layout_of f) = rw e at h in
      let s = fitted_short layout_of f (length table) k in
      record { answer = a ∙ ap (refused_with 17) e ∙ rw s; content = laid-rejected layout_of s table }

  pub long_answered : (n : FigureCounts) (exit : List ℤ) → n ≡ figure_counts f → total ≤ length table → exit ≡ overlay_at 0 (layout_of f) table → Answered (accepted f) table exit (record { refusal = 0; place = 0; file = 0; total = total; counts = n })
  unfolding answer_of
  long_answered n exit c h x =
      let k : length (layout_of f) ≤ length table = rw e at h in
      let s = fitted-room layout_of f (length table) k in
      record { answer = ap₂ (λ (t : ℕ) (m : FigureCounts). record { refusal = 0; place = 0; file = 0; total = t; counts = m }) e c ∙ rw s; content = x ∙ rw s (laid-accepted layout_of f table k) }

-- the answer that `read` promises
pub outcome_answered : (text : List ℕ) {o : Outcome Figure} {table exit : List ℤ} {r : FigureAnswer} → figure_outcome text ≡ o → Answered o table exit r → (r ≡ answer_of (figure_answer text (length table))) × (exit ≡ table_after text table)
unfolding figure_answer table_after
outcome_answered text e a = answer-parts answer_of layout_of e a
