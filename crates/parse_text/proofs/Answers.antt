-- The answer to an outcome, over how a format tells and lays one: a refusal leaves the table, and equal outcomes are answered alike.
use mathlib.Core.Path.{◌≡◌, ap, sym, subst, ◌∙◌}
use mathlib.Core.List.{List}
use Prim.Native.Nat.{ℕ}
use lib.IntN.{ℤ}
use lib.ListN.{length}
use Rattle.refusal.specs.Outcomes.{Outcome, rejected, fitted, laid}
use Rattle.parse_text.specs.Internal.Answered.{Answered}
use Rattle.parse_text.proofs.Outcomes.{fitted-rejected, laid-rejected}

module _ {A R : Type 0} (answer_of : Outcome A → R) (layout : A → List ℤ) where
  pub refused-answer : {o : Outcome A} {n p : ℕ} {r : R} → o ≡ rejected n p → r ≡ answer_of (rejected n p) → (table : List ℤ) → Answered answer_of layout o table table r
  refused-answer e a table =
      let f = fitted-rejected layout e (length table) in
      record { answer = a ∙ ap answer_of (sym f); content = laid-rejected layout f table }

  pub same_answer : {o q : Outcome A} {table exit : List ℤ} {r : R} → o ≡ q → Answered answer_of layout o table exit r → Answered answer_of layout q table exit r
  same_answer {table = table} {exit = exit} {r = r} e a = subst (λ (o : Outcome A). Answered answer_of layout o table exit r) e a

  -- as the two clauses of a contract
  pub answer-parts : {o q : Outcome A} {table exit : List ℤ} {r : R} → o ≡ q → Answered answer_of layout q table exit r → (r ≡ answer_of (fitted layout (length table) o)) × (exit ≡ laid layout table (fitted layout (length table) o))
  answer-parts e a = let b = same_answer (sym e) a in (b.answer, b.content)
