-- `has_mark` is the definition, by the laws of a mark.
use Rattle.std.proofs.Common.{◌≡◌, ℕ, List, Bool, take, ap, sym, ◌∙◌}
use borrow.Author.Tests.{le-leb}
use Rattle.text_runs.specs.Runs.{part, same}
use Rattle.text_check.proofs.Scanning.{mark_no, mark_end, mark_byte}
use Rattle.text_check.proofs.check.has_mark.Goals as goal

-- what the comparison says of the first four bytes
taken : (text mark four : List ℕ) (r v : Bool) → four ≡ part text 0 4 → r ≡ same four mark → r ≡ v → same (take 4 text) mark ≡ v
unfolding part
taken text mark four r v p s e = ap (λ (l : List ℕ). same l mark) (sym p) ∙ sym s ∙ e

pub returns-then-text-le4 : goal.returns-then-text-le4
returns-then-text-le4 c = rw (le-leb _ 4 c.if-text-le4.true) (sym (mark_end _ _ (taken _ _ _ _ _ c.part.ensures c.same.ensures c.if-same.true) c.if-text-le4.true))

pub returns-else-text-le4 : goal.returns-else-text-le4
returns-else-text-le4 c = c.is_blank.ensures ∙ sym (mark_byte _ _ (taken _ _ _ _ _ c.part.ensures c.same.ensures c.if-same.true) c.if-text-le4.false)

pub returns-else-same : goal.returns-else-same
returns-else-same c = c.if-same.false ∙ sym (mark_no _ _ (taken _ _ _ _ _ c.part.ensures c.same.ensures c.if-same.false))
