-- `shown` is the definition, by whether an i64 holds the count.
use Rattle.std.proofs.Common.{◌≡◌, ℕ, ℤ, pos, negsuc, Bool, true, false, Result, Ok, Err, refl, sym, ◌∙◌, arith, rules, w64}
use Rattle.std.specs.Result.{OkIff, result_unwrap_or}
use Rattle.std.specs.Prelude.{FitsSigned}
use lib.Dec.{leb}
use borrow.Author.Tests.{leb-true, leb-false}
use Rattle.report_lists.specs.Lists.{shown}
use Rattle.report_lists.proofs.Lists.{shown_small, shown_large}
use Rattle.report_lists.proofs.Texts.{held}
use Rattle.report_lists.proofs.list.shown.Goals as goal

read : {E : Type 0} (n : ℕ) (r : Result ℤ E) → OkIff r (FitsSigned w64 (pos n)) (pos n) → result_unwrap_or r (negsuc 0) ≡ shown n
read n (Ok z) h = h.1 ∙ sym (shown_small n (omega (arith, h.0)))
read n (Err e) h = go (leb n 9223372036854775807) refl
  where
    go : (v : Bool) → leb n 9223372036854775807 ≡ v → negsuc 0 ≡ shown n
    go true s = let k = leb-true _ _ s in let f : FitsSigned w64 (pos n) = search rules in absurd (h f)
    go false s = sym (shown_large n (leb-false _ _ s))

pub returns : goal.returns
returns c = held c.args.n c.unwrap_or.result (c.unwrap_or.ensures ∙ read c.args.n c.try_from.result c.try_from.ensures)
