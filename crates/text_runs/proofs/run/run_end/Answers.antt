-- Each step by the law of a run at its next byte.
use Rattle.std.proofs.Common.{◌≡◌, ◌≤◌, ◌+◌, ℕ, Bool, true, false, List, length, drop, refl, sym, ◌∙◌, arith, add-one}
use Prim.Native.Nat.{max}
use lib.Dec.{leb}
use borrow.Author.Tests.{leb-true, leb-false}
use Rattle.text_runs.specs.Runs.{run}
use Rattle.text_runs.specs.Internal.Answers.{test_named}
use Rattle.text_runs.proofs.Runs.{run_more, run-stop, run_past}
use Rattle.text_runs.proofs.run.run_end.Goals as goal

-- a run that no byte ends goes to the text's end, and one past that ends where it begins
ends : (t : ℕ → Bool) (text : List ℕ) (from i end : ℕ) → (from ≤ length text → i ≤ length text) → length text ≤ i → end ≡ max from (length text) → from + length (run t (drop from text)) ≡ i + length (run t (drop i text)) → end ≡ from + length (run t (drop from text))
ends t text from i end within past m h = go (leb (length text) from) refl
  where
    go : (v : Bool) → leb (length text) from ≡ v → end ≡ from + length (run t (drop from text))
    go true e = omega (arith, leb-true _ _ e, run_past t text from (leb-true _ _ e))
    go false e = let w = leb-false _ _ e in omega (arith, within (omega arith), run_past t text i past)

pub returns-then-not-belongs : goal.returns-then-not-belongs
returns-then-not-belongs c =
    let a = c.args in
    omega (arith, c.loop-i.invariant, run-stop (test_named a.kind) a.text.now c.loop-i.i c.loop-i-test.true (sym c.belongs.ensures ∙ c.if-not-belongs.true))

pub loop-i-preserved : goal.loop-i-preserved
loop-i-preserved c =
    let a = c.args in
    let more = run_more (test_named a.kind) a.text.now c.loop-i.i c.loop-i-test.true (sym c.belongs.ensures ∙ c.if-not-belongs.false) in
    rw add-one (omega (arith, c.loop-i.invariant, more))

pub returns : goal.returns
returns c = ends (test_named c.args.kind) c.args.text.now c.args.from c.loop-i.i c.max.result c.loop-i.auto.i-end c.loop-i-test.false c.max.ensures c.loop-i.invariant
