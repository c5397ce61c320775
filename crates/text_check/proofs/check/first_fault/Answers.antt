-- Each step by the law of a byte outside strings and comments.
use Rattle.std.proofs.Common.{◌≡◌, ◌+◌, suc, length, drop, true, ℕ, sym, ap, ◌∙◌, arith, add-one}
use Rattle.std.proofs.lemmas.Result.{err_from_is_err_and}
use Rattle.text_bytes.specs.Bytes.{class_of, in_line}
use Rattle.text_bytes.specs.declared.bytes.Class.{Class}
use Rattle.text_bytes.specs.declared.bytes.Class.TheVariants.{Blank, Opener, Closer, Letter}
use mathlib.Core.Logic.{◌⊎◌, ⊎_elim}
use Rattle.text_bytes.specs.Internal.Answers.{class_named}
use Rattle.text_runs.specs.Runs.{run}
use Rattle.text_runs.specs.Internal.Answers.{test_named}
use Rattle.text_check.proofs.Scanning.{passes, fault_pass, fault-other, fault-quote, fault-comment, fault_end}
use Rattle.text_check.proofs.check.first_fault.Goals as goal

-- the byte's class, by name
named : (b : ℕ) (r v : Class) → class_named r ≡ class_of b → r ≡ v → class_of b ≡ class_named v
named b r v c e = sym c ∙ ap class_named e

-- the kinds that are passed one by one
ordinary : (k : Class) → (k ≡ Blank) ⊎ ((k ≡ Opener) ⊎ ((k ≡ Closer) ⊎ (k ≡ Letter))) → passes (class_named k) ≡ true
unfolding passes class_named
ordinary k h = ⊎_elim (λ e. rw e) (⊎_elim (λ e. rw e) (⊎_elim (λ e. rw e) (λ e. rw e))) h

pub returns-in_err-i-in-Quote : goal.returns-in_err-i-in-Quote
unfolding class_named
returns-in_err-i-in-Quote c =
    let p = err_from_is_err_and c.from_residual.result c.from_residual.ensures.1 in
    rw (p.1, p.2) (c.in_err-i-in-Quote.ensures.meaning ∙ sym (c.loop-i.invariant ∙ fault-quote _ _ c.loop-i-test.true (named _ _ _ c.class_of.ensures c.in-Quote.is)))

pub loop-i-smaller-in-Quote : goal.loop-i-smaller-in-Quote
loop-i-smaller-in-Quote c = let a = c.in_ok-i-in-Quote.ensures.progress in omega arith

pub loop-i-preserved-in-Quote : goal.loop-i-preserved-in-Quote
unfolding class_named
loop-i-preserved-in-Quote c =
    c.loop-i.invariant ∙ fault-quote _ _ c.loop-i-test.true (named _ _ _ c.class_of.ensures c.in-Quote.is) ∙ sym c.in_ok-i-in-Quote.ensures.meaning

pub loop-i-preserved-in-Semicolon : goal.loop-i-preserved-in-Semicolon
unfolding class_named test_named
loop-i-preserved-in-Semicolon c =
    let i = c.loop-i.i in
    let end : c.run_end-i.result ≡ suc i + length (run in_line (drop (suc i) c.args.text.now)) = rw (← add-one i) c.run_end-i.ensures in
    c.loop-i.invariant ∙ rw end (fault-comment _ _ c.loop-i-test.true (named _ _ _ c.class_of.ensures c.in-Semicolon.is))

pub returns-in-Other : goal.returns-in-Other
unfolding class_named
returns-in-Other c = sym (c.loop-i.invariant ∙ fault-other _ _ c.loop-i-test.true (named _ _ _ c.class_of.ensures c.in-Other.is))

pub loop-i-preserved : goal.loop-i-preserved
loop-i-preserved c =
    rw add-one (c.loop-i.invariant ∙ fault_pass _ _ c.loop-i-test.true (ap passes (sym c.class_of.ensures) ∙ ordinary _ c.in-Blank.is))

pub returns : goal.returns
returns c = sym (c.loop-i.invariant ∙ fault_end _ _ c.loop-i-test.false)
