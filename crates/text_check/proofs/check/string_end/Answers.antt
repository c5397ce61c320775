-- Each step by the law of a string's next byte.
use Rattle.std.proofs.Common.{sym, ◌∙◌, arith, add-one}
use Rattle.text_bytes.specs.Bytes.{is_content}
use Rattle.text_check.proofs.Scanning.{string-closed, string_long, string_stray, string_more, string_open, string-same}
use Rattle.text_check.proofs.check.string_end.Goals as goal

pub loop-i-init : goal.loop-i-init
loop-i-init c = string-same _ _ _ _ _ _ (omega arith) (omega arith)

pub returns-then-b-eq34-clause-meaning : goal.returns-then-b-eq34-clause-meaning
returns-then-b-eq34-clause-meaning c = rw add-one (sym (c.loop-i.invariant ∙ string-closed _ c.loop-i.i c.loop-i-test.true _ _ c.if-b-eq34.true))

pub returns-then-i-quote-ge256-clause-meaning : goal.returns-then-i-quote-ge256-clause-meaning
returns-then-i-quote-ge256-clause-meaning c =
    sym (c.loop-i.invariant ∙ string_long _ c.loop-i.i c.loop-i-test.true _ _ c.if-b-eq34.false (omega arith))

pub returns-then-not-is_between-clause-meaning : goal.returns-then-not-is_between-clause-meaning
unfolding is_content
returns-then-not-is_between-clause-meaning c =
    sym (c.loop-i.invariant ∙ string_stray _ c.loop-i.i c.loop-i-test.true _ _ c.if-b-eq34.false (omega arith) (sym c.is_between.ensures ∙ c.if-not-is_between.true))

pub loop-i-preserved : goal.loop-i-preserved
unfolding is_content
loop-i-preserved c =
    c.loop-i.invariant ∙ string_more _ c.loop-i.i c.loop-i-test.true _ _ c.if-b-eq34.false (omega arith) (sym c.is_between.ensures ∙ c.if-not-is_between.false)
    ∙ string-same _ _ _ _ _ _ (omega arith) (omega arith)

pub returns-clause-meaning : goal.returns-clause-meaning
returns-clause-meaning c = sym (c.loop-i.invariant ∙ string_open _ c.loop-i.i _ _ (omega arith))
