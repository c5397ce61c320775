-- `check_text` is the definition, in its order of tests.
use Rattle.std.proofs.Common.{sym, ◌∙◌}
use borrow.Author.Tests.{le-leb, lt-leb}
use Rattle.text_check.specs.Faults.{text_fault}
use Rattle.text_check.proofs.check.check_text.Goals as goal

pub returns-then-text-gt65536 : goal.returns-then-text-gt65536
unfolding text_fault
returns-then-text-gt65536 c = rw (lt-leb _ 65536 c.if-text-gt65536.true, text_fault)

pub returns-then-not-is_marked : goal.returns-then-not-is_marked
unfolding text_fault
returns-then-not-is_marked c = rw (le-leb _ 65536 c.if-text-gt65536.false, sym c.is_marked.ensures ∙ c.if-not-is_marked.true, text_fault)

pub returns : goal.returns
unfolding text_fault
returns c = rw (le-leb _ 65536 c.if-text-gt65536.false, sym c.is_marked.ensures ∙ c.if-not-is_marked.false, text_fault) c.first_fault.ensures
