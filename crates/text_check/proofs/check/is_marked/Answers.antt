-- `is_marked` is the definition at each format's mark.
use Rattle.text_bytes.specs.Bytes.{bytes}
use Rattle.text_check.specs.Faults.{marked, mark_of}
use Rattle.text_check.specs.Internal.Answers.{format_named}
use Rattle.text_check.proofs.check.is_marked.Goals as goal

pub returns-in-Bac : goal.returns-in-Bac
unfolding marked format_named mark_of bytes
returns-in-Bac c = rw c.in-Bac.is c.has_mark.ensures

pub returns-in-Tra : goal.returns-in-Tra
unfolding marked format_named mark_of bytes
returns-in-Tra c = rw c.in-Tra.is c.has_mark-in-Tra.ensures
