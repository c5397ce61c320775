-- `with_end` adds the index after the rows, or passes a refusal on.
use Rattle.std.proofs.lemmas.Result.{err_from_is_err_and}
use Rattle.bac6_section.specs.Internal.Answers.{listed_at}
use Rattle.bac6_section.proofs.rows.with_end.Goals as goal

pub returns-in_err-count : goal.returns-in_err-count
unfolding listed_at
returns-in_err-count c = let p = err_from_is_err_and c.from_residual.result c.from_residual.ensures.1 in rw (c.in_err-count.was, p.1, p.2)

pub returns : goal.returns
unfolding listed_at
returns c = rw (c.in_ok-count.was, c.rows_end.ensures)
