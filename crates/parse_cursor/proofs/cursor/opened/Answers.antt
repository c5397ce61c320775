-- `opened` is a bracket and then a keyword.
use Rattle.parse_spec.specs.Readers.{opened_of}
use Rattle.parse_cursor.proofs.Steps.{seq}
use Rattle.parse_cursor.proofs.cursor.opened.Goals as goal

pub returns : goal.returns
unfolding opened_of
returns c = seq _ _ _ _ _ _ c.opening.ensures c.keyword.ensures
