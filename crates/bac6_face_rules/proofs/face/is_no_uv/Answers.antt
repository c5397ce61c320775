-- `is_no_uv` is the test of the number that it holds.
use Rattle.std.proofs.Common.{rules}
use Rattle.table_references.specs.References.{is_none}
use Rattle.signed.proofs.Tests.{tested}
use Rattle.bac6_face_rules.proofs.face.is_no_uv.Goals as goal

pub returns : goal.returns
returns c = tested is_none c.args.u.0 (search rules) c.is_none.ensures
