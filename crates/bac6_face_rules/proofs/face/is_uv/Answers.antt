-- `is_uv` is the test of the number that it holds.
use Rattle.std.proofs.Common.{rules}
use Rattle.table_references.specs.References.{is_row}
use Rattle.signed.proofs.Tests.{tested}
use Rattle.bac6_face_rules.proofs.face.is_uv.Goals as goal

pub returns : goal.returns
returns c = tested (is_row c.args.uvs) c.args.u.0 (search rules) c.is_row.ensures
