-- `normals_fault` is the definition, by its one test.
use Rattle.std.proofs.Common.{sym}
use Rattle.bac6_rules.proofs.Counts.{normals-same, normals-other}
use Rattle.bac6_rules.proofs.count.normals_fault.Goals as goal

pub returns-then-points-normals : goal.returns-then-points-normals
returns-then-points-normals c = sym (normals-other _ _ c.if-points-normals.true)

pub returns : goal.returns
returns c = sym (normals-same _ _ c.if-points-normals.false)
