-- `claims_of` is the fault that the parsed row names, where there is one.
use Rattle.bac6_bones.specs.Internal.Into.{fault_of}
use Rattle.bac6.proofs.reader.claims_of.Goals as goal

pub returns-in-Some : goal.returns-in-Some
unfolding fault_of
returns-in-Some c = rw c.in-Some.is

pub returns-in-None : goal.returns-in-None
unfolding fault_of
returns-in-None c = rw c.in-None.is
