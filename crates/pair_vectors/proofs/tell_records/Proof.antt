-- `tell_records` goes on to the next record, which lies past its start.
use Prim.Native.Nat.{◌-◌}
use lib.ListN.{length}
use borrow.Author.Rules.{rules}
use Rattle.pair_vectors.proofs.tell_records.Statement.{statement}
use Rattle.pair_vectors.proofs.tell_records.Tie as tie

abbrev invariant-loop : tie.invariant-loop-at
invariant-loop text at₀ at = Unit {0}

abbrev decreases-loop : tie.decreases-loop-at
decreases-loop text at₀ at = length text - at

loop-holds : tie.Need-loop-at-init invariant-loop decreases-loop
loop-holds c = search rules

tell-record-requires : tie.Need-tell_record-at-requires invariant-loop decreases-loop
tell-record-requires c κs = search rules

loop-less : tie.Need-loop-at-smaller invariant-loop decreases-loop
loop-less c = search rules

loop-again : tie.Need-loop-at-preserved invariant-loop decreases-loop
loop-again c = search rules

returns : tie.Need-returns invariant-loop decreases-loop
returns c = search rules

pub tell_records_spec : {M : Type 1} → statement M
tell_records_spec = tie.close (tie.spec invariant-loop decreases-loop loop-holds tell-record-requires loop-less loop-again returns)
