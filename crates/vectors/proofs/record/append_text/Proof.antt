-- `append_text`: each turn passes a byte of the record.
use Prim.Native.Nat.{◌-◌}
use lib.ListN.{length}
use native.Mathlib.Omega.{arith}
use borrow.Author.Rules.{rules}
use Rattle.vectors.proofs.record.append_text.Statement.{statement}
use Rattle.vectors.proofs.record.append_text.Lts.{then-b-eq92, else-b-eq92}
use Rattle.vectors.proofs.record.append_text.Tie as tie

abbrev invariant-loop : tie.invariant-loop-i
invariant-loop buf₀ n input at bytes filled₀ i₀ buf filled i = Unit {0}

abbrev decreases-loop : tie.decreases-loop-i
decreases-loop buf₀ n input at bytes filled₀ i₀ buf filled i = length bytes - i

run-end-requires : tie.Need-run_end-requires invariant-loop decreases-loop
run-end-requires c κs = search rules

part-requires : tie.Need-part-bytes-requires invariant-loop decreases-loop
part-requires c κs = search rules

loop-holds : tie.Need-loop-i-init invariant-loop decreases-loop
loop-holds c = search rules

returns : tie.Need-returns-then-filled-ge65600 invariant-loop decreases-loop
returns c = search rules

shared-slice-read-b : tie.Need-bounds-bytes-i invariant-loop decreases-loop
shared-slice-read-b c = search rules

add-i : tie.Need-overflow_add-i invariant-loop decreases-loop
add-i c = search rules

byte-requires : tie.Need-byte-requires invariant-loop decreases-loop
byte-requires c κs = search rules

digit-requires : tie.Need-digit-requires invariant-loop decreases-loop
digit-requires c κs = search rules

mul-buf : tie.Need-overflow_mul-buf invariant-loop decreases-loop
mul-buf c = search rules

add-byte : tie.Need-overflow_add-i-then-b-eq92 invariant-loop decreases-loop
add-byte c = search rules

byte-requires-2 : tie.Need-byte-requires-then-b-eq92 invariant-loop decreases-loop
byte-requires-2 c κs = search rules

digit-requires-2 : tie.Need-digit-requires-then-b-eq92 invariant-loop decreases-loop
digit-requires-2 c κs = search rules

add-buf : tie.Need-overflow_add-buf invariant-loop decreases-loop
add-buf c = search rules

element-write-buf : tie.Need-bounds-buf-filled invariant-loop decreases-loop
element-write-buf c = search rules

add-i-2 : tie.Need-overflow_add-i-then-b-eq92-2 invariant-loop decreases-loop
add-i-2 c = search rules

element-write-buf-2 : tie.Need-bounds-buf-filled-else-b-eq92 invariant-loop decreases-loop
element-write-buf-2 c = search rules

add-filled : tie.Need-overflow_add-filled invariant-loop decreases-loop
add-filled c = search rules

loop-less : tie.Need-loop-i-smaller invariant-loop decreases-loop
loop-less c = elim c.if-b-eq92.branch [ then-b-eq92 w ↦ omega arith | else-b-eq92 w ↦ omega arith ]

loop-again : tie.Need-loop-i-preserved invariant-loop decreases-loop
loop-again c = search rules

returns-2 : tie.Need-returns invariant-loop decreases-loop
returns-2 c = search rules

pub append_text_spec : {M : Type 1} → statement M
append_text_spec = tie.close (tie.spec invariant-loop decreases-loop run-end-requires part-requires loop-holds returns shared-slice-read-b add-i byte-requires digit-requires mul-buf add-byte byte-requires-2 digit-requires-2 add-buf element-write-buf add-i-2 element-write-buf-2 add-filled loop-less loop-again returns-2)
