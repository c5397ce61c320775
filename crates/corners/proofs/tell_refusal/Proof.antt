-- `tell_refusal` writes what was filled.
use mathlib.Core.Path.{sym}
use Prim.Native.Nat.{◌≤◌}
use native.Mathlib.Omega.{arith}
use lib.ListN.{length}
use lib.Seq.{length-take-le}
use Rattle.report_text.proofs.Appending.{within}
use borrow.Author.Rules.{rules}
use Rattle.corners.proofs.tell_refusal.Statement.{statement}
use Rattle.corners.proofs.tell_refusal.Tie as tie

slice-aggregate-first-line : tie.Need-slice_bounds-first_line-end
slice-aggregate-first-line c = search rules

first-line-requires : tie.Need-first_line-filled-requires
first-line-requires c κs = search rules

-- what is filled lies within the buffer
filled : (c : tie.After-first_line-filled) → c.first_line-filled.result ≤ length c.first_line-filled.new.buf
filled c = (within 0 c.first_line-filled.result _ c.first_line-filled.new.buf _ c.first_line-filled.ensures (omega arith)).0

array-share-prefix-out : tie.Need-slice_bounds-out-end
array-share-prefix-out c = filled c.before

slice-aggregate-write-all : tie.Need-slice_bounds-write_all-end
slice-aggregate-write-all c = let l = c.first_line-filled in sym (length-take-le l.result l.new.buf (filled c.before.before))

write-all-requires : tie.Need-write_all-requires
write-all-requires c κs = search rules

returns : tie.Need-returns
returns c = search rules

pub tell_refusal_spec : {M : Type 1} → statement M
tell_refusal_spec = tie.close (tie.spec slice-aggregate-first-line first-line-requires array-share-prefix-out slice-aggregate-write-all write-all-requires returns)
