-- `put_part` puts the part by `put`.
use Rattle.tra4.proofs.Settings.{part_length}
use borrow.Author.Rules.{rules}
use Rattle.tra4.proofs.setting.put_part.Statement.{statement}
use Rattle.tra4.proofs.setting.put_part.Tie as tie

slice-aggregate-put : tie.Need-slice_bounds-put-end
slice-aggregate-put c = part_length _ _ c.requires

put-requires : tie.Need-put-requires
put-requires c κs = search rules

same_length : tie.Need-shape_of-table
same_length c = c.put.auto.table

returns : tie.Need-returns
returns c = c.put.ensures

pub put_part_spec : {M : Type 1} → statement M
put_part_spec = tie.close (tie.spec slice-aggregate-put put-requires same_length returns)
