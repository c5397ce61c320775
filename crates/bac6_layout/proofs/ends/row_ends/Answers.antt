-- `row_ends` goes from each list's end to the next.
use Rattle.bac6_layout.proofs.Lays.{ends_are}
use Rattle.bac6_layout.proofs.ends.row_ends.Goals as goal

pub returns : goal.returns
returns c =
    ends_are c.args.n c.args.room _ _ _ _ _ _ _ _
    c.rows_end-textures.ensures c.rows_end-colours.ensures c.rows_end-materials.ensures c.rows_end-points.ensures
    c.rows_end-normals.ensures c.rows_end-bones.ensures c.rows_end-uvs.ensures c.rows_end-faces.ensures
