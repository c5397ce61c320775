-- Rows laid one after the other are all of them laid at once.
use mathlib.Core.Path.{◌≡◌, refl, ap, sym, ◌∙◌}
use mathlib.Core.List.{List, [], ◌∷◌, ◌++◌}
use Prim.Native.Nat.{ℕ, ◌+◌, min}
use native.Mathlib.Omega.{arith}
use lib.IntN.{ℤ, pos}
use lib.ListN.{length, replicate}
use Rattle.table_rows.specs.Flat.{flat}
use Rattle.table_rows.specs.Internal.Overlay.{overlay_at}
use Rattle.table_rows.proofs.Tables.{overlay_at_none}
use Rattle.table_rows.proofs.Chains.{Laid, laid_next}
use Rattle.parse_rows.proofs.Widths.{Wide, flat-length}
use Rattle.bac6_text.specs.Figure.{Bone, Figure}
use Rattle.bac6_text.specs.Layout.{bone_row, bone_rows}
use Rattle.bac6_text.proofs.Rows.{bones_wide}
use Rattle.bac6_text.proofs.Whole.{WholeFigure}
use Rattle.bac6_faces.specs.Internal.Into.{all_rows}
use Rattle.bac6_faces.proofs.PolygonSteps.{all-rows}
use Rattle.bac6_section.specs.Internal.Lists.{rows_laid}
use Rattle.bac6_shape.specs.Internal.Parse.{blank_bones, row_numbers}

-- rows that have no parent yet
pub blank-rows : (bs : List Bone) → blank_bones bs ≡ bone_rows bs (replicate (length bs) (pos 0))
unfolding blank_bones bone_rows
blank-rows [] = refl
blank-rows (b ∷ bs) = ap (λ (l : List (List ℤ)). bone_row b (pos 0) ∷ l) (unfold blank_bones in blank-rows bs)

-- one list more
more : (t zs : List ℤ) (s : ℕ × List ℤ) (w : ℕ) (rs : List (List ℤ)) → Laid t zs s.1 s.0 → Wide w rs → Laid t (zs ++ flat rs) (rows_laid w s rs).1 (rows_laid w s rs).0
unfolding rows_laid
more t zs s w rs l h = laid_next t zs s.1 s.0 (flat rs) _ _ l refl (ap (λ (n : ℕ). min (s.0 + n) (length s.1)) (sym (flat-length w rs h)))

-- the table after the uvs, and the index after them
abbrev pub front_laid : ℕ × List ℤ → Figure → ℕ × List ℤ
front_laid s f = rows_laid 3 (rows_laid 3 (rows_laid 9 (rows_laid 3 (rows_laid 2 s f.textures) f.colours) f.materials) f.points) f.normals

abbrev pub uvs_laid : ℕ × List ℤ → Figure → ℕ × List ℤ
uvs_laid s f = rows_laid 2 (rows_laid 14 (front_laid s f) (blank_bones f.bones)) f.uvs

pub rows_once : (t : List ℤ) (f : Figure) → WholeFigure f → overlay_at (uvs_laid (0, t) f).0 (flat (all_rows f.polygons f.groups)) (uvs_laid (0, t) f).1 ≡ overlay_at 0 (row_numbers f) t
unfolding row_numbers
rows_once t f w =
    let none : Laid t [] t 0 = (sym (overlay_at_none 0 t), omega arith) in
    let textures = more t _ (0, t) 2 f.textures none w.textures in
    let colours = more t _ _ 3 f.colours textures w.colours in
    let materials = more t _ _ 9 f.materials colours w.materials in
    let points = more t _ _ 3 f.points materials w.points in
    let normals = more t _ _ 3 f.normals points w.normals in
    let bones = more t _ _ 14 (blank_bones f.bones) normals (rw (blank-rows f.bones) (bones_wide f.bones _ w.bones)) in
    let uvs = more t _ _ 2 f.uvs bones w.uvs in
    (laid_next t _ _ _ (flat (all_rows f.polygons f.groups)) _ _ uvs refl refl).0 ∙ rw (all-rows f)
