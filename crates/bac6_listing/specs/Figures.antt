-- A figure's listing (document 01, "Listing"): its lists' words, how many numbers a row has, how many rows there are.
use Rattle.std.specs.Prelude.{List, [], ◌∷◌, ℕ, ℤ}
use Rattle.text_bytes.specs.Bytes.{bytes}
use Rattle.report_lists.specs.Lists.{RowList, row_list, listing_lines, text_of}
use Rattle.bac6.specs.declared.setting.FigureAnswer.{FigureAnswer}
use Rattle.table_counts.specs.declared.counts.FigureCounts.{FigureCounts}

-- in the table's order; an owner for each point
unfoldable pub figure_lists : FigureCounts → List RowList
figure_lists n =
    row_list (bytes "name") 2 1
    ∷ row_list (bytes "texture") 2 n.textures
    ∷ row_list (bytes "colour") 3 n.colours
    ∷ row_list (bytes "material") 9 n.materials
    ∷ row_list (bytes "point") 3 n.points
    ∷ row_list (bytes "normal") 3 n.normals
    ∷ row_list (bytes "bone") 14 n.bones
    ∷ row_list (bytes "owner") 1 n.points
    ∷ row_list (bytes "uv") 2 n.uvs
    ∷ row_list (bytes "face") 11 n.faces
    ∷ row_list (bytes "group") 2 n.groups
    ∷ []

-- the total and the lists; or a refusal's number and place
unfoldable pub figure_lines : FigureAnswer → List ℤ → List (List ℕ)
figure_lines a zs = listing_lines (bytes "figure") a.refusal a.place a.total (figure_lists a.counts) zs

unfoldable pub figure_text : FigureAnswer → List ℤ → List ℕ
figure_text a zs = text_of (figure_lines a zs)
