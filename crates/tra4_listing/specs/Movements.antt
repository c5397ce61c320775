-- A movement's listing: its lists' words, how many numbers a row has, how many rows there are.
use Rattle.std.specs.Prelude.{List, [], ◌∷◌, ℕ, ℤ}
use Rattle.text_bytes.specs.Bytes.{bytes}
use Rattle.report_lists.specs.Lists.{RowList, row_list, listing_lines, text_of}
use Rattle.tra4.specs.declared.setting.MovementAnswer.{MovementAnswer}
use Rattle.table_counts.specs.declared.counts.MovementCounts.{MovementCounts}

-- in the table's order; the total frames and the name are a row each
unfoldable pub movement_lists : MovementCounts → List RowList
movement_lists n =
    row_list (bytes "frames") 1 1
    ∷ row_list (bytes "name") 2 1
    ∷ row_list (bytes "bone") 22 n.bones
    ∷ row_list (bytes "key") 2 n.keys
    ∷ row_list (bytes "pattern") 3 n.patterns
    ∷ []

-- the total and the lists; or a refusal's number and place
unfoldable pub movement_lines : MovementAnswer → List ℤ → List (List ℕ)
movement_lines a zs = listing_lines (bytes "movement") a.refusal a.place a.total (movement_lists a.counts) zs

unfoldable pub movement_text : MovementAnswer → List ℤ → List ℕ
movement_text a zs = text_of (movement_lines a zs)
