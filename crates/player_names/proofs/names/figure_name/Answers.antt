-- `figure_name` is the definition: the row that the player lends, then its pair.
use Rattle.std.proofs.Common.{◌≡◌, sym, ap, ◌∙◌, length, get_or, ℤ, pos, List, SFits, w64, arith, rules}
use Rattle.std.proofs.lemmas.Bool.Decides.{nat_tests}
use Rattle.std.proofs.lemmas.Int.{to_z-of_z}
use Rattle.table_bones.specs.Internal.Bones.{figure_bone}
use Rattle.player_names.specs.Names.{name_span}
use Rattle.player_names.proofs.Spans.{figure_none, figure-pair}
use Rattle.player_names.proofs.names.figure_name.Goals as goal
use Rattle.player_names.proofs.names.figure_name.Goals.{Else-is_empty}

pub returns-then-is_empty : goal.returns-then-is_empty
returns-then-is_empty c = figure_none _ _ _ _ (ap length (sym c.figure_bone-row.ensures) ∙ grind (arith, nat_tests))

-- the row is there
there : (c : Else-is_empty) → length (figure_bone c.args.n c.args.table.now c.args.bone) ≡ 0 → ⊥
there c h = let e = ap length c.figure_bone-row.ensures in grind (arith, nat_tests)

pub returns : goal.returns
returns c =
    let a = c.args in
    let size = length a.figure.now in
    let row = c.figure_bone-row.result.now in
    let f : SFits w64 (get_or row 12 (pos 0)) = search rules in
    let g : SFits w64 (get_or row 13 (pos 0)) = search rules in
    (rw (to_z-of_z _ _ f, to_z-of_z _ _ g) at c.name_span.ensures)
    ∙ ap (λ (r : List ℤ). name_span size (get_or r 12 (pos 0)) (get_or r 13 (pos 0))) c.figure_bone-row.ensures
    ∙ figure-pair size _ _ _ (there (goal.at.returns c).Else-is_empty)
