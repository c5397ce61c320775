-- `movement_name` is the definition: the row that the player lends, then its pair.
use Rattle.std.proofs.Common.{◌≡◌, sym, ap, ◌∙◌, length, get_or, ℤ, pos, List, SFits, w64, arith, rules}
use Rattle.std.proofs.lemmas.Bool.Decides.{nat_tests}
use Rattle.std.proofs.lemmas.Int.{to_z-of_z}
use Rattle.table_bones.specs.Internal.Bones.{movement_bone}
use Rattle.player_names.specs.Names.{name_span}
use Rattle.player_names.proofs.Spans.{movement_none, movement-pair}
use Rattle.player_names.proofs.names.movement_name.Goals as goal
use Rattle.player_names.proofs.names.movement_name.Goals.{Else-is_empty}

pub returns-then-is_empty : goal.returns-then-is_empty
returns-then-is_empty c = movement_none _ _ _ _ (ap length (sym c.movement_bone-row.ensures) ∙ grind (arith, nat_tests))

-- the row is there
there : (c : Else-is_empty) → length (movement_bone c.args.m c.args.moves.now c.args.bone) ≡ 0 → ⊥
there c h = let e = ap length c.movement_bone-row.ensures in grind (arith, nat_tests)

pub returns : goal.returns
returns c =
    let a = c.args in
    let size = length a.movement.now in
    let row = c.movement_bone-row.result.now in
    let f : SFits w64 (get_or row 0 (pos 0)) = search rules in
    let g : SFits w64 (get_or row 1 (pos 0)) = search rules in
    (rw (to_z-of_z _ _ f, to_z-of_z _ _ g) at c.name_span.ensures)
    ∙ ap (λ (r : List ℤ). name_span size (get_or r 0 (pos 0)) (get_or r 1 (pos 0))) c.movement_bone-row.ensures
    ∙ movement-pair size _ _ _ (there (goal.at.returns c).Else-is_empty)
