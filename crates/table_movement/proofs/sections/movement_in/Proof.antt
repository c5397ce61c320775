-- `movement_in` is the definition: past both tests the sections are those of the counts.
use mathlib.Core.Path.{◌≡◌, refl, ap, sym, ◌∙◌}
use mathlib.Core.Bool.{true}
use native.Mathlib.Omega.{arith}
use borrow.Author.Tests.{not-true, not-false}
use Rattle.table_movement.specs.declared.sections.MovementSections.{MovementSections}
use Rattle.table_movement.specs.Sections.{few_in_movement, movement_end, movement_sections}
use Rattle.table_movement.proofs.Mosts.{movement-within, movement-many, movement-short, movement_there}
use borrow.Author.Rules.{rules}
use Rattle.table_movement.proofs.sections.movement_in.Statement.{statement}
use Rattle.table_movement.proofs.sections.movement_in.Tie as tie

few : (e : tie.Else-not-few_in_movement) → few_in_movement e.args.n ≡ true
few e = sym e.few_in_movement.ensures ∙ not-false _ e.if-not-few_in_movement.false-raw

-- where the sections of the counts end
ends : (m : tie.After-movement_sections-s) → m.movement_sections-s.result.end ≡ movement_end m.args.n
ends m = ap (λ (s : MovementSections). s.end) m.movement_sections-s.ensures ∙ unfold movement_sections in refl

few-in-movement-requires : tie.Need-few_in_movement-requires
few-in-movement-requires c κs = search rules

no-movement-sections-requires : tie.Need-no_movement_sections-requires
no-movement-sections-requires c κs = search rules

returns : tie.Need-returns-then-not-few_in_movement
returns c = c.no_movement_sections.ensures ∙ movement-many _ _ (sym c.few_in_movement.ensures ∙ not-true _ c.if-not-few_in_movement.true-raw)

movement-sections-requires : tie.Need-movement_sections-s-requires
movement-sections-requires c κs = movement-within _ (few c)

no-movement-sections-requires-2 : tie.Need-no_movement_sections-requires-then-table-s
no-movement-sections-requires-2 c κs = search rules

returns-2 : tie.Need-returns-then-table-s
returns-2 c = (let h = c.if-table-s.true in let e = ends c.before.before.before in c.no_movement_sections-then-table-s.ensures ∙ movement-short _ _ (few c.before.before.before.before) (omega arith))

returns-3 : tie.Need-returns
returns-3 c = (let h = c.if-table-s.false in let e = ends c.before.before in c.movement_sections-s.ensures ∙ movement_there _ _ (few c.before.before.before) (omega arith))

pub movement_in_spec : {M : Type 1} → statement M
movement_in_spec = tie.close (tie.spec few-in-movement-requires no-movement-sections-requires returns movement-sections-requires no-movement-sections-requires-2 returns-2 returns-3)
