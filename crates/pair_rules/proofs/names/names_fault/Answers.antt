-- Each step by the law of the rows that are left.
use Rattle.std.proofs.Common.{refl, sym, ◌∙◌}
use Rattle.pair_rules.proofs.Turns.{names-all, names_more, names_differ, names_end}
use Rattle.pair_rules.proofs.names.names_fault.Goals as goal

pub loop-row-init : goal.loop-row-init
loop-row-init c = record { bones = refl; left = names-all _ _ _ _ c.requires.2 }

pub returns-then-not-bone_agrees : goal.returns-then-not-bone_agrees
returns-then-not-bone_agrees c = sym (c.loop-row.invariant.left ∙ names_differ _ _ _ _ c.loop-row-test.true (sym c.bone_agrees.ensures ∙ c.if-not-bone_agrees.true))

pub loop-row-preserved : goal.loop-row-preserved
loop-row-preserved c = let i = c.loop-row.invariant in record { bones = i.bones; left = i.left ∙ names_more _ _ _ _ c.loop-row-test.true (sym c.bone_agrees.ensures ∙ c.if-not-bone_agrees.false) }

pub returns : goal.returns
returns c = sym (c.loop-row.invariant.left ∙ names_end _ _ _ _ c.loop-row-test.false)
