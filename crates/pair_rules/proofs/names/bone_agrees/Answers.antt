-- `bone_agrees` compares the two names of the row.
use Rattle.std.proofs.Common.{◌∙◌}
use mathlib.Core.Path.{ap₂}
use Rattle.pair_text.specs.Rules.{names_agree}
use Rattle.pair_rules.proofs.BoneNames.{figure-part, movement-part}
use Rattle.pair_rules.proofs.names.bone_agrees.Goals as goal

pub returns : goal.returns
returns c = let p = c.requires in
    c.names_agree.ensures
    ∙ ap₂ names_agree
    (c.name_of.ensures ∙ rw (c.figure_name-a.ensures, figure-part _ _ _ p.0 _ p.2))
    (c.name_of-2.ensures ∙ rw (c.movement_name-b.ensures, movement-part _ _ _ p.1 _ p.3))
