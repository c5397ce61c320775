-- `value_of` is the definition, by what the pass knows.
use Rattle.std.proofs.Common.{ap, ◌∙◌, SFits, w64, rules}
use Rattle.std.proofs.lemmas.Int.{to_z-of_z}
use Rattle.player_channel.specs.Internal.Passing.{fraction}
use Rattle.player_channel.proofs.Asked.{by_last}
use Rattle.player_channel.proofs.channel.value_of.Goals as goal

pub returns : goal.returns
returns c =
    let f : SFits w64 c.args.p.value = search rules in
    ap fraction (rw (to_z-of_z _ _ f) at c.unwrap_or.ensures) ∙ by_last c.args.p
