-- A figure without its names' places.
use Rattle.parse_alike.specs.Internal.Placeless.{placeless_name}
use Rattle.bac6_text.specs.Figure.{Bone, Group, Figure}
use Rattle.bac6_alike.specs.Renamed.{renamed_bone, renamed_group, renamed}

abbrev pub placeless_bone : Bone → Bone
placeless_bone = renamed_bone placeless_name

abbrev pub placeless_group : Group → Group
placeless_group = renamed_group placeless_name

abbrev pub placeless : Figure → Figure
placeless = renamed placeless_name
