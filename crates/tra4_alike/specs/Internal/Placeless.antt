-- A movement without its names' places.
use Rattle.parse_alike.specs.Internal.Placeless.{placeless_name}
use Rattle.tra4_text.specs.Movement.{Bone, Movement}
use Rattle.tra4_alike.specs.Renamed.{renamed_bone, renamed}

abbrev pub placeless_bone : Bone → Bone
placeless_bone = renamed_bone placeless_name

abbrev pub placeless : Movement → Movement
placeless = renamed placeless_name
