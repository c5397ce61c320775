-- A movement with each of its names exchanged: its own and the bones'.
use Rattle.std.specs.Prelude.{map}
use Rattle.parse_spec.specs.Readers.{Name}
use Rattle.tra4_text.specs.Movement.{Bone, Movement}

unfoldable pub renamed_bone : (Name → Name) → Bone → Bone
renamed_bone h b = record { name = h b.name; channels = b.channels }

unfoldable pub renamed : (Name → Name) → Movement → Movement
renamed h m = record { total_frames = m.total_frames; name = h m.name; bones = map (renamed_bone h) m.bones; patterns = m.patterns }
