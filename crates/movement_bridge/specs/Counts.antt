-- A movement's channels by bone and number.
use Rattle.std.specs.Prelude.{[], map, ℕ, get_or}
use Rattle.tra4_text.specs.Movement.{Channel, Bone, Movement}

-- the channel of a number, of the bone of a row
unfoldable pub channel_of : Movement → ℕ → ℕ → Channel
channel_of m bone channel = get_or (get_or (map (λ (b : Bone). b.channels) m.bones) bone []) channel []
