-- What a movement's text says: lists in text order, no table.
use Rattle.std.specs.Prelude.{List, ℤ, pos, get_or}
use Rattle.parse_spec.specs.Readers.{Name}

-- a key's numbers: its absolute frame, and its value in millionths
abbrev pub Key : Type 0
Key = List ℤ

abbrev pub Channel : Type 0
Channel = List Key

-- a pattern line's numbers: its frame, its group, and its flag as 0 or 1
abbrev pub Pattern : Type 0
Pattern = List ℤ

-- the frame of a key or a pattern line
unfoldable pub frame_of : List ℤ → ℤ
frame_of row = get_or row 0 (pos 0)

unfoldable pub group_of : Pattern → ℤ
group_of p = get_or p 1 (pos 0)

-- `channels` are the ten by number, each known by its keyword (`channel_names`), its keys in text order; one that is left out is empty
pub record Bone : Type 0 where
  pub name : Name
  pub channels : List Channel

pub record Movement : Type 0 where
  pub total_frames : ℤ
  pub name : Name
  pub bones : List Bone
  pub patterns : List Pattern
