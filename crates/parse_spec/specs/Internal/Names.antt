-- Names that stand in their text.
use Rattle.std.specs.Prelude.{List, ℕ}
use Rattle.text_check.specs.Internal.Strings.{StringAt}
use Rattle.parse_spec.specs.Readers.{Name}

-- a name's bytes are the part of the text that begins at its offset; an absent name's is the empty part at 0
abbrev pub NameStands : List ℕ → Name → Type 0
NameStands text n = StringAt text n.at n.bytes
