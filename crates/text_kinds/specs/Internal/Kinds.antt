-- Tests of a token by its kind: a plain word, and a string.
use Rattle.std.specs.Prelude.{Bool, true, false}
use Rattle.text_tokens.specs.Tokens.{Token, opening, closing, ending, quoted, plain}

unfoldable pub is_plain : Token → Bool
is_plain opening = false
is_plain closing = false
is_plain ending = false
is_plain (quoted bs) = false
is_plain (plain bs) = true

unfoldable pub is_quoted : Token → Bool
is_quoted opening = false
is_quoted closing = false
is_quoted ending = false
is_quoted (quoted bs) = true
is_quoted (plain bs) = false
