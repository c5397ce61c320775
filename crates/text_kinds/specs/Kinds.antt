-- Tests of a token by its kind.
use Rattle.std.specs.Prelude.{Bool, true, false}
use Rattle.text_tokens.specs.Tokens.{Token, opening, closing, ending, quoted, plain}

unfoldable pub is_opening : Token → Bool
is_opening opening = true
is_opening closing = false
is_opening ending = false
is_opening (quoted bs) = false
is_opening (plain bs) = false

unfoldable pub is_closing : Token → Bool
is_closing opening = false
is_closing closing = true
is_closing ending = false
is_closing (quoted bs) = false
is_closing (plain bs) = false

unfoldable pub is_end : Token → Bool
is_end opening = false
is_end closing = false
is_end ending = true
is_end (quoted bs) = false
is_end (plain bs) = false
