-- What a token is where a number is wanted.
use Rattle.text_tokens.specs.Tokens.{Token, opening, closing, ending, quoted, plain}
use Rattle.text_numerals.specs.Numbers.{Number, wrong, Form, number_of}

-- what a token is where a number is wanted
unfoldable pub token_number : Form → Token → Number
token_number f opening = wrong
token_number f closing = wrong
token_number f ending = wrong
token_number f (quoted bs) = wrong
token_number f (plain bs) = number_of f bs
