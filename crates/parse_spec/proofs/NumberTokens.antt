-- A number by the token that stands for it.
use mathlib.Core.Path.{◌≡◌, refl}
use mathlib.Core.List.{List}
use Rattle.text_tokens.specs.Tokens.{Token, opening, closing, ending, quoted, plain, Lexeme}
use Rattle.text_numerals.specs.Numbers.{Form, refusal_of}
use Rattle.parse_spec.specs.Readers.{number_at, number_in}
use Rattle.parse_spec.specs.Internal.Tokens.{token_number}

pub number_of : (f : Form) (t : Token) (ms : List Lexeme) → number_at f t ms ≡ number_in (token_number f t) ms
unfolding number_at number_in refusal_of token_number
number_of f opening ms = refl
number_of f closing ms = refl
number_of f ending ms = refl
number_of f (quoted bs) ms = refl
number_of f (plain bs) ms = refl
