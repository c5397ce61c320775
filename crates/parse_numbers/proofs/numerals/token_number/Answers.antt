-- `token_number` is the definition at each kind.
use mathlib.Core.Path.{ap, ◌∙◌}
use mathlib.Core.Logic.{inl, inr}
use Rattle.text_tokens.specs.Tokens.{lexeme}
use Rattle.text_numerals.specs.Numbers.{number_of}
use Rattle.text_tokens.specs.Internal.Answers.{lexeme_of, token_of, held_bytes}
use Rattle.text_numbers.specs.Internal.Answers.{number_named}
use Rattle.parse_spec.specs.Internal.Tokens.{token_number}
use Rattle.parse_numbers.proofs.numerals.token_number.Goals as goal

pub returns-in-Plain : goal.returns-in-Plain
unfolding token_number lexeme_of lexeme token_of held_bytes
returns-in-Plain c = rw c.in-Plain.is (c.word_number.ensures ∙ ap (number_of _) c.part.ensures)

pub returns-in-Opening : goal.returns-in-Opening
unfolding token_number lexeme_of lexeme token_of held_bytes number_named
returns-in-Opening c = elim c.in-Opening.is [ inl e ↦ rw e | inr (inl e) ↦ rw e | inr (inr (inl e)) ↦ rw e | inr (inr (inr e)) ↦ rw e ]
