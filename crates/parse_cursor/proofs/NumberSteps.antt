-- The reader of a number, by what the next token is as a number.
use mathlib.Core.Path.{◌≡◌, refl, ap, sym, ◌∙◌}
use mathlib.Core.List.{List}
use mathlib.Core.Bool.{false}
use Prim.Native.Nat.{ℕ}
use native.Mathlib.Omega.{arith}
use lib.IntN.{ℤ}
use Rattle.text_tokens.specs.Tokens.{lexeme, lex_at}
use Rattle.text_numerals.specs.Numbers.{value, beyond, wrong, Form, refusal_of}
use Rattle.text_tokens.specs.declared.token.Kind.{Kind}
use Rattle.text_tokens.specs.declared.token.Kind.TheVariants.{Opening, Closing, Quoted, Plain, Ending}
use Rattle.text_tokens.specs.declared.token.Span.{Span}
use Rattle.text_tokens.specs.Internal.Answers.{Next, lexeme_of, is_ending, token_of as span_token}
use Rattle.std.proofs.Common.{Ok}
use Rattle.parse_spec.specs.Readers.{got, refused, number, number_in, pure}
use Rattle.parse_cursor.specs.Internal.Cursors.{reads, from}
use Rattle.parse_spec.specs.Internal.Tokens.{token_number}
use Rattle.parse_cursor.proofs.Steps.{next_token, next_stop, next_rest}
use Rattle.parse_spec.proofs.NumberTokens.{number_of}

wrong-value : (z : ℤ) → wrong ≡ value z → ⊥
wrong-value z e = let x : ◌≡◌ {A = ℕ} 0 1 = cc in omega arith

-- the last token is no number
counts : (f : Form) (k : Kind) (bs : List ℕ) (z : ℤ) → token_number f (span_token k bs) ≡ value z → is_ending k ≡ false
unfolding token_number span_token is_ending
counts f Opening bs z e = refl
counts f Closing bs z e = refl
counts f Quoted bs z e = refl
counts f Plain bs z e = refl
counts f Ending bs z e = absurd (wrong-value z e)

-- past the next token, or refused at it
module _ (text : List ℕ) (at : ℕ) (t : Span) (n : Next text at t) (f : Form) where
  number_next : from text (Ok at) (number f) ≡ number_in (token_number f (lexeme_of text t).token) (lex_at text at)
  unfolding from number
  number_next = rw (next_token text at t n) (number_of f _ _)

  pub number-value : (z : ℤ) → token_number f (lexeme_of text t).token ≡ value z → reads text (Ok t.end) z ≡ from text (Ok at) (number f)
  unfolding from number_in lexeme_of lexeme pure
  number-value z e = sym (number_next ∙ rw e (ap (got z) (next_rest text at t n (counts f t.kind _ z e))))

  pub number-beyond : token_number f (lexeme_of text t).token ≡ beyond → refused 6 t.start ≡ from text (Ok at) (number f)
  unfolding number_in refusal_of
  number-beyond e = sym (number_next ∙ rw e (next_stop text at t n 6))

  pub number-wrong : token_number f (lexeme_of text t).token ≡ wrong → refused 5 t.start ≡ from text (Ok at) (number f)
  unfolding number_in refusal_of
  number-wrong e = sym (number_next ∙ rw e (next_stop text at t n 5))
