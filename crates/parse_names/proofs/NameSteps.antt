-- The reader of a name, by what the next token is.
use mathlib.Core.Path.{◌≡◌, refl, ap, sym, ◌∙◌}
use mathlib.Core.List.{List, ◌∷◌}
use mathlib.Core.Bool.{true, false, true≢false, false≢true}
use Prim.Native.Nat.{ℕ, suc, ◌+◌, ◌≤◌}
use native.Mathlib.Omega.{arith}
use native.Mathlib.Numerals.{add-one}
use lib.ListN.{length}
use Rattle.text_tokens.specs.Tokens.{Token, opening, closing, ending, quoted, plain, Lexeme, lexeme, lex_at, first, bytes_of}
use Rattle.text_tokens.specs.declared.token.Span.{Span}
use Rattle.text_tokens.specs.Internal.Answers.{Next, lexeme_of, span_at, span_of}
use Rattle.text_tokens.proofs.Spans.{after_more}
use Rattle.std.proofs.Common.{Ok}
use Rattle.parse_spec.specs.Readers.{got, refused, after, ◌>>=◌, pure, stop, token_of, closed, Name, absent, name_at, string, optional}
use Rattle.parse_cursor.specs.Internal.Cursors.{reads, from}
use Rattle.text_kinds.specs.Internal.Kinds.{is_quoted}
use Rattle.parse_spec.specs.Internal.Places.{place_of, string_of, name_of, optional_name}
use Rattle.parse_cursor.proofs.Steps.{next_token, next_stop, live}
use Rattle.parse_spec.proofs.Binds.{closed-map}
use Rattle.parse_spec.proofs.Many.{Keeps, takes_keeps, pure_keeps, bind_keeps, closed_keeps, string_takes, optional_keeps}
use Rattle.parse_cursor.proofs.Branches.{optional-map}

-- a span has as many bytes as it says
pub next_length : (text : List ℕ) (at : ℕ) (t : Span) → Next text at t → length (bytes_of (lexeme_of text t).token) ≡ t.length
unfolding span_at span_of first
next_length text at t n = sym (ap (λ (s : Span). s.length) n.is ∙ ap (λ (ms : List Lexeme). length (bytes_of (first ms).token)) n.tokens)

name_yes : (t : Token) (m : Lexeme) (ms : List Lexeme) → is_quoted t ≡ true → name_at t (m ∷ ms) ≡ got (record { at = suc m.offset; bytes = bytes_of t }) ms
unfolding name_at is_quoted bytes_of
name_yes opening m ms e = absurd (false≢true e)
name_yes closing m ms e = absurd (false≢true e)
name_yes ending m ms e = absurd (false≢true e)
name_yes (quoted bs) m ms e = refl
name_yes (plain bs) m ms e = absurd (false≢true e)

name_no : (t : Token) (ms : List Lexeme) → is_quoted t ≡ false → name_at t ms ≡ stop 5 ms
unfolding name_at is_quoted
name_no opening ms e = refl
name_no closing ms e = refl
name_no ending ms e = refl
name_no (quoted bs) ms e = absurd (true≢false e)
name_no (plain bs) ms e = refl

module _ (text : List ℕ) (at : ℕ) (t : Span) (n : Next text at t) where
  string_next : is_quoted (lexeme_of text t).token ≡ true → string (lex_at text at) ≡ got (record { at = suc t.start; bytes = bytes_of (lexeme_of text t).token }) (lex_at text t.end)
  unfolding string token_of lexeme_of lexeme is_quoted
  string_next e = rw n.tokens (name_yes _ _ _ e ∙ rw (after_more text t (live is_quoted refl t.kind _ e)))

  pub string-quoted : is_quoted (lexeme_of text t).token ≡ true → reads text (Ok t.end) (t.start + 1, t.length) ≡ from text (Ok at) string_of
  unfolding from string_of ◌>>=◌ after pure place_of
  string-quoted e = sym (rw (string_next e, next_length text at t n, add-one))

  -- its first byte stands within the text
  pub string-inside : is_quoted (lexeme_of text t).token ≡ true → t.start + 1 ≤ length text
  unfolding lexeme_of lexeme is_quoted
  string-inside e = let m = n.moves (live is_quoted refl t.kind _ e) in omega (arith, n.within)

  pub string-other : is_quoted (lexeme_of text t).token ≡ false → refused 5 t.start ≡ from text (Ok at) string_of
  unfolding from string_of ◌>>=◌ after string
  string-other e = sym (rw (next_token text at t n, name_no _ (lex_at text at) e, next_stop text at t n {A = Name} 5))

-- a name is a string and )
pub name_parts : (ms : List Lexeme) → name_of ms ≡ closed string_of ms
unfolding name_of string_of
name_parts ms = closed-map string place_of ms

pub optional_name_parts : (ms : List Lexeme) → optional_name ms ≡ optional "name" (0, 0) name_of ms
unfolding optional_name name_of place_of absent
optional_name_parts ms = optional-map "name" absent (closed string) place_of ms

pub name_keeps : Keeps optional_name
unfolding optional_name
name_keeps = bind_keeps (optional_keeps "name" absent (closed_keeps (takes_keeps string_takes))) (λ x. pure_keeps (place_of x))
