-- The readers of a version and of the text's end, by what the next token is.
use mathlib.Core.Path.{◌≡◌, refl, ap, sym, ◌∙◌}
use mathlib.Core.List.{List}
use mathlib.Core.Bool.{true, false, true≢false, false≢true}
use Prim.Native.Nat.{ℕ}
use Rattle.text_tokens.specs.Tokens.{Token, opening, closing, ending, quoted, plain, Lexeme, lexeme, is_keyword}
use Rattle.text_tokens.specs.declared.token.Span.{Span}
use Rattle.text_tokens.specs.Internal.Answers.{Next, lexeme_of}
use Rattle.std.proofs.Common.{Ok, Err}
use Rattle.parse_spec.specs.Readers.{got, pure, stop, rest, version_at, version, text_end}
use Rattle.text_kinds.specs.Internal.Kinds.{is_plain}
use Rattle.text_kinds.specs.Kinds.{is_end}
use Rattle.parse_cursor.specs.Internal.Cursors.{reads, from}
use Rattle.parse_cursor.proofs.Steps.{next_token, next_stop, next_rest, live}

module _ (v : List ℕ) (ms : List Lexeme) where
  version_yes : (t : Token) → is_keyword v t ≡ true → version_at v t ms ≡ got tt (rest ms)
  unfolding version_at is_keyword
  version_yes opening e = absurd (false≢true e)
  version_yes closing e = absurd (false≢true e)
  version_yes ending e = absurd (false≢true e)
  version_yes (quoted bs) e = absurd (false≢true e)
  version_yes (plain bs) e = rw (e, version_at)

  version-other : (t : Token) → is_keyword v t ≡ false → is_plain t ≡ true → version_at v t ms ≡ stop 7 ms
  unfolding version_at is_keyword is_plain
  version-other opening e f = absurd (false≢true f)
  version-other closing e f = absurd (false≢true f)
  version-other ending e f = absurd (false≢true f)
  version-other (quoted bs) e f = absurd (false≢true f)
  version-other (plain bs) e f = rw (e, version_at)

  version_none : (t : Token) → is_plain t ≡ false → version_at v t ms ≡ stop 5 ms
  unfolding version_at is_plain
  version_none opening e = refl
  version_none closing e = refl
  version_none ending e = refl
  version_none (quoted bs) e = refl
  version_none (plain bs) e = absurd (true≢false e)

module _ (text : List ℕ) (at : ℕ) (t : Span) (n : Next text at t) where
  module _ (v : List ℕ) where
    pub version_right : is_keyword v (lexeme_of text t).token ≡ true → reads text (Ok t.end) tt ≡ from text (Ok at) (version v)
    unfolding from version pure lexeme_of lexeme is_keyword
    version_right e = sym (rw (next_token text at t n) (version_yes v _ _ e) ∙ ap (got tt) (next_rest text at t n (live (is_keyword v) refl t.kind _ e)))

    pub version-wrong : is_keyword v (lexeme_of text t).token ≡ false → is_plain (lexeme_of text t).token ≡ true → reads text (Err (record { number = 7; place = t.start })) tt ≡ from text (Ok at) (version v)
    unfolding from version
    version-wrong e f = sym (rw (next_token text at t n) (version-other v _ _ e f) ∙ next_stop text at t n 7)

    pub version_missing : is_plain (lexeme_of text t).token ≡ false → reads text (Err (record { number = 5; place = t.start })) tt ≡ from text (Ok at) (version v)
    unfolding from version
    version_missing e = sym (rw (next_token text at t n) (version_none v _ _ e) ∙ next_stop text at t n 5)

  pub end_here : is_end (lexeme_of text t).token ≡ true → reads text (Ok at) tt ≡ from text (Ok at) text_end
  unfolding from text_end pure
  end_here e = sym (rw (next_token text at t n, e, text_end))

  pub end_later : is_end (lexeme_of text t).token ≡ false → reads text (Err (record { number = 5; place = t.start })) tt ≡ from text (Ok at) text_end
  unfolding from text_end
  end_later e = sym (rw (next_token text at t n, e, text_end) (next_stop text at t n 5))
