-- A span is the next token, from what the tokens at its start are.
use mathlib.Core.Path.{◌≡◌, refl, ap, sym, ◌∙◌}
use mathlib.Core.List.{List, ◌∷◌}
use mathlib.Core.Bool.{Bool, true, false, true≢false}
use Prim.Native.Nat.{ℕ, suc, ◌+◌, ◌≤◌, ◌<◌, min}
use native.Mathlib.Nat.{le_of_lt, min-eq_left, min-eq_right, add-sub_cancel_left}
use native.Mathlib.Omega.{arith}
use lib.Dec.{leb}
use borrow.Author.Tests.{leb-true, leb-false}
use lib.ListN.{length, drop, get_or}
use lib.Seq.{drop-cons}
use Rattle.text_bytes.specs.Bytes.{opener, closer, quote, letter, class_of, is_letter, in_string}
use Rattle.text_runs.specs.Runs.{run, part}
use Rattle.text_tokens.specs.Tokens.{Token, opening, closing, ending, quoted, plain, Lexeme, lexeme, lex_at, first, bytes_of, width_of}
use Rattle.text_tokens.specs.declared.token.Kind.{Kind}
use Rattle.text_tokens.specs.declared.token.Kind.TheVariants.{Ending}
use Rattle.text_tokens.specs.declared.token.Span.{Span}
use Rattle.text_tokens.specs.Internal.Answers.{Next, span_of, span_at, kind_of, token_of, is_ending, held_bytes, lexeme_of, after}
use Rattle.text_runs.proofs.Runs.{run_take, run-within}
use Rattle.text_tokens.proofs.Lexing.{lex_at_end, lex_at-opening, lex_at-closing, lex_at-quoted, lex_at-plain}

-- past the text's end an offset is as good as the end
pub lex_at-min : (text : List ℕ) (at : ℕ) → lex_at text (min at (length text)) ≡ lex_at text at
lex_at-min text at = go (leb at (length text)) refl
  where
    go : (v : Bool) → leb at (length text) ≡ v → lex_at text (min at (length text)) ≡ lex_at text at
    go true e = rw (min-eq_left (leb-true _ _ e))
    go false e = let h = le_of_lt (leb-false _ _ e) in rw (min-eq_right h, lex_at_end text at h, lex_at_end text (length text) (omega arith))

pub token-again : (t : Token) → token_of (kind_of t) (bytes_of t) ≡ t
unfolding token_of kind_of bytes_of
token-again opening = refl
token-again closing = refl
token-again ending = refl
token-again (quoted bs) = refl
token-again (plain bs) = refl

-- after any token but the last stand the tokens from its end on
pub after_more : (text : List ℕ) (s : Span) → is_ending s.kind ≡ false → after text s ≡ lex_at text s.end
unfolding after
after_more text s e = rw (e, after)

-- a token that begins within the text, where the tokens after it are those from its end on
module _ (text : List ℕ) (at : ℕ) (t : Token) (h : at < length text) where
  next_from : is_ending (kind_of t) ≡ false → 0 < width_of t → held_bytes text (kind_of t) at (min (at + width_of t) (length text)) (length (bytes_of t)) ≡ bytes_of t → lex_at text at ≡ lexeme at t ∷ lex_at text (at + width_of t) → Next text at (span_of (length text) (lexeme at t))
  unfolding span_of span_at first lexeme_of lexeme
  next_from n w b e =
      record {
        is = rw e;
        tokens = e ∙ rw (after_more text (span_of (length text) (lexeme at t)) n, b, token-again t, lex_at-min text (at + width_of t));
        within = omega arith;
        moves = λ _. (omega arith, omega arith);
      }

-- a span by its fields
pub spanned : (text : List ℕ) (at : ℕ) (t : Token) (k : Kind) (e l : ℕ) → k ≡ kind_of t → e ≡ min (at + width_of t) (length text) → l ≡ length (bytes_of t) → Next text at (span_of (length text) (lexeme at t)) → Next text at (record { kind = k; start = at; end = e; length = l })
unfolding span_of lexeme
spanned text at t k e l p q r n = rw (p, q, r) n

plain-within : (text : List ℕ) (at : ℕ) → at < length text → at + suc (length (run is_letter (drop (suc at) text))) ≤ length text
plain-within text at h = omega (arith, run-within is_letter text (suc at) h)

-- the four kinds
module _ (text : List ℕ) (at : ℕ) (h : at < length text) where
  pub next_opening : class_of (get_or text at 0) ≡ opener → Next text at (span_of (length text) (lexeme at opening))
  unfolding width_of bytes_of kind_of is_ending held_bytes span_of lexeme
  next_opening e = next_from text at opening h refl (omega arith) refl (lex_at-opening text at h e)

  pub next_closing : class_of (get_or text at 0) ≡ closer → Next text at (span_of (length text) (lexeme at closing))
  unfolding width_of bytes_of kind_of is_ending held_bytes span_of lexeme
  next_closing e = next_from text at closing h refl (omega arith) refl (lex_at-closing text at h e)

  pub next_quoted : class_of (get_or text at 0) ≡ quote → Next text at (span_of (length text) (lexeme at (quoted (run in_string (drop (suc at) text)))))
  unfolding width_of bytes_of kind_of is_ending held_bytes span_of lexeme part
  next_quoted e = next_from text at (quoted (run in_string (drop (suc at) text))) h refl (omega arith) (rw add-sub_cancel_left (run_take in_string (drop (suc at) text))) (lex_at-quoted text at h e)

  pub next_plain : class_of (get_or text at 0) ≡ letter → Next text at (span_of (length text) (lexeme at (plain (get_or text at 0 ∷ run is_letter (drop (suc at) text)))))
  unfolding width_of bytes_of kind_of is_ending held_bytes span_of lexeme part
  next_plain e = next_from text at (plain (get_or text at 0 ∷ run is_letter (drop (suc at) text))) h refl (omega arith) (rw (min-eq_left (plain-within text at h), add-sub_cancel_left, drop-cons text at 0 h) (ap (λ (l : List ℕ). get_or text at 0 ∷ l) (run_take is_letter (drop (suc at) text)))) (lex_at-plain text at h e)

-- past the last token
pub next_ending : (text : List ℕ) (at : ℕ) → length text ≤ at → Next text at (record { kind = Ending; start = length text; end = length text; length = 0 })
unfolding span_at span_of first lexeme lexeme_of token_of kind_of width_of bytes_of after is_ending
next_ending text at h =
    record {
      is = rw (lex_at_end text at h) (spans (length text) (min (length text + 0) (length text)) (omega arith));
      tokens = lex_at_end text at h;
      within = omega arith;
      moves = λ e. absurd (true≢false e);
    }
  where
    spans : (n m : ℕ) → n ≡ m → ◌≡◌ {A = Span} (record { kind = Ending; start = n; end = n; length = 0 }) (record { kind = Ending; start = n; end = m; length = 0 })
    spans n m e = rw e

-- what is passed over before a token changes nothing
pub next_earlier : (text : List ℕ) (at i : ℕ) (r : Span) → lex_at text at ≡ lex_at text i → at ≤ i → Next text i r → Next text at r
unfolding span_at
next_earlier text at i r e l n =
    record {
      is = n.is ∙ ap (λ (ms : List Lexeme). span_of (length text) (first ms)) (sym e);
      tokens = e ∙ n.tokens;
      within = n.within;
      moves = λ m. let s = n.moves m in (omega arith, s.1);
    }
