-- What one step of lexing means for the list of tokens, by induction on the bytes.
use mathlib.Core.Path.{◌≡◌, refl, ap, ◌∙◌}
use mathlib.Core.List.{List, [], ◌∷◌}
use mathlib.Core.Bool.{Bool, true, false}
use Prim.Native.Nat.{ℕ, zero, suc, ◌+◌, ◌≤◌, ◌<◌, zero-le}
use native.Mathlib.Nat.{add-zero, le_of_lt, min-eq_left, min-eq_right}
use native.Mathlib.Omega.{arith}
use lib.ListN.{length, drop, get_or, length-drop, drop_of_length-le}
use lib.Seq.{drop-cons, drop-drop}
use lib.Dec.{leb}
use borrow.Author.Tests.{leb-true, leb-false}
use Rattle.text_bytes.specs.Bytes.{blank, opener, closer, quote, semicolon, letter, other, class_of, is_letter, in_line, in_string}
use Rattle.text_runs.specs.Runs.{run}
use Rattle.text_tokens.specs.Tokens.{Token, opening, closing, ending, quoted, plain, Lexeme, lexeme, tokens, lex, lex_at}

-- bytes passed over
tokens_skip : (k p : ℕ) (bs : List ℕ) → k ≤ length bs → tokens k p bs ≡ tokens 0 (p + k) (drop k bs)
unfolding tokens
tokens_skip zero p bs h = rw add-zero
tokens_skip (suc k) p [] h = absurd (omega arith)
tokens_skip (suc k) p (b ∷ bs) h = tokens_skip k (suc p) bs (omega arith) ∙ ap (λ (q : ℕ). tokens 0 q (drop k bs)) (omega arith)

-- all bytes passed over, and more
tokens-over : (k p : ℕ) (bs : List ℕ) → length bs ≤ k → tokens k p bs ≡ lexeme (p + length bs) ending ∷ []
unfolding tokens
tokens-over k p [] h = rw add-zero
tokens-over zero p (b ∷ bs) h = absurd (omega arith)
tokens-over (suc k) p (b ∷ bs) h = tokens-over k (suc p) bs (omega arith) ∙ ap (λ (q : ℕ). lexeme q ending ∷ []) (omega arith)

-- from the text's end on there is the last token alone
pub lex_at_end : (text : List ℕ) (at : ℕ) → length text ≤ at → lex_at text at ≡ lexeme (length text) ending ∷ []
unfolding lex_at tokens
lex_at_end text at h = rw (drop_of_length-le text h, min-eq_right h)

-- the token at an offset within the text goes by its first byte
module _ (text : List ℕ) (at : ℕ) (h : at < length text) where
  lex_at_byte : lex_at text at ≡ tokens 0 at (get_or text at 0 ∷ drop (suc at) text)
  unfolding lex_at
  lex_at_byte = rw (min-eq_left (le_of_lt h), drop-cons text at 0 h)

  jump : (k : ℕ) → tokens k (suc at) (drop (suc at) text) ≡ lex_at text (suc at + k)
  unfolding lex_at
  jump k = go (leb (suc at + k) (length text)) refl
    where
      near : suc at + k ≤ length text → tokens k (suc at) (drop (suc at) text) ≡ lex_at text (suc at + k)
      near l = tokens_skip k (suc at) (drop (suc at) text) (rw length-drop (omega arith)) ∙ rw (drop-drop k (suc at) text, min-eq_left l)

      far : length text ≤ suc at + k → tokens k (suc at) (drop (suc at) text) ≡ lex_at text (suc at + k)
      far l = tokens-over k (suc at) (drop (suc at) text) (rw length-drop (omega arith)) ∙ rw (lex_at_end text (suc at + k) l, length-drop) (ap (λ (q : ℕ). lexeme q ending ∷ []) (omega arith))

      go : (v : Bool) → leb (suc at + k) (length text) ≡ v → tokens k (suc at) (drop (suc at) text) ≡ lex_at text (suc at + k)
      go true e = near (leb-true _ _ e)
      go false e = far (le_of_lt (leb-false _ _ e))

  -- the same, where the code or a definition counts otherwise
  jump_to : (k n : ℕ) → suc at + k ≡ n → tokens k (suc at) (drop (suc at) text) ≡ lex_at text n
  jump_to k n e = jump k ∙ ap (lex_at text) e

  pub lex_at-blank : class_of (get_or text at 0) ≡ blank → lex_at text at ≡ lex_at text (at + 1)
  unfolding tokens
  lex_at-blank e = lex_at_byte ∙ rw (e, tokens) (jump_to 0 (at + 1) (omega arith))

  pub lex_at-other : class_of (get_or text at 0) ≡ other → lex_at text at ≡ lex_at text (at + 1)
  unfolding tokens
  lex_at-other e = lex_at_byte ∙ rw (e, tokens) (jump_to 0 (at + 1) (omega arith))

  pub lex_at-comment : class_of (get_or text at 0) ≡ semicolon → lex_at text at ≡ lex_at text (suc at + length (run in_line (drop (suc at) text)))
  unfolding tokens
  lex_at-comment e = lex_at_byte ∙ rw (e, tokens) (jump _)

  -- a token, and the tokens from its end on
  followed : (t : Token) (k n : ℕ) → suc at + k ≡ n → lexeme at t ∷ tokens k (suc at) (drop (suc at) text) ≡ lexeme at t ∷ lex_at text n
  followed t k n e = ap (λ (l : List Lexeme). lexeme at t ∷ l) (jump_to k n e)

  pub lex_at-opening : class_of (get_or text at 0) ≡ opener → lex_at text at ≡ lexeme at opening ∷ lex_at text (at + 1)
  unfolding tokens
  lex_at-opening e = lex_at_byte ∙ rw (e, tokens) (followed opening 0 (at + 1) (omega arith))

  pub lex_at-closing : class_of (get_or text at 0) ≡ closer → lex_at text at ≡ lexeme at closing ∷ lex_at text (at + 1)
  unfolding tokens
  lex_at-closing e = lex_at_byte ∙ rw (e, tokens) (followed closing 0 (at + 1) (omega arith))

  pub lex_at-quoted : class_of (get_or text at 0) ≡ quote → lex_at text at ≡ lexeme at (quoted (run in_string (drop (suc at) text))) ∷ lex_at text (at + (length (run in_string (drop (suc at) text)) + 2))
  unfolding tokens
  lex_at-quoted e = lex_at_byte ∙ rw (e, tokens) (followed (quoted (run in_string (drop (suc at) text))) _ _ (omega arith))

  pub lex_at-plain : class_of (get_or text at 0) ≡ letter → lex_at text at ≡ lexeme at (plain (get_or text at 0 ∷ run is_letter (drop (suc at) text))) ∷ lex_at text (at + suc (length (run is_letter (drop (suc at) text))))
  unfolding tokens
  lex_at-plain e = lex_at_byte ∙ rw (e, tokens) (followed (plain (get_or text at 0 ∷ run is_letter (drop (suc at) text))) _ _ (omega arith))

-- a text's tokens are those from its start on
pub lex-start : (text : List ℕ) → lex text ≡ lex_at text 0
unfolding lex lex_at
lex-start text = rw (min-eq_left (zero-le {n = length text}))
