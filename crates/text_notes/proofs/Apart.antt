-- No two tokens of a text share an offset, the text's end among them: each stands after the one before it, by induction on the bytes.
use mathlib.Core.Path.{◌≡◌, refl}
use mathlib.Core.List.{List, [], ◌∷◌}
use Prim.Native.Nat.{ℕ, zero, suc, ◌≤◌, ◌<◌}
use native.Mathlib.Nat.{le_refl}
use native.Mathlib.Omega.{arith}
use lib.ListN.{length}
use Rattle.text_bytes.specs.Bytes.{Class, blank, opener, closer, quote, semicolon, letter, other, class_of, in_line}
use Rattle.text_runs.specs.Runs.{run}
use Rattle.text_tokens.specs.Tokens.{Lexeme, lexeme, tokens, lex}
use Rattle.text_notes.specs.Notes.{token_at}

-- tokens at p or after it, each after the one before it
abbrev Rising : ℕ → List Lexeme → Type 0
Rising p [] = Unit {0}
Rising p (m ∷ ms) = (p ≤ m.offset) × Rising (suc m.offset) ms

sooner : (p : ℕ) (ms : List Lexeme) → Rising (suc p) ms → Rising p ms
sooner p [] r = tt
sooner p (m ∷ ms) r = let h = r.0 in (omega arith, r.1)

-- ---- by number

at_least : (p : ℕ) (ms : List Lexeme) (i : ℕ) → Rising p ms → i < length ms → p ≤ (token_at ms i).offset
unfolding token_at
at_least p [] i r l = absurd (omega arith)
at_least p (m ∷ ms) zero r l = r.0
at_least p (m ∷ ms) (suc i) r l = let h = r.0 in omega (arith, at_least (suc m.offset) ms i r.1 (omega arith))

rising_apart : (p : ℕ) (ms : List Lexeme) (i j : ℕ) → Rising p ms → i < j → j < length ms → (token_at ms i).offset < (token_at ms j).offset
unfolding token_at
rising_apart p [] i j r h l = absurd (omega arith)
rising_apart p (m ∷ ms) i zero r h l = absurd (omega arith)
rising_apart p (m ∷ ms) zero (suc j) r h l = at_least (suc m.offset) ms j r.1 (omega arith)
rising_apart p (m ∷ ms) (suc i) (suc j) r h l = rising_apart (suc m.offset) ms i j r.1 (omega arith) (omega arith)

-- ---- along the bytes

tokens_rise : (k p : ℕ) (bs : List ℕ) → Rising p (tokens k p bs)
unfolding tokens lexeme
tokens_rise k p [] = (le_refl p, tt)
tokens_rise (suc k) p (b ∷ bs) = sooner p (tokens k (suc p) bs) (tokens_rise k (suc p) bs)
tokens_rise zero p (b ∷ bs) = go (class_of b) refl (λ k. tokens_rise k (suc p) bs)
  where
    go : (c : Class) → class_of b ≡ c → ((k : ℕ) → Rising (suc p) (tokens k (suc p) bs)) → Rising p (tokens 0 p (b ∷ bs))
    go blank o ih = rw (o, tokens) (sooner p (tokens 0 (suc p) bs) (ih 0))
    go opener o ih = rw (o, tokens) (le_refl p, ih 0)
    go closer o ih = rw (o, tokens) (le_refl p, ih 0)
    go quote o ih = rw (o, tokens) (le_refl p, ih _)
    go semicolon o ih = rw (o, tokens) (sooner p (tokens (length (run in_line bs)) (suc p) bs) (ih _))
    go letter o ih = rw (o, tokens) (le_refl p, ih _)
    go other o ih = rw (o, tokens) (sooner p (tokens 0 (suc p) bs) (ih 0))

pub words-apart : (text : List ℕ) (i j : ℕ) → i < j → j < length (lex text) → (token_at (lex text) i).offset < (token_at (lex text) j).offset
unfolding lex
words-apart text i j = rising_apart 0 (tokens 0 0 text) i j (tokens_rise 0 0 text)
