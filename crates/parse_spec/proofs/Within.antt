-- Tokens and names stand within their text: a name's place and length are at most the text's length, whatever the text.
use mathlib.Core.Path.{◌≡◌, refl}
use mathlib.Core.List.{List, [], ◌∷◌}
use Prim.Native.Nat.{ℕ, zero, suc, ◌+◌, ◌≤◌}
use native.Mathlib.Omega.{arith}
use lib.ListN.{length, drop, length-drop}
use Rattle.text_bytes.specs.Bytes.{Class, blank, opener, closer, quote, semicolon, letter, other, class_of, is_letter, in_line, in_string}
use Rattle.text_runs.specs.Runs.{run}
use Rattle.text_bytes.specs.Internal.Every.{Every}
use Rattle.text_tokens.specs.Tokens.{Token, opening, closing, ending, quoted, plain, Lexeme, lexeme, tokens, lex, lex_at, bytes_of}
use Rattle.text_runs.proofs.Runs.{run_length}
use Rattle.parse_spec.specs.Readers.{Name, absent}
use Rattle.parse_spec.proofs.Given.{Naming}

-- ---- tokens within b bytes

-- a token but the last has a byte
unfoldable least : Token → ℕ
least opening = 1
least closing = 1
least ending = 0
least (quoted bs) = 1
least (plain bs) = 1

pub record Within (b : ℕ) (m : Lexeme) : Type 0 where
  begins : m.offset + least m.token ≤ b
  holds : length (bytes_of m.token) ≤ b

tokens-within : (b k p : ℕ) (bs : List ℕ) → p + length bs ≤ b → Every (Within b) (tokens k p bs)
unfolding tokens lexeme bytes_of least
tokens-within b k p [] h = (record { begins = omega arith; holds = omega arith }, tt)
tokens-within b (suc k) p (x ∷ bs) h = tokens-within b k (suc p) bs (omega arith)
tokens-within b zero p (x ∷ bs) h = go (class_of x) refl (λ k. tokens-within b k (suc p) bs (omega arith))
  where
    go : (v : Class) → class_of x ≡ v → ((k : ℕ) → Every (Within b) (tokens k (suc p) bs)) → Every (Within b) (tokens 0 p (x ∷ bs))
    go blank e ih = rw (e, tokens) (ih 0)
    go opener e ih = rw (e, tokens) (record { begins = omega arith; holds = omega arith }, ih 0)
    go closer e ih = rw (e, tokens) (record { begins = omega arith; holds = omega arith }, ih 0)
    go quote e ih = let s = run_length in_string bs in rw (e, tokens) (record { begins = omega arith; holds = omega arith }, ih (suc (length (run in_string bs))))
    go semicolon e ih = rw (e, tokens) (ih (length (run in_line bs)))
    go letter e ih = let s = run_length is_letter bs in rw (e, tokens) (record { begins = omega arith; holds = omega arith }, ih (length (run is_letter bs)))
    go other e ih = rw (e, tokens) (ih 0)

pub lex-within : (text : List ℕ) → Every (Within (length text)) (lex text)
unfolding lex
lex-within text = tokens-within (length text) 0 0 text (omega arith)

pub lex_at-within : (text : List ℕ) (at : ℕ) → Every (Within (length text)) (lex_at text at)
unfolding lex_at
lex_at-within text at = tokens-within (length text) 0 _ (drop at text) (omega (arith, length-drop at text))

-- ---- names

abbrev pub Placed : ℕ → Name → Type 0
Placed b x = (x.at ≤ b) × (length x.bytes ≤ b)

pub absent-placed : (b : ℕ) → Placed b absent
unfolding absent
absent-placed b = (omega arith, omega arith)

pub names-placed : (b : ℕ) → Naming (Within b) (Placed b)
unfolding least bytes_of
names-placed b m bs e w =
    let h : m.offset + least (quoted bs) ≤ b = rw e at w.begins in
    let k : length (bytes_of (quoted bs)) ≤ b = rw e at w.holds in
    (omega arith, k)
