-- How many tokens there are: at most one a byte, and the last.
use mathlib.Core.Path.{◌≡◌, refl}
use mathlib.Core.List.{List, [], ◌∷◌}
use Prim.Native.Nat.{ℕ, zero, suc, ◌≤◌, ◌<◌, min}
use native.Mathlib.Omega.{arith}
use lib.ListN.{length, drop, length-drop}
use Rattle.text_bytes.specs.Bytes.{Class, blank, opener, closer, quote, semicolon, letter, other, class_of, is_letter, in_line, in_string}
use Rattle.text_runs.specs.Runs.{run}
use Rattle.text_tokens.specs.Tokens.{tokens, lex_at}

-- at most one token a byte, and the last
tokens_count : (k p : ℕ) (bs : List ℕ) → (0 < length (tokens k p bs)) × (length (tokens k p bs) ≤ suc (length bs))
unfolding tokens
tokens_count k p [] = (omega arith, omega arith)
tokens_count (suc k) p (b ∷ bs) = let h = tokens_count k (suc p) bs in (h.0, omega arith)
tokens_count zero p (b ∷ bs) = go (class_of b) refl (λ k. tokens_count k (suc p) bs)
  where
    go : (v : Class) → class_of b ≡ v → ((k : ℕ) → (0 < length (tokens k (suc p) bs)) × (length (tokens k (suc p) bs) ≤ suc (length bs))) → (0 < length (tokens 0 p (b ∷ bs))) × (length (tokens 0 p (b ∷ bs)) ≤ suc (suc (length bs)))
    go blank e ih = let h = ih 0 in rw (e, tokens) (h.0, omega arith)
    go opener e ih = let h = ih 0 in rw (e, tokens) (omega arith, omega arith)
    go closer e ih = let h = ih 0 in rw (e, tokens) (omega arith, omega arith)
    go quote e ih = let h = ih (suc (length (run in_string bs))) in rw (e, tokens) (omega arith, omega arith)
    go semicolon e ih = let h = ih (length (run in_line bs)) in rw (e, tokens) (h.0, omega arith)
    go letter e ih = let h = ih (length (run is_letter bs)) in rw (e, tokens) (omega arith, omega arith)
    go other e ih = let h = ih 0 in rw (e, tokens) (h.0, omega arith)

pub lex_at_some : (text : List ℕ) (at : ℕ) → 0 < length (lex_at text at)
unfolding lex_at
lex_at_some text at = (tokens_count 0 _ (drop at text)).0

pub lex_at_count : (text : List ℕ) (at : ℕ) → length (lex_at text at) ≤ suc (length text)
unfolding lex_at
lex_at_count text at = omega (arith, (tokens_count 0 (min at (length text)) (drop at text)).1, length-drop at text)
