-- Two texts of the same words, or one text whose offsets are moved, are two lists of the same tokens; a text's tokens end with its end.
use mathlib.Core.Path.{◌≡◌, refl}
use mathlib.Core.List.{List, [], ◌∷◌}
use Prim.Native.Nat.{ℕ, zero, suc, ◌<◌}
use native.Mathlib.Omega.{arith}
use lib.ListN.{length}
use Rattle.text_bytes.specs.Bytes.{Class, blank, opener, closer, quote, semicolon, letter, other, class_of, is_letter, in_line, in_string}
use Rattle.text_runs.specs.Runs.{run}
use Rattle.text_tokens.specs.Tokens.{Token, opening, closing, ending, quoted, plain, Lexeme, lexeme, tokens, lex}
use Rattle.text_notes.specs.Notes.{token_at, tokens_of, moved}
use Rattle.parse_alike.proofs.Tokens.{Both}

-- the last token is `ending`
abbrev Ended : List Lexeme → Type 0
Ended [] = ⊥
Ended (m ∷ []) = m.token ≡ ending
Ended (m ∷ l ∷ ms) = Ended (l ∷ ms)

ended_more : (m : Lexeme) (ms : List Lexeme) → Ended ms → Ended (m ∷ ms)
ended_more m [] h = absurd h
ended_more m (l ∷ ms) h = h

tokens_end : (k p : ℕ) (bs : List ℕ) → Ended (tokens k p bs)
unfolding tokens lexeme
tokens_end k p [] = refl
tokens_end (suc k) p (b ∷ bs) = tokens_end k (suc p) bs
tokens_end zero p (b ∷ bs) = go (class_of b) refl (λ k. tokens_end k (suc p) bs)
  where
    go : (c : Class) → class_of b ≡ c → ((k : ℕ) → Ended (tokens k (suc p) bs)) → Ended (tokens 0 p (b ∷ bs))
    go blank e ih = rw (e, tokens) (ih 0)
    go opener e ih = rw (e, tokens) (ended_more (lexeme p opening) (tokens 0 (suc p) bs) (ih 0))
    go closer e ih = rw (e, tokens) (ended_more (lexeme p closing) (tokens 0 (suc p) bs) (ih 0))
    go quote e ih = rw (e, tokens) (ended_more (lexeme p (quoted (run in_string bs))) (tokens (suc (length (run in_string bs))) (suc p) bs) (ih (suc (length (run in_string bs)))))
    go semicolon e ih = rw (e, tokens) (ih (length (run in_line bs)))
    go letter e ih = rw (e, tokens) (ended_more (lexeme p (plain (b ∷ run is_letter bs))) (tokens (length (run is_letter bs)) (suc p) bs) (ih (length (run is_letter bs))))
    go other e ih = rw (e, tokens) (ih 0)

-- a list by its head and its tail
head-is : (a b : Token) (l k : List Token) → a ∷ l ≡ b ∷ k → a ≡ b
head-is a b l k e = cc

tail_is : (a b : Token) (l k : List Token) → a ∷ l ≡ b ∷ k → l ≡ k
tail_is a b l k e = cc

not-cons : (a : Token) (l : List Token) → a ∷ l ≡ [] → ⊥
not-cons a l e = let z : ◌≡◌ {A = ℕ} 0 1 = cc in omega arith

not_empty_lem : (a : Token) (l : List Token) → [] ≡ a ∷ l → ⊥
not_empty_lem a l e = let z : ◌≡◌ {A = ℕ} 0 1 = cc in omega arith

module _ (W : ℕ → ℕ → Type 0) where
  same-tokens : (ms ns : List Lexeme) → tokens_of ns ≡ tokens_of ms → Ended ms → ((i : ℕ) → i < length ms → W (token_at ms i).offset (token_at ns i).offset) → Both W ms ns
  unfolding tokens_of token_at
  same-tokens [] ns e h w = absurd h
  same-tokens (m ∷ ms) [] e h w = absurd (not_empty_lem _ _ e)
  same-tokens (m ∷ []) (n ∷ []) e h w = (record { token = head-is _ _ _ _ e; offsets = w 0 (omega arith) }, h)
  same-tokens (m ∷ []) (n ∷ o ∷ ns) e h w = absurd (not-cons _ _ (tail_is _ _ _ _ e))
  same-tokens (m ∷ l ∷ ms) (n ∷ []) e h w = absurd (not_empty_lem _ _ (tail_is _ _ _ _ e))
  same-tokens (m ∷ l ∷ ms) (n ∷ o ∷ ns) e h w = (record { token = head-is _ _ _ _ e; offsets = w 0 (omega arith) }, same-tokens (l ∷ ms) (o ∷ ns) (tail_is _ _ _ _ e) h (λ i k. w (suc i) (omega arith)))

  pub texts_both : (text text' : List ℕ) → tokens_of (lex text') ≡ tokens_of (lex text) → ((i : ℕ) → i < length (lex text) → W (token_at (lex text) i).offset (token_at (lex text') i).offset) → Both W (lex text) (lex text')
  unfolding lex
  texts_both text text' e w = same-tokens (tokens 0 0 text) (tokens 0 0 text') e (tokens_end 0 0 text) w

  -- the same text, its offsets moved in any way
  same-moved : (to : ℕ → ℕ) → ((p : ℕ) → W p (to p)) → (ms : List Lexeme) → Ended ms → Both W ms (moved to ms)
  unfolding moved lexeme
  same-moved to w [] h = absurd h
  same-moved to w (m ∷ []) h = (record { token = refl; offsets = w m.offset }, h)
  same-moved to w (m ∷ l ∷ ms) h = (record { token = refl; offsets = w m.offset }, same-moved to w (l ∷ ms) h)

  pub moved_both : (to : ℕ → ℕ) → ((p : ℕ) → W p (to p)) → (text : List ℕ) → Both W (lex text) (moved to (lex text))
  unfolding lex
  moved_both to w text = same-moved to w (tokens 0 0 text) (tokens_end 0 0 text)
