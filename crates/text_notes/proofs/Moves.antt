-- Tokens from an offset on are all moved, those before it stay: by the test of `shifted`.
use mathlib.Core.Path.{◌≡◌, refl, ◌∙◌}
use mathlib.Core.List.{List, [], ◌∷◌}
use mathlib.Core.Bool.{Bool, true, false}
use Prim.Native.Nat.{ℕ, zero, suc, ◌+◌, ◌≤◌, ◌<◌}
use native.Mathlib.Nat.{add-zero}
use native.Mathlib.Omega.{arith}
use borrow.Author.Tests.{lt-ltb, le-ltb}
use lib.Dec.{ltb}
use Rattle.text_bytes.specs.Bytes.{Class, blank, opener, closer, quote, semicolon, letter, other, class_of}
use Rattle.text_tokens.specs.Tokens.{Lexeme, lexeme, tokens}
use Rattle.text_notes.specs.Notes.{moved, shifted}

pub shifted-before : (e k p : ℕ) → p < e → shifted e k p ≡ p
unfolding shifted
shifted-before e k p h = rw (lt-ltb p e h, shifted)

shifted-from : (e k p : ℕ) → e ≤ p → shifted e k p ≡ p + k
unfolding shifted
shifted-from e k p h = rw (le-ltb p e h, shifted)

-- by no bytes
shifted_none : (e p : ℕ) → shifted e 0 p ≡ p
unfolding shifted
shifted_none e p = go (ltb p e) refl
  where
    go : (v : Bool) → ltb p e ≡ v → shifted e 0 p ≡ p
    go true o = rw (o, shifted)
    go false o = rw (o, shifted, add-zero)

pub moved_none : (e : ℕ) (ms : List Lexeme) → moved (shifted e 0) ms ≡ ms
unfolding moved lexeme
moved_none e [] = refl
moved_none e (m ∷ ms) = rw (shifted_none e m.offset, moved_none e ms)

-- the same bytes from another offset
tokens-from : (k p q : ℕ) (bs : List ℕ) → p ≡ q → tokens k p bs ≡ tokens k q bs
tokens-from k p q bs e = rw e

-- tokens from an offset on
pub moved-from : (e g k p : ℕ) (bs : List ℕ) → e ≤ p → moved (shifted e g) (tokens k p bs) ≡ tokens k (p + g) bs
unfolding tokens moved lexeme
moved-from e g k p [] h = rw (shifted-from e g p h)
moved-from e g (suc k) p (b ∷ bs) h = moved-from e g k (suc p) bs (omega arith) ∙ tokens-from k (suc p + g) (suc (p + g)) bs (omega arith)
moved-from e g zero p (b ∷ bs) h = go (class_of b) refl (λ k. moved-from e g k (suc p) bs (omega arith) ∙ tokens-from k (suc p + g) (suc (p + g)) bs (omega arith))
  where
    go : (c : Class) → class_of b ≡ c → ((k : ℕ) → moved (shifted e g) (tokens k (suc p) bs) ≡ tokens k (suc (p + g)) bs) → moved (shifted e g) (tokens 0 p (b ∷ bs)) ≡ tokens 0 (p + g) (b ∷ bs)
    go blank q ih = rw (q, tokens) (ih 0)
    go opener q ih = rw (q, tokens, shifted-from e g p h, ih 0)
    go closer q ih = rw (q, tokens, shifted-from e g p h, ih 0)
    go quote q ih = rw (q, tokens, shifted-from e g p h, ih _)
    go semicolon q ih = rw (q, tokens) (ih _)
    go letter q ih = rw (q, tokens, shifted-from e g p h, ih _)
    go other q ih = rw (q, tokens) (ih 0)
