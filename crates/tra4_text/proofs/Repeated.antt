-- The laws of `repeated` without turns: each chunk takes a token, so turns enough are always there.
use mathlib.Core.Path.{◌≡◌, refl, ap, sym, ◌∙◌}
use mathlib.Core.List.{List, [], ◌∷◌}
use mathlib.Core.Bool.{Bool, true, false, false≢true, ◌&&◌}
use Prim.Native.Nat.{ℕ, zero, suc, ◌≤◌, ◌<◌}
use Prim.Native.String.{String}
use native.Mathlib.Omega.{arith}
use lib.ListN.{length}
use Rattle.text_bytes.specs.Bytes.{bytes}
use Rattle.text_tokens.specs.Tokens.{Lexeme}
use Rattle.parse_spec.specs.Readers.{Got, got, refused, Reader, after, ◌>>=◌, ◌>>◌, pure, token_of, rest, opened, starts}
use Rattle.text_kinds.specs.Kinds.{is_opening}
use Rattle.parse_spec.proofs.Many.{Keeps, Takes, takes_keeps, pure_keeps, bind_keeps, bind_takes, then_takes, opened_takes, got-rest, rest-short}
use Rattle.tra4_text.specs.Grammar.{repeated_in, repeated, repeated⁺}

in_end : {A : Type 0} (n : ℕ) (k : String) (r : Reader A) (ms : List Lexeme) → starts (bytes k) ms ≡ false → repeated_in n k r ms ≡ got [] ms
unfolding repeated_in
in_end zero k r ms e = refl
in_end (suc n) k r ms e = rw (e, repeated_in)

in-more : {A : Type 0} (n : ℕ) (k : String) (r : Reader A) (ms : List Lexeme) → starts (bytes k) ms ≡ true → repeated_in (suc n) k r ms ≡ (r >>= λ a. repeated_in n k r >>= λ l. pure (a ∷ l)) (rest (rest ms))
unfolding repeated_in
in-more n k r ms e = rw (e, repeated_in)

-- of no tokens none starts
starts_none : (k : List ℕ) → starts k [] ≡ false
unfolding starts token_of is_opening
starts_none k = refl

in-none : {A : Type 0} (n : ℕ) (k : String) (r : Reader A) → repeated_in n k r [] ≡ got [] []
in-none n k r = in_end n k r [] (starts_none (bytes k))

-- what the inside of a chunk leaves is no more than stands after its keyword
inside_less : {A : Type 0} (r : Reader A) → Keeps r → (x : Lexeme) (ms : List Lexeme) (a : A) (l : List Lexeme) → r (rest (rest (x ∷ ms))) ≡ got a l → length l ≤ length ms
unfolding rest
inside_less r t x ms a l e = omega (arith, t (rest ms) a l e, rest-short ms)

-- the chunks after one, by readers that agree on what it leaves
after_same : {A : Type 0} (s u : Reader (List A)) (b : ℕ) (g : Got A) → ((a : A) (l : List Lexeme) → g ≡ got a l → length l ≤ b) → ((l : List Lexeme) → length l ≤ b → s l ≡ u l) → after g (λ a. s >>= λ l. pure (a ∷ l)) ≡ after g (λ a. u >>= λ l. pure (a ∷ l))
unfolding after ◌>>=◌
after_same {A} s u b (got a l) h same = ap (λ (g : Got (List A)). after g (λ l. pure (a ∷ l))) (same l (h a l refl))
after_same s u b (refused i p) h same = refl

-- one more chunk, by readers that agree on fewer tokens
one_same : {A : Type 0} (r : Reader A) → Keeps r → (s u : Reader (List A)) (x : Lexeme) (ms : List Lexeme) → ((l : List Lexeme) → length l ≤ length ms → s l ≡ u l) → (r >>= λ a. s >>= λ l. pure (a ∷ l)) (rest (rest (x ∷ ms))) ≡ (r >>= λ a. u >>= λ l. pure (a ∷ l)) (rest (rest (x ∷ ms)))
unfolding ◌>>=◌
one_same r t s u x ms same = after_same s u (length ms) (r (rest (rest (x ∷ ms)))) (inside_less r t x ms) same

-- more turns than tokens change nothing
in-same : {A : Type 0} (k : String) (r : Reader A) → Keeps r → (n m : ℕ) (ms : List Lexeme) → length ms ≤ n → length ms ≤ m → repeated_in n k r ms ≡ repeated_in m k r ms
in-same k r t zero m [] h j = in-none zero k r ∙ sym (in-none m k r)
in-same k r t zero m (x ∷ ms) h j = absurd (omega arith)
in-same k r t (suc n) m [] h j = in-none (suc n) k r ∙ sym (in-none m k r)
in-same k r t (suc n) zero (x ∷ ms) h j = absurd (omega arith)
in-same k r t (suc n) (suc m) (x ∷ ms) h j = go (starts (bytes k) (x ∷ ms)) refl (λ l p. in-same k r t n m l (omega arith) (omega arith))
  where
    go : (v : Bool) → starts (bytes k) (x ∷ ms) ≡ v → ((l : List Lexeme) → length l ≤ length ms → repeated_in n k r l ≡ repeated_in m k r l) → repeated_in (suc n) k r (x ∷ ms) ≡ repeated_in (suc m) k r (x ∷ ms)
    go true e ih = in-more n k r (x ∷ ms) e ∙ one_same r t (repeated_in n k r) (repeated_in m k r) x ms ih ∙ sym (in-more m k r (x ∷ ms) e)
    go false e ih = in_end (suc n) k r (x ∷ ms) e ∙ sym (in_end (suc m) k r (x ∷ ms) e)

-- before anything but another such chunk the list ends
pub repeated_end : {A : Type 0} (k : String) (r : Reader A) (ms : List Lexeme) → starts (bytes k) ms ≡ false → repeated k r ms ≡ got [] ms
unfolding repeated
repeated_end k r ms e = in_end (length ms) k r ms e

-- else stands one more
pub repeated_more : {A : Type 0} (k : String) (r : Reader A) → Keeps r → (ms : List Lexeme) → starts (bytes k) ms ≡ true → repeated k r ms ≡ (r >>= λ a. repeated k r >>= λ l. pure (a ∷ l)) (rest (rest ms))
unfolding repeated
repeated_more k r t [] e = absurd (false≢true (sym (starts_none (bytes k)) ∙ e))
repeated_more k r t (x ∷ ms) e =
    in-more (length ms) k r (x ∷ ms) e ∙ one_same r t (repeated_in (length ms) k r) (repeated k r) x ms (λ l p. in-same k r t (length ms) (length l) l p (omega arith))

in-keeps : {A : Type 0} (k : String) (r : Reader A) → Keeps r → (n : ℕ) → Keeps (repeated_in n k r)
unfolding repeated_in
in-keeps k r t zero ms a l e = omega (arith, got-rest [] a ms l e)
in-keeps k r t (suc n) ms a l e = go (starts (bytes k) ms) refl (in-keeps k r t n)
  where
    go : (v : Bool) → starts (bytes k) ms ≡ v → Keeps (repeated_in n k r) → length l ≤ length ms
    go true p ih = let h = bind_keeps t (λ b. bind_keeps ih (λ bs. pure_keeps (b ∷ bs))) (rest (rest ms)) a l (sym (in-more n k r ms p) ∙ e) in omega (arith, h, rest-short (rest ms), rest-short ms)
    go false p ih = omega (arith, got-rest [] a ms l (sym (in_end (suc n) k r ms p) ∙ e))

pub repeated_keeps : {A : Type 0} (k : String) {r : Reader A} → Keeps r → Keeps (repeated k r)
unfolding repeated
repeated_keeps k {r} t ms = in-keeps k r t (length ms) ms

pub repeated⁺_takes : {A : Type 0} (k : String) {r : Reader A} → Keeps r → Takes (repeated⁺ k r)
unfolding repeated⁺
repeated⁺_takes k t = bind_takes (then_takes (opened_takes k) t) (λ a. bind_keeps (repeated_keeps k t) (λ l. pure_keeps (a ∷ l)))
