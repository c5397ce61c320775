-- Readers that take a token, and so the law of `many`: turns enough are always there.
use mathlib.Core.Path.{◌≡◌, refl, ap, sym, ◌∙◌}
use mathlib.Core.List.{List, [], ◌∷◌, ◌++◌}
use mathlib.Core.Bool.{Bool, true, false, false≢true}
use Prim.Native.Nat.{ℕ, zero, suc, ◌≤◌, ◌<◌}
use Prim.Native.String.{String}
use native.Mathlib.Omega.{arith}
use lib.IntN.{ℤ}
use lib.ListN.{length}
use Rattle.text_bytes.specs.Bytes.{bytes}
use Rattle.text_runs.specs.Runs.{same}
use Rattle.text_tokens.specs.Tokens.{Token, opening, closing, ending, quoted, plain, Lexeme, is_keyword}
use Rattle.text_numerals.specs.Numbers.{Number, value, beyond, wrong, Form, INT, refusal_of}
use Rattle.parse_spec.specs.Readers.{Got, got, refused, Reader, after, ◌>>=◌, ◌>>◌, pure, stop, token_of, rest, take_if, open_bracket, close_bracket, word_of, keyword, text_end, opened_of, opened, closed, number_in, number_at, number, numbers, version_at, version, Name, name_at, string, one_from, one_of, starts, optional, trailing, many_in, many, many⁺, cells, row_of, row, head_of, head}
use Rattle.text_kinds.specs.Kinds.{is_opening, is_closing, is_end}
use Rattle.parse_spec.specs.Internal.Tokens.{token_number}
use Rattle.parse_spec.proofs.NumberTokens.{number_of}

-- what a reader leaves is no more than it found
abbrev pub Keeps : {A : Type 0} → Reader A → Type 0
Keeps {A} r = (ms : List Lexeme) (a : A) (l : List Lexeme) → r ms ≡ got a l → length l ≤ length ms

-- it takes a token, and of no tokens it takes none
pub record Takes {A : Type 0} (r : Reader A) : Type 0 where
  pub less : (ms : List Lexeme) (a : A) (l : List Lexeme) → r ms ≡ got a l → length l < length ms
  pub none : r [] ≡ refused 5 0

-- ---- what a reader gives

pub not-got : {A : Type 0} (n p : ℕ) (a : A) (l : List Lexeme) → refused n p ≡ got a l → ⊥
not-got n p a l e = let z : ◌≡◌ {A = ℕ} 0 1 = cc in omega arith

pub got-value : {A : Type 0} (a b : A) (l k : List Lexeme) → got a l ≡ got b k → a ≡ b
got-value a b l k e = cc

pub got-left : {A : Type 0} (a b : A) (l k : List Lexeme) → got a l ≡ got b k → l ≡ k
got-left a b l k e = cc

pub got-rest : {A : Type 0} (a b : A) (l k : List Lexeme) → got a l ≡ got b k → length k ≡ length l
got-rest a b l k e = let h : k ≡ l = cc in ap length h

pub stop-not : {A : Type 0} (n : ℕ) (ms : List Lexeme) (a : A) (l : List Lexeme) → stop n ms ≡ got a l → ⊥
unfolding stop
stop-not n [] a l e = not-got n 0 a l e
stop-not n (m ∷ ms) a l e = not-got n m.offset a l e

pub rest-short : (ms : List Lexeme) → length (rest ms) ≤ length ms
unfolding rest
rest-short [] = omega arith
rest-short (m ∷ ms) = omega arith

-- ---- readers one after another

pub takes_keeps : {A : Type 0} {r : Reader A} → Takes r → Keeps r
takes_keeps t ms a l e = omega (arith, t.less ms a l e)

pub pure_keeps : {A : Type 0} (a : A) → Keeps (pure a)
unfolding pure
pure_keeps a ms b l e = omega (arith, got-rest a b ms l e)

module _ {A B : Type 0} (f : A → Reader B) (k : (a : A) → Keeps (f a)) where
  after-most : (g : Got A) (n : ℕ) → ((a : A) (l : List Lexeme) → g ≡ got a l → length l ≤ n) → (b : B) (l : List Lexeme) → after g f ≡ got b l → length l ≤ n
  unfolding after
  after-most (got a m) n h b l e = omega (arith, h a m refl, k a m b l e)
  after-most (refused i p) n h b l e = absurd (not-got i p b l e)

  after_less : (g : Got A) (n : ℕ) → ((a : A) (l : List Lexeme) → g ≡ got a l → length l < n) → (b : B) (l : List Lexeme) → after g f ≡ got b l → length l < n
  unfolding after
  after_less (got a m) n h b l e = omega (arith, h a m refl, k a m b l e)
  after_less (refused i p) n h b l e = absurd (not-got i p b l e)

pub bind_keeps : {A B : Type 0} {r : Reader A} {f : A → Reader B} → Keeps r → ((a : A) → Keeps (f a)) → Keeps (r >>= f)
unfolding ◌>>=◌
bind_keeps {r = r} {f = f} t k ms = after-most f k (r ms) (length ms) (t ms)

pub bind_takes : {A B : Type 0} {r : Reader A} {f : A → Reader B} → Takes r → ((a : A) → Keeps (f a)) → Takes (r >>= f)
unfolding ◌>>=◌ after
bind_takes {r = r} {f = f} t k = record { less = λ ms. after_less f k (r ms) (length ms) (t.less ms); none = rw t.none }

pub then_keeps : {A B : Type 0} {r : Reader A} {s : Reader B} → Keeps r → Keeps s → Keeps (r >> s)
unfolding ◌>>◌
then_keeps {r = r} {s = s} t k ms = after-most (λ _. s) (λ _. k) (r ms) (length ms) (t ms)

pub then_takes : {A B : Type 0} {r : Reader A} {s : Reader B} → Takes r → Keeps s → Takes (r >> s)
unfolding ◌>>◌ after
then_takes {r = r} {s = s} t k = record { less = λ ms. after_less (λ _. s) (λ _. k) (r ms) (length ms) (t.less ms); none = rw t.none }

-- ---- one token

take_if_less : (test : Token → Bool) → test ending ≡ false → (ms : List Lexeme) (a : Unit {0}) (l : List Lexeme) → take_if test ms ≡ got a l → length l < length ms
unfolding take_if token_of rest stop
take_if_less test last [] a l e = absurd (not-got 5 0 a l (sym none ∙ e))
  where
    none : take_if test [] ≡ refused 5 0
    none = rw (last, take_if)
take_if_less test last (m ∷ ms) a l e = go (test m.token) refl
  where
    go : (v : Bool) → test m.token ≡ v → length l < suc (length ms)
    go true p = let h : got tt ms ≡ got a l = rw (p, take_if) at e in omega (arith, got-rest tt a ms l h)
    go false p = let h : refused 5 m.offset ≡ got a l = rw (p, take_if) at e in absurd (not-got 5 m.offset a l h)

-- a test that does not take the last token
pub take_if_takes : (test : Token → Bool) → test ending ≡ false → Takes (take_if test)
unfolding take_if token_of stop
take_if_takes test last = record { less = take_if_less test last; none = rw (last, take_if) }

pub open_takes : Takes open_bracket
unfolding open_bracket is_opening
open_takes = take_if_takes is_opening refl

pub close_takes : Takes close_bracket
unfolding close_bracket is_closing
close_takes = take_if_takes is_closing refl

pub word_takes : (k : List ℕ) → Takes (word_of k)
unfolding word_of is_keyword
word_takes k = take_if_takes (is_keyword k) refl

pub keyword_takes : (k : String) → Takes (keyword k)
unfolding keyword
keyword_takes k = word_takes (bytes k)

pub opened_of_takes : (k : List ℕ) → Takes (opened_of k)
unfolding opened_of
opened_of_takes k = then_takes open_takes (takes_keeps (word_takes k))

pub opened_takes : (k : String) → Takes (opened k)
unfolding opened
opened_takes k = opened_of_takes (bytes k)

pub closed_keeps : {A : Type 0} {r : Reader A} → Keeps r → Keeps (closed r)
unfolding closed
closed_keeps k = bind_keeps k (λ a. then_keeps (takes_keeps close_takes) (pure_keeps a))

pub closed_takes : {A : Type 0} {r : Reader A} → Takes r → Takes (closed r)
unfolding closed
closed_takes t = bind_takes t (λ a. then_keeps (takes_keeps close_takes) (pure_keeps a))

-- ---- numbers, names, versions

number_in_less : (n : Number) (m : Lexeme) (ms : List Lexeme) (z : ℤ) (l : List Lexeme) → number_in n (m ∷ ms) ≡ got z l → length l < suc (length ms)
unfolding number_in rest
number_in_less (value x) m ms z l e = omega (arith, got-rest x z ms l e)
number_in_less beyond m ms z l e = absurd (stop-not (refusal_of beyond) (m ∷ ms) z l e)
number_in_less wrong m ms z l e = absurd (stop-not (refusal_of wrong) (m ∷ ms) z l e)

number_less : (f : Form) (ms : List Lexeme) (z : ℤ) (l : List Lexeme) → number f ms ≡ got z l → length l < length ms
unfolding number number_at token_of stop
number_less f [] z l e = absurd (not-got 5 0 z l e)
number_less f (m ∷ ms) z l e = number_in_less (token_number f m.token) m ms z l (sym (number_of f m.token (m ∷ ms)) ∙ e)

pub number_takes : (f : Form) → Takes (number f)
unfolding number number_at token_of stop
number_takes f = record { less = number_less f; none = refl }

pub numbers_keeps : (f : Form) (n : ℕ) → Keeps (numbers f n)
unfolding numbers
numbers_keeps f zero = pure_keeps []
numbers_keeps f (suc n) = bind_keeps (takes_keeps (number_takes f)) (λ z. bind_keeps (numbers_keeps f n) (λ zs. pure_keeps (z ∷ zs)))

pub cells_keep : (lead : ℕ) (f : Form) (n : ℕ) → Keeps (cells lead f n)
unfolding cells
cells_keep lead f n = bind_keeps (numbers_keeps INT lead) (λ a. bind_keeps (numbers_keeps f n) (λ b. pure_keeps (a ++ b)))

pub row_of_takes : (k : List ℕ) (lead : ℕ) (f : Form) (n : ℕ) → Takes (row_of k lead f n)
unfolding row_of
row_of_takes k lead f n = then_takes (opened_of_takes k) (closed_keeps (cells_keep lead f n))

pub row_takes : (k : String) (f : Form) (n : ℕ) → Takes (row k f n)
unfolding row
row_takes k f n = row_of_takes (bytes k) 0 f n

name_less : (t : Token) (m : Lexeme) (ms : List Lexeme) (a : Name) (l : List Lexeme) → name_at t (m ∷ ms) ≡ got a l → length l < suc (length ms)
unfolding name_at
name_less opening m ms a l e = absurd (stop-not 5 (m ∷ ms) a l e)
name_less closing m ms a l e = absurd (stop-not 5 (m ∷ ms) a l e)
name_less ending m ms a l e = absurd (stop-not 5 (m ∷ ms) a l e)
name_less (quoted bs) m ms a l e = omega (arith, got-rest _ a ms l e)
name_less (plain bs) m ms a l e = absurd (stop-not 5 (m ∷ ms) a l e)

string_less : (ms : List Lexeme) (a : Name) (l : List Lexeme) → string ms ≡ got a l → length l < length ms
unfolding string name_at token_of stop
string_less [] a l e = absurd (not-got 5 0 a l e)
string_less (m ∷ ms) a l e = name_less m.token m ms a l e

pub string_takes : Takes string
unfolding string name_at token_of stop
string_takes = record { less = string_less; none = refl }

version_at_less : (v : List ℕ) (t : Token) (m : Lexeme) (ms : List Lexeme) (a : Unit {0}) (l : List Lexeme) → version_at v t (m ∷ ms) ≡ got a l → length l < suc (length ms)
unfolding version_at rest
version_at_less v opening m ms a l e = absurd (stop-not 5 (m ∷ ms) a l e)
version_at_less v closing m ms a l e = absurd (stop-not 5 (m ∷ ms) a l e)
version_at_less v ending m ms a l e = absurd (stop-not 5 (m ∷ ms) a l e)
version_at_less v (quoted bs) m ms a l e = absurd (stop-not 5 (m ∷ ms) a l e)
version_at_less v (plain bs) m ms a l e = go (same bs v) refl
  where
    go : (x : Bool) → same bs v ≡ x → length l < suc (length ms)
    go true p = let h : got tt ms ≡ got a l = rw (p, version_at) at e in omega (arith, got-rest tt a ms l h)
    go false p = let h : stop 7 (m ∷ ms) ≡ got a l = rw (p, version_at) at e in absurd (stop-not 7 (m ∷ ms) a l h)

version_less : (v : List ℕ) (ms : List Lexeme) (a : Unit {0}) (l : List Lexeme) → version v ms ≡ got a l → length l < length ms
unfolding version version_at token_of stop
version_less v [] a l e = absurd (not-got 5 0 a l e)
version_less v (m ∷ ms) a l e = version_at_less v m.token m ms a l e

pub version_takes : (v : List ℕ) → Takes (version v)
unfolding version version_at token_of stop
version_takes v = record { less = version_less v; none = refl }

pub head_of_takes : (k v : List ℕ) → Takes (head_of k v)
unfolding head_of
head_of_takes k v = then_takes (then_takes (opened_takes "Head") (takes_keeps (opened_of_takes k))) (closed_keeps (closed_keeps (takes_keeps (version_takes v))))

pub head_takes : (k v : String) → Takes (head k v)
unfolding head
head_takes k v = head_of_takes (bytes k) (bytes v)

-- ---- one of some keywords

one_from_less : (n : ℕ) (ks : List String) (ms : List Lexeme) (a : ℕ) (l : List Lexeme) → one_from n ks ms ≡ got a l → length l < length ms
unfolding one_from is_keyword token_of rest
one_from_less n [] ms a l e = absurd (stop-not 5 ms a l e)
one_from_less n (k ∷ ks) ms a l e = go (is_keyword (bytes k) (token_of ms)) refl (one_from_less (suc n) ks ms a l)
  where
    taken : (ms : List Lexeme) → is_keyword (bytes k) (token_of ms) ≡ true → length (rest ms) < length ms
    taken [] p = absurd (false≢true p)
    taken (m ∷ ms) p = omega arith

    go : (x : Bool) → is_keyword (bytes k) (token_of ms) ≡ x → (one_from (suc n) ks ms ≡ got a l → length l < length ms) → length l < length ms
    go true p h = let q : got n (rest ms) ≡ got a l = rw (p, one_from) at e in omega (arith, taken ms p, got-rest n a (rest ms) l q)
    go false p h = h (rw (p, one_from) at e)

one_from_none : (n : ℕ) (ks : List String) → one_from n ks [] ≡ refused 5 0
unfolding one_from is_keyword token_of stop
one_from_none n [] = refl
one_from_none n (k ∷ ks) = one_from_none (suc n) ks

pub one_of_takes : (ks : List String) → Takes (one_of ks)
unfolding one_of
one_of_takes ks = record { less = one_from_less 0 ks; none = one_from_none 0 ks }

-- ---- what may be left out, and the end

pub text_end_keeps : Keeps text_end
unfolding text_end
text_end_keeps ms a l e = go (is_end (token_of ms)) refl
  where
    go : (x : Bool) → is_end (token_of ms) ≡ x → length l ≤ length ms
    go true p = let h : got tt ms ≡ got a l = rw (p, text_end) at e in omega (arith, got-rest tt a ms l h)
    go false p = let h : stop 5 ms ≡ got a l = rw (p, text_end) at e in absurd (stop-not 5 ms a l h)

pub optional_keeps : {A : Type 0} (k : String) (a : A) {r : Reader A} → Keeps r → Keeps (optional k a r)
unfolding optional
optional_keeps k a {r} t ms b l e = go (starts (bytes k) ms) refl
  where
    go : (x : Bool) → starts (bytes k) ms ≡ x → length l ≤ length ms
    go true p = let h : r (rest (rest ms)) ≡ got b l = rw (p, optional) at e in omega (arith, t (rest (rest ms)) b l h, rest-short (rest ms), rest-short ms)
    go false p = let h : got a ms ≡ got b l = rw (p, optional) at e in omega (arith, got-rest a b ms l h)

pub trailing_keeps : {A : Type 0} (k : String) (a : A) {r : Reader A} → Keeps r → Keeps (trailing k a r)
unfolding trailing
trailing_keeps k a {r} t ms b l e = go (is_opening (token_of ms)) refl
  where
    go : (x : Bool) → is_opening (token_of ms) ≡ x → length l ≤ length ms
    go true p = let h : (opened k >> r) ms ≡ got b l = rw (p, trailing) at e in then_keeps (takes_keeps (opened_takes k)) t ms b l h
    go false p = let h : got a ms ≡ got b l = rw (p, trailing) at e in omega (arith, got-rest a b ms l h)

-- ---- many

pub many_in_end : {A : Type 0} (n : ℕ) (r : Reader A) (ms : List Lexeme) → is_closing (token_of ms) ≡ true → many_in (suc n) r ms ≡ got [] (rest ms)
unfolding many_in
many_in_end n r ms e = rw (e, many_in)

pub many_in_more : {A : Type 0} (n : ℕ) (r : Reader A) (ms : List Lexeme) → is_closing (token_of ms) ≡ false → many_in (suc n) r ms ≡ (r >>= λ a. many_in n r >>= λ l. pure (a ∷ l)) ms
unfolding many_in
many_in_more n r ms e = rw (e, many_in)

-- of no tokens
many_in_none : {A : Type 0} (r : Reader A) → Takes r → (n : ℕ) → many_in n r [] ≡ refused 5 0
unfolding many_in stop ◌>>=◌ after is_closing token_of
many_in_none r t zero = refl
many_in_none r t (suc n) = rw t.none

-- more turns than tokens change nothing
many_in-same : {A : Type 0} (r : Reader A) → Takes r → (n m : ℕ) (ms : List Lexeme) → length ms ≤ n → length ms ≤ m → many_in n r ms ≡ many_in m r ms
unfolding after ◌>>=◌
many_in-same r t zero m [] h k = many_in_none r t zero ∙ sym (many_in_none r t m)
many_in-same r t zero m (x ∷ ms) h k = absurd (omega arith)
many_in-same r t (suc n) m [] h k = many_in_none r t (suc n) ∙ sym (many_in_none r t m)
many_in-same r t (suc n) zero (x ∷ ms) h k = absurd (omega arith)
many_in-same {A} r t (suc n) (suc m) (x ∷ ms) h k = go (is_closing (token_of (x ∷ ms))) refl (λ l p q. many_in-same r t n m l p q)
  where
    step : (g : Got A) → ((a : A) (l : List Lexeme) → g ≡ got a l → length l < suc (length ms)) → ((l : List Lexeme) → length l ≤ n → length l ≤ m → many_in n r l ≡ many_in m r l) → after g (λ a. many_in n r >>= λ l. pure (a ∷ l)) ≡ after g (λ a. many_in m r >>= λ l. pure (a ∷ l))
    step (got a l) p ih = let s = p a l refl in ap (λ (g : Got (List A)). after g (λ l. pure (a ∷ l))) (ih l (omega arith) (omega arith))
    step (refused i p) q ih = refl

    go : (v : Bool) → is_closing (token_of (x ∷ ms)) ≡ v → ((l : List Lexeme) → length l ≤ n → length l ≤ m → many_in n r l ≡ many_in m r l) → many_in (suc n) r (x ∷ ms) ≡ many_in (suc m) r (x ∷ ms)
    go true e ih = many_in_end n r (x ∷ ms) e ∙ sym (many_in_end m r (x ∷ ms) e)
    go false e ih = many_in_more n r (x ∷ ms) e ∙ step (r (x ∷ ms)) (t.less (x ∷ ms)) ih ∙ sym (many_in_more m r (x ∷ ms) e)

-- ) ends the list
pub many_end : {A : Type 0} (r : Reader A) (ms : List Lexeme) → is_closing (token_of ms) ≡ true → many r ms ≡ got [] (rest ms)
unfolding many is_closing token_of
many_end r [] e = absurd (false≢true e)
many_end r (x ∷ ms) e = many_in_end (length ms) r (x ∷ ms) e

-- before any other token stands one more
pub many_more : {A : Type 0} (r : Reader A) → Takes r → (ms : List Lexeme) → is_closing (token_of ms) ≡ false → many r ms ≡ (r >>= λ a. many r >>= λ l. pure (a ∷ l)) ms
unfolding many after ◌>>=◌
many_more r t [] e = rw t.none (many_in_none r t 0)
many_more {A} r t (x ∷ ms) e = many_in_more (length ms) r (x ∷ ms) e ∙ step (r (x ∷ ms)) (t.less (x ∷ ms))
  where
    step : (g : Got A) → ((a : A) (l : List Lexeme) → g ≡ got a l → length l < suc (length ms)) → after g (λ a. many_in (length ms) r >>= λ l. pure (a ∷ l)) ≡ after g (λ a. many r >>= λ l. pure (a ∷ l))
    step (got a l) p = let s = p a l refl in ap (λ (g : Got (List A)). after g (λ l. pure (a ∷ l))) (many_in-same r t (length ms) (length l) l (omega arith) (omega arith))
    step (refused i p) q = refl

many_in_keeps : {A : Type 0} (r : Reader A) → Keeps r → (n : ℕ) → Keeps (many_in n r)
unfolding many_in
many_in_keeps r t zero ms a l e = absurd (stop-not 5 ms a l e)
many_in_keeps {A} r t (suc n) ms a l e = go (is_closing (token_of ms)) refl (many_in_keeps r t n)
  where
    go : (v : Bool) → is_closing (token_of ms) ≡ v → Keeps (many_in n r) → length l ≤ length ms
    go true p ih = let h : got [] (rest ms) ≡ got a l = sym (many_in_end n r ms p) ∙ e in omega (arith, got-rest [] a (rest ms) l h, rest-short ms)
    go false p ih = bind_keeps t (λ b. bind_keeps ih (λ bs. pure_keeps (b ∷ bs))) ms a l (sym (many_in_more n r ms p) ∙ e)

pub many_keeps : {A : Type 0} {r : Reader A} → Keeps r → Keeps (many r)
unfolding many
many_keeps {r = r} t ms = many_in_keeps r t (length ms) ms

pub many⁺_takes : {A : Type 0} {r : Reader A} → Takes r → Takes (many⁺ r)
unfolding many⁺
many⁺_takes t = bind_takes t (λ a. bind_keeps (many_keeps (takes_keeps t)) (λ l. pure_keeps (a ∷ l)))
