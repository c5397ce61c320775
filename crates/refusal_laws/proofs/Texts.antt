-- The refusals 1 to 4 of a text, and where its tokens begin: at most at its end; by induction on the bytes.
use mathlib.Core.Path.{◌≡◌, refl}
use mathlib.Core.List.{List, [], ◌∷◌}
use mathlib.Core.Bool.{Bool, true, false}
use Prim.Native.Nat.{ℕ, zero, suc, ◌+◌, ◌≤◌}
use native.Mathlib.Omega.{arith}
use lib.Dec.{leb, ltb, eqb}
use lib.ListN.{length}
use Rattle.text_bytes.specs.Bytes.{Class, blank, opener, closer, quote, semicolon, letter, other, class_of, is_letter, is_content, in_line, in_string}
use Rattle.text_runs.specs.Runs.{run}
use Rattle.text_bytes.specs.Internal.Every.{Every}
use Rattle.text_check.specs.Faults.{Within, outside, comment, string, fault_in, Format, marked, text_fault}
use Rattle.refusal.specs.Faults.{Fault, clear, fault}
use Rattle.text_tokens.specs.Tokens.{Lexeme, lexeme, tokens, lex}
use Rattle.refusal_laws.specs.Numbers.{is_among}

-- the numbers of a text's bytes, words and shape
abbrev pub early_numbers : List ℕ
early_numbers = 1 ∷ 2 ∷ 3 ∷ 4 ∷ 5 ∷ 6 ∷ 7 ∷ []

-- such a refusal, at a place within b bytes
pub record Early (b n p : ℕ) : Type 0 where
  pub number : is_among n early_numbers ≡ true
  pub place : p ≤ b

-- a fault, if there is one, is one of R
abbrev pub Faulty : (ℕ → ℕ → Type 0) → Fault → Type 0
Faulty R clear = Unit {0}
Faulty R (fault n p) = R n p

-- ---- 1 to 4

-- a string's quote stands within them
abbrev Quoted : ℕ → Within → Type 0
Quoted b outside = Unit {0}
Quoted b comment = Unit {0}
Quoted b (string q n) = q ≤ b

module _ (b : ℕ) where
  unended : (q : ℕ) → q ≤ b → Early b 4 q
  unfolding is_among
  unended q h = record { number = refl; place = h }

  no_word : (p : ℕ) → p ≤ b → Early b 3 p
  unfolding is_among
  no_word p h = record { number = refl; place = h }

  fault_early : (w : Within) (p : ℕ) (bs : List ℕ) → Quoted b w → p + length bs ≤ b → Faulty (Early b) (fault_in w p bs)
  unfolding fault_in
  fault_early outside p [] q h = tt
  fault_early comment p [] q h = tt
  fault_early (string s n) p [] q h = unended s q
  fault_early outside p (x ∷ bs) q h = go (class_of x) refl (λ w k. fault_early w (suc p) bs k (omega arith))
    where
      go : (v : Class) → class_of x ≡ v → ((w : Within) → Quoted b w → Faulty (Early b) (fault_in w (suc p) bs)) → Faulty (Early b) (fault_in outside p (x ∷ bs))
      go blank o ih = rw (o, fault_in) (ih outside tt)
      go opener o ih = rw (o, fault_in) (ih outside tt)
      go closer o ih = rw (o, fault_in) (ih outside tt)
      go quote o ih = rw (o, fault_in) (ih (string p 0) (omega arith))
      go semicolon o ih = rw (o, fault_in) (ih comment tt)
      go letter o ih = rw (o, fault_in) (ih outside tt)
      go other o ih = rw (o, fault_in) (no_word p (omega arith))
  fault_early comment p (x ∷ bs) q h = go (eqb x 10) refl (λ w k. fault_early w (suc p) bs k (omega arith))
    where
      go : (v : Bool) → eqb x 10 ≡ v → ((w : Within) → Quoted b w → Faulty (Early b) (fault_in w (suc p) bs)) → Faulty (Early b) (fault_in comment p (x ∷ bs))
      go true o ih = rw (o, fault_in) (ih outside tt)
      go false o ih = rw (o, fault_in) (ih comment tt)
  fault_early (string s n) p (x ∷ bs) q h = go (eqb x 34) (ltb n 255) (is_content x) refl refl refl (λ w k. fault_early w (suc p) bs k (omega arith))
    where
      go : (u v w : Bool) → eqb x 34 ≡ u → ltb n 255 ≡ v → is_content x ≡ w → ((w : Within) → Quoted b w → Faulty (Early b) (fault_in w (suc p) bs)) → Faulty (Early b) (fault_in (string s n) p (x ∷ bs))
      go true v w o l c ih = rw (o, fault_in) (ih outside tt)
      go false true true o l c ih = rw (o, l, c, fault_in) (ih (string s (suc n)) q)
      go false true false o l c ih = rw (o, l, c, fault_in) (no_word p (omega arith))
      go false false w o l c ih = rw (o, l, fault_in) (unended s q)

pub text_early : (f : Format) (text : List ℕ) → Faulty (Early (length text)) (text_fault f text)
unfolding text_fault is_among
text_early f text = go (leb (length text) 65536) (marked f text) refl refl
  where
    go : (v m : Bool) → leb (length text) 65536 ≡ v → marked f text ≡ m → Faulty (Early (length text)) (text_fault f text)
    go true true o h = rw (o, h, text_fault) (fault_early (length text) outside 0 text tt (omega arith))
    go true false o h = rw (o, h, text_fault) (record { number = refl; place = omega arith })
    go false m o h = rw (o, text_fault) (record { number = refl; place = omega arith })

-- ---- tokens

abbrev pub Begins : ℕ → Lexeme → Type 0
Begins b m = m.offset ≤ b

tokens_begin : (b k p : ℕ) (bs : List ℕ) → p + length bs ≤ b → Every (Begins b) (tokens k p bs)
unfolding tokens lexeme
tokens_begin b k p [] h = (omega arith, tt)
tokens_begin b (suc k) p (x ∷ bs) h = tokens_begin b k (suc p) bs (omega arith)
tokens_begin b zero p (x ∷ bs) h = go (class_of x) refl (omega arith) (λ k. tokens_begin b k (suc p) bs (omega arith))
  where
    go : (v : Class) → class_of x ≡ v → p ≤ b → ((k : ℕ) → Every (Begins b) (tokens k (suc p) bs)) → Every (Begins b) (tokens 0 p (x ∷ bs))
    go blank e i ih = rw (e, tokens) (ih 0)
    go opener e i ih = rw (e, tokens) (i, ih 0)
    go closer e i ih = rw (e, tokens) (i, ih 0)
    go quote e i ih = rw (e, tokens) (i, ih (suc (length (run in_string bs))))
    go semicolon e i ih = rw (e, tokens) (ih (length (run in_line bs)))
    go letter e i ih = rw (e, tokens) (i, ih (length (run is_letter bs)))
    go other e i ih = rw (e, tokens) (ih 0)

pub lex-begins : (text : List ℕ) → Every (Begins (length text)) (lex text)
unfolding lex
lex-begins text = tokens_begin (length text) 0 0 text (omega arith)
