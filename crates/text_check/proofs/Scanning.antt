-- What one byte means for the first fault of a text, by the definition's clauses.
use mathlib.Core.Path.{◌≡◌, refl, ap, ◌∙◌}
use mathlib.Core.List.{List, [], ◌∷◌}
use mathlib.Core.Bool.{Bool, true, false, not, false≢true}
use Prim.Native.Nat.{ℕ, suc, ◌+◌, ◌≤◌, ◌<◌}
use native.Mathlib.Nat.{add-zero}
use native.Mathlib.Omega.{arith}
use borrow.Author.Tests.{eqb-true, eq-eqb, ne_eqb, lt-ltb, le-ltb}
use lib.Dec.{eqb}
use lib.ListN.{length, take, drop, get_or, drop_of_length-le}
use lib.Seq.{drop-cons, drop-drop}
use Rattle.text_bytes.specs.Bytes.{Class, blank, opener, closer, quote, semicolon, letter, other, class_of, is_blank, in_line, is_content}
use Rattle.text_runs.specs.Runs.{run, same}
use Rattle.text_check.specs.Faults.{outside, comment, string, fault_in, begins, blank_or_end}
use Rattle.refusal.specs.Faults.{Fault, clear, fault}
use Rattle.text_runs.proofs.Runs.{run_yes}

-- a class whose bytes are passed over outside strings and comments
unfoldable pub passes : Class → Bool
passes blank = true
passes opener = true
passes closer = true
passes quote = false
passes semicolon = false
passes letter = true
passes other = false

-- a comment ends where its line does
pub comment_end : (p : ℕ) (bs : List ℕ) → fault_in comment p bs ≡ fault_in outside (p + length (run in_line bs)) (drop (length (run in_line bs)) bs)
unfolding fault_in run in_line class_of is_blank
comment_end p [] = refl
comment_end p (b ∷ bs) = go (eqb b 10) refl (comment_end (suc p) bs)
  where
    go : (v : Bool) → eqb b 10 ≡ v → fault_in comment (suc p) bs ≡ fault_in outside (suc p + length (run in_line bs)) (drop (length (run in_line bs)) bs) → fault_in comment p (b ∷ bs) ≡ fault_in outside (p + length (run in_line (b ∷ bs))) (drop (length (run in_line (b ∷ bs))) (b ∷ bs))
    go true e h = rw (eqb-true b 10 e, add-zero)
    go false e h = rw (run_yes in_line b bs (ap not e), e, fault_in) (h ∙ ap (λ (q : ℕ). fault_in outside q (drop (length (run in_line bs)) bs)) (omega arith))

module _ (text : List ℕ) (i : ℕ) (h : i < length text) where
  pub fault_pass : passes (class_of (get_or text i 0)) ≡ true → fault_in outside i (drop i text) ≡ fault_in outside (suc i) (drop (suc i) text)
  unfolding fault_in passes
  fault_pass e = rw (drop-cons text i 0 h) (go (class_of (get_or text i 0)) e)
    where
      go : (k : Class) → passes k ≡ true → elim k as (λ x. Fault) [ blank ↦ fault_in outside (suc i) (drop (suc i) text) | opener ↦ fault_in outside (suc i) (drop (suc i) text) | closer ↦ fault_in outside (suc i) (drop (suc i) text) | quote ↦ fault_in (string i 0) (suc i) (drop (suc i) text) | semicolon ↦ fault_in comment (suc i) (drop (suc i) text) | letter ↦ fault_in outside (suc i) (drop (suc i) text) | other ↦ fault 3 i ] ≡ fault_in outside (suc i) (drop (suc i) text)
      go blank p = refl
      go opener p = refl
      go closer p = refl
      go quote p = absurd (false≢true p)
      go semicolon p = absurd (false≢true p)
      go letter p = refl
      go other p = absurd (false≢true p)

  pub fault-other : class_of (get_or text i 0) ≡ other → fault_in outside i (drop i text) ≡ fault 3 i
  unfolding fault_in
  fault-other e = rw (drop-cons text i 0 h) (rw (e, fault_in))

  pub fault-quote : class_of (get_or text i 0) ≡ quote → fault_in outside i (drop i text) ≡ fault_in (string i 0) (suc i) (drop (suc i) text)
  unfolding fault_in
  fault-quote e = rw (drop-cons text i 0 h) (rw (e, fault_in))

  pub fault-comment : class_of (get_or text i 0) ≡ semicolon → fault_in outside i (drop i text) ≡ fault_in outside (suc i + length (run in_line (drop (suc i) text))) (drop (suc i + length (run in_line (drop (suc i) text))) text)
  unfolding fault_in
  fault-comment e = rw (drop-cons text i 0 h) (rw (e, fault_in) (comment_end (suc i) (drop (suc i) text) ∙ rw (drop-drop (length (run in_line (drop (suc i) text))) (suc i) text)))

  -- the same bytes in a string, n of whose bytes stand before
  module _ (q n : ℕ) where
    pub string-closed : get_or text i 0 ≡ 34 → fault_in (string q n) i (drop i text) ≡ fault_in outside (suc i) (drop (suc i) text)
    unfolding fault_in
    string-closed e = rw (drop-cons text i 0 h) (rw (eq-eqb _ _ e, fault_in))

    pub string_long : (get_or text i 0 ≡ 34 → ⊥) → 255 ≤ n → fault_in (string q n) i (drop i text) ≡ fault 4 q
    unfolding fault_in
    string_long e l = rw (drop-cons text i 0 h) (rw (ne_eqb _ _ e, le-ltb n 255 l, fault_in))

    pub string_stray : (get_or text i 0 ≡ 34 → ⊥) → n < 255 → is_content (get_or text i 0) ≡ false → fault_in (string q n) i (drop i text) ≡ fault 3 i
    unfolding fault_in
    string_stray e l b = rw (drop-cons text i 0 h) (rw (ne_eqb _ _ e, lt-ltb n 255 l, b, fault_in))

    pub string_more : (get_or text i 0 ≡ 34 → ⊥) → n < 255 → is_content (get_or text i 0) ≡ true → fault_in (string q n) i (drop i text) ≡ fault_in (string q (suc n)) (suc i) (drop (suc i) text)
    unfolding fault_in
    string_more e l b = rw (drop-cons text i 0 h) (rw (ne_eqb _ _ e, lt-ltb n 255 l, b, fault_in))

-- at the text's end
pub fault_end : (text : List ℕ) (i : ℕ) → length text ≤ i → fault_in outside i (drop i text) ≡ clear
unfolding fault_in
fault_end text i h = rw (drop_of_length-le text h)

pub string_open : (text : List ℕ) (i q n : ℕ) → length text ≤ i → fault_in (string q n) i (drop i text) ≡ fault 4 q
unfolding fault_in
string_open text i q n h = rw (drop_of_length-le text h)

-- the same place in a string, counted otherwise
pub string-same : (text : List ℕ) (q n m i j : ℕ) → n ≡ m → i ≡ j → fault_in (string q n) i (drop i text) ≡ fault_in (string q m) j (drop j text)
string-same text q n m i j e p = rw (e, p)

-- a mark: not there, there with the text's end after it, there with a byte after it
pub mark_no : (mark text : List ℕ) → same (take 4 text) mark ≡ false → begins mark text ≡ false
unfolding begins
mark_no mark text e = rw (e, begins)

pub mark_end : (mark text : List ℕ) → same (take 4 text) mark ≡ true → length text ≤ 4 → begins mark text ≡ true
unfolding begins blank_or_end
mark_end mark text e h = rw (e, begins, drop_of_length-le text h)

pub mark_byte : (mark text : List ℕ) → same (take 4 text) mark ≡ true → 4 < length text → begins mark text ≡ is_blank (get_or text 4 0)
unfolding begins blank_or_end
mark_byte mark text e h = rw (e, begins, drop-cons text 4 0 h)
