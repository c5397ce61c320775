-- Every string of a text that passes the refusals 1 to 4 stands in it: tokens and faults go along the bytes side by side.
use mathlib.Core.Path.{◌≡◌, refl, ap, sym, ◌∙◌}
use mathlib.Core.List.{List, [], ◌∷◌}
use mathlib.Core.Bool.{Bool, true, false, not, cond, ◌||◌, false≢true}
use Prim.Native.Nat.{ℕ, zero, suc, ◌+◌, ◌≤◌, ◌<◌}
use native.Mathlib.Nat.{add-zero, add-sub_cancel_left}
use native.Mathlib.Omega.{arith}
use borrow.Author.Tests.{leb-true, ltb-true, ne_eqb}
use lib.Dec.{leb, ltb, eqb}
use lib.ListN.{length, drop, length-drop}
use lib.Seq.{drop-drop}
use Rattle.text_bytes.specs.Bytes.{Class, blank, opener, closer, quote, semicolon, letter, other, class_of, is_blank, between, is_letter, in_line, in_string, is_content}
use Rattle.text_runs.specs.Runs.{run, part}
use Rattle.text_bytes.specs.Internal.Every.{Every}
use Rattle.text_tokens.specs.Tokens.{lexeme, tokens, lex}
use Rattle.text_check.specs.Internal.Strings.{StringAt, Stands}
use Rattle.text_check.specs.Faults.{outside, string, fault_in, Format, marked, text_fault}
use Rattle.refusal.specs.Faults.{clear}
use Rattle.text_runs.proofs.Runs.{run_yes, run_no, run_take}
use Rattle.text_numerals.proofs.Numerals.{and_true, between_true}
use Rattle.text_check.proofs.Scanning.{comment_end}
use Rattle.refusal.proofs.Faults.{fault-not-clear}

-- ---- a string

-- its bytes rs, the first of bs, after n others; the quote that ends it stands at p + length rs
record Ended (n p : ℕ) (rs bs : List ℕ) : Type 0 where
  most : n + length rs ≤ 255
  within : length rs < length bs
  content : Every (λ b. is_content b ≡ true) rs
  clears : fault_in outside (p + suc (length rs)) (drop (suc (length rs)) bs) ≡ clear

string-ended : (q n p : ℕ) (bs : List ℕ) → n ≤ 255 → fault_in (string q n) p bs ≡ clear → Ended n p (run in_string bs) bs
unfolding fault_in
string-ended q n p [] h e = absurd (fault-not-clear 4 q e)
string-ended q n p (b ∷ bs) h e = go (eqb b 34) (ltb n 255) (is_content b) refl refl refl (string-ended q (suc n) (suc p) bs)
  where
    further : (rs : List ℕ) → is_content b ≡ true → Ended (suc n) (suc p) rs bs → Ended n p (b ∷ rs) (b ∷ bs)
    further rs y r =
        let j : p + suc (suc (length rs)) ≡ suc p + suc (length rs) = omega arith in
        let m = r.most in
        let w = r.within in
        record { most = omega arith; within = omega arith; content = (y, r.content); clears = rw j r.clears }

    go : (v u c : Bool) → eqb b 34 ≡ v → ltb n 255 ≡ u → is_content b ≡ c → (suc n ≤ 255 → fault_in (string q (suc n)) (suc p) bs ≡ clear → Ended (suc n) (suc p) (run in_string bs) bs) → Ended n p (run in_string (b ∷ bs)) (b ∷ bs)
    go true u c o w y ih =
        let j : p + 1 ≡ suc p = omega arith in
        rw (run_no in_string b bs (unfold in_string in (ap not o))) (record { most = omega arith; within = omega arith; content = tt; clears = rw j (rw (o, fault_in) at e) })
    go false true true o w y ih = rw (run_yes in_string b bs (unfold in_string in (ap not o))) (further (run in_string bs) y (ih (ltb-true n 255 w) (rw (o, w, y, fault_in) at e)))
    go false true false o w y ih = absurd (fault-not-clear 3 p (rw (o, w, y, fault_in) at e))
    go false false c o w y ih = absurd (fault-not-clear 4 q (rw (o, w, fault_in) at e))

-- ---- a plain word

none_of : (a b c d : Bool) (x : Class) → not (a || b || c || d) ≡ true → cond a opener (cond b closer (cond c quote (cond d semicolon x))) ≡ x
none_of true b c d x e = absurd (false≢true e)
none_of false true c d x e = absurd (false≢true e)
none_of false false true d x e = absurd (false≢true e)
none_of false false false true x e = absurd (false≢true e)
none_of false false false false x e = refl

pub letter_parts : (b : ℕ) → is_letter b ≡ true → (is_blank b ≡ false) × (not (eqb b 40 || eqb b 41 || eqb b 34 || eqb b 59) ≡ true)
unfolding is_letter is_blank
letter_parts b e =
    let p = and_true (between 33 126 b) _ e in
    let h = between_true 33 126 b p.0 in
    (rw (ne_eqb b 9 (λ q. omega arith), ne_eqb b 10 (λ q. omega arith), ne_eqb b 13 (λ q. omega arith), ne_eqb b 32 (λ q. omega arith)), p.1)

pub letter_class : (b : ℕ) → is_letter b ≡ true → class_of b ≡ letter
unfolding class_of
letter_class b e = let p = letter_parts b e in rw (p.0, e) (none_of (eqb b 40) (eqb b 41) (eqb b 34) (eqb b 59) letter p.1)

-- its letters are passed over
pub letters_pass : (p : ℕ) (bs : List ℕ) → fault_in outside p bs ≡ fault_in outside (p + length (run is_letter bs)) (drop (length (run is_letter bs)) bs)
unfolding fault_in run
letters_pass p [] = refl
letters_pass p (b ∷ bs) = go (is_letter b) refl (letters_pass (suc p) bs)
  where
    go : (v : Bool) → is_letter b ≡ v → fault_in outside (suc p) bs ≡ fault_in outside (suc p + length (run is_letter bs)) (drop (length (run is_letter bs)) bs) → fault_in outside p (b ∷ bs) ≡ fault_in outside (p + length (run is_letter (b ∷ bs))) (drop (length (run is_letter (b ∷ bs))) (b ∷ bs))
    go true o ih =
        let j : p + suc (length (run is_letter bs)) ≡ suc p + length (run is_letter bs) = omega arith in
        rw (run_yes is_letter b bs o, j, letter_class b o, fault_in) ih
    go false o ih = rw (run_no is_letter b bs o, add-zero)

-- ---- all tokens

module _ (text : List ℕ) where
  one_on : (p b : ℕ) (bs : List ℕ) → drop p text ≡ b ∷ bs → drop (suc p) text ≡ bs
  one_on p b bs d = let j : p + 1 ≡ suc p = omega arith in rw (← j, ← drop-drop 1 p text, d)

  string-at : (p : ℕ) (bs : List ℕ) → drop p text ≡ bs → Ended 0 p (run in_string bs) bs → StringAt text p (run in_string bs)
  unfolding part
  string-at p bs d r =
      record {
        is = rw (add-sub_cancel_left, d) (run_take in_string bs);
        most = let h = r.most in omega arith;
        within = omega (arith, r.within, length-drop p text, ap length d);
        content = r.content;
      }

  -- of bytes that stand at p, of which the first k belong to what stands before them
  tokens_stand : (k p : ℕ) (bs : List ℕ) → drop p text ≡ bs → fault_in outside (p + k) (drop k bs) ≡ clear → Every (Stands text) (tokens k p bs)
  unfolding tokens lexeme
  tokens_stand k p [] d e = (tt, tt)
  tokens_stand (suc k) p (b ∷ bs) d e = let j : p + suc k ≡ suc p + k = omega arith in tokens_stand k (suc p) bs (one_on p b bs d) (rw j at e)
  tokens_stand zero p (b ∷ bs) d e = go (class_of b) refl (λ k. tokens_stand k (suc p) bs (one_on p b bs d))
    where
      here : fault_in outside p (b ∷ bs) ≡ clear
      here = rw add-zero at e

      passed : fault_in outside (suc p) bs ≡ clear → fault_in outside (suc p + 0) bs ≡ clear
      passed h = rw add-zero h

      go : (v : Class) → class_of b ≡ v → ((k : ℕ) → fault_in outside (suc p + k) (drop k bs) ≡ clear → Every (Stands text) (tokens k (suc p) bs)) → Every (Stands text) (tokens 0 p (b ∷ bs))
      go blank o ih = rw (o, tokens) (ih 0 (passed (unfold fault_in in (rw (o, fault_in) at here))))
      go opener o ih = rw (o, tokens) (tt, ih 0 (passed (unfold fault_in in (rw (o, fault_in) at here))))
      go closer o ih = rw (o, tokens) (tt, ih 0 (passed (unfold fault_in in (rw (o, fault_in) at here))))
      go quote o ih =
          let r = string-ended p 0 (suc p) bs (omega arith) (unfold fault_in in (rw (o, fault_in) at here)) in
          rw (o, tokens) (string-at (suc p) bs (one_on p b bs d) r, ih (suc (length (run in_string bs))) r.clears)
      go semicolon o ih = rw (o, tokens) (ih (length (run in_line bs)) (sym (comment_end (suc p) bs) ∙ unfold fault_in in (rw (o, fault_in) at here)))
      go letter o ih = rw (o, tokens) (tt, ih (length (run is_letter bs)) (sym (letters_pass (suc p) bs) ∙ unfold fault_in in (rw (o, fault_in) at here)))
      go other o ih = absurd (fault-not-clear 3 p (unfold fault_in in (rw (o, fault_in) at here)))

-- what a text that passes the refusals 1 to 4 passes: each of them
pub text-passes : (f : Format) (text : List ℕ) → text_fault f text ≡ clear → (length text ≤ 65536) × (marked f text ≡ true) × (fault_in outside 0 text ≡ clear)
unfolding text_fault
text-passes f text e = go (leb (length text) 65536) (marked f text) refl refl
  where
    go : (v m : Bool) → leb (length text) 65536 ≡ v → marked f text ≡ m → (length text ≤ 65536) × (marked f text ≡ true) × (fault_in outside 0 text ≡ clear)
    go true true o h = (leb-true (length text) 65536 o, h, rw (o, h, text_fault) at e)
    go true false o h = absurd (fault-not-clear 2 0 (rw (o, h, text_fault) at e))
    go false m o h = absurd (fault-not-clear 1 0 (rw (o, text_fault) at e))

-- 3 and 4
pub passes-bytes : (f : Format) (text : List ℕ) → text_fault f text ≡ clear → fault_in outside 0 text ≡ clear
passes-bytes f text e = (text-passes f text e).2

pub strings_stand : (f : Format) (text : List ℕ) → text_fault f text ≡ clear → Every (Stands text) (lex text)
unfolding lex
strings_stand f text e = tokens_stand text 0 0 text refl (passes-bytes f text e)
