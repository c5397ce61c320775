-- Whether bytes have no fault is `sound`, which knows no offsets: letters, strings and comments passed as runs, by induction on the bytes.
use mathlib.Core.Path.{◌≡◌, refl, ap, ◌∙◌}
use mathlib.Core.List.{List, [], ◌∷◌}
use mathlib.Core.Bool.{Bool, true, false, not, ◌&&◌, and-false}
use Prim.Native.Nat.{ℕ, zero, suc, ◌+◌, ◌≤◌}
use native.Mathlib.Nat.{add-zero}
use native.Mathlib.Omega.{arith}
use borrow.Author.Tests.{ltb-true, ltb-false, lt-ltb, le-leb, lt-leb}
use lib.Dec.{leb, ltb, eqb, leb-suc-suc}
use lib.ListN.{length, drop}
use Rattle.text_bytes.specs.Bytes.{Class, blank, opener, closer, quote, semicolon, letter, other, class_of, is_letter, in_line, in_string, is_content}
use Rattle.text_runs.specs.Runs.{run}
use Rattle.text_runs.proofs.Runs.{run_yes, run_no}
use Rattle.refusal.specs.Faults.{is_clear}
use Rattle.refusal.specs.FirstBad.{all}
use Rattle.text_check.specs.Faults.{outside, string, fault_in}
use Rattle.text_check.proofs.Scanning.{comment_end}
use Rattle.text_check.proofs.Strings.{letters_pass}
use Rattle.text_notes.specs.Internal.Cuts.{taken, is_string, fine, sound}

-- the first fault of a text from an offset that is counted otherwise
fault-from : (p q : ℕ) (bs : List ℕ) → p ≡ q → fault_in outside p bs ≡ fault_in outside q bs
fault-from p q bs e = rw e

-- ---- a string

module _ (n b : ℕ) (bs : List ℕ) where
  string-here : n ≤ 255 → is_string n [] (b ∷ bs) ≡ true
  unfolding is_string all
  string-here h = let j : n + 0 ≡ n = omega arith in rw (j, lt-ltb 0 (suc (length bs)) (omega arith), le-leb n 255 h)

  module _ (rs : List ℕ) where
    string_more : is_content b ≡ true → is_string n (b ∷ rs) (b ∷ bs) ≡ is_string (suc n) rs bs
    unfolding is_string all
    string_more h =
        let j : n + suc (length rs) ≡ suc n + length rs = omega arith in
        rw (j, h, leb-suc-suc (suc (length rs)) (length bs))

    string_stray : is_content b ≡ false → is_string n (b ∷ rs) (b ∷ bs) ≡ false
    unfolding is_string all
    string_stray h = rw (h, and-false (leb (n + suc (length rs)) 255), and-false (ltb (suc (length rs)) (suc (length bs))))

    string_long : 255 ≤ n → is_string n (b ∷ rs) (b ∷ bs) ≡ false
    unfolding is_string all
    string_long h = rw (lt-leb (n + suc (length rs)) 255 (omega arith), and-false (ltb (suc (length rs)) (suc (length bs))))

string_end : (q n p : ℕ) (bs : List ℕ) → n ≤ 255 → is_clear (fault_in (string q n) p bs) ≡ (is_string n (run in_string bs) bs && is_clear (fault_in outside (p + suc (length (run in_string bs))) (drop (suc (length (run in_string bs))) bs)))
unfolding fault_in run is_string is_clear
string_end q n p [] h = refl
string_end q n p (b ∷ bs) h = go (eqb b 34) (ltb n 255) (is_content b) refl refl refl (string_end q (suc n) (suc p) bs)
  where
    go : (v u c : Bool) → eqb b 34 ≡ v → ltb n 255 ≡ u → is_content b ≡ c → (suc n ≤ 255 → is_clear (fault_in (string q (suc n)) (suc p) bs) ≡ (is_string (suc n) (run in_string bs) bs && is_clear (fault_in outside (suc p + suc (length (run in_string bs))) (drop (suc (length (run in_string bs))) bs)))) → is_clear (fault_in (string q n) p (b ∷ bs)) ≡ (is_string n (run in_string (b ∷ bs)) (b ∷ bs) && is_clear (fault_in outside (p + suc (length (run in_string (b ∷ bs)))) (drop (suc (length (run in_string (b ∷ bs)))) (b ∷ bs))))
    go true u c o w y ih = rw (run_no in_string b bs (unfold in_string in (ap not o)), string-here n b bs h, o, fault_in) (ap is_clear (fault-from (suc p) (p + 1) bs (omega arith)))
    go false true true o w y ih =
        let j : p + suc (suc (length (run in_string bs))) ≡ suc p + suc (length (run in_string bs)) = omega arith in
        rw (run_yes in_string b bs (unfold in_string in (ap not o)), string_more n b bs (run in_string bs) y, j, o, w, y, fault_in) (ih (ltb-true n 255 w))
    go false true false o w y ih = rw (run_yes in_string b bs (unfold in_string in (ap not o)), string_stray n b bs (run in_string bs) y, o, w, y, fault_in)
    go false false c o w y ih = rw (run_yes in_string b bs (unfold in_string in (ap not o)), string_long n b bs (run in_string bs) (ltb-false n 255 w), o, w, fault_in)

-- ---- all bytes, of which the first k belong to what stands before them

pub clear-sound : (k p : ℕ) (bs : List ℕ) → is_clear (fault_in outside (p + k) (drop k bs)) ≡ sound k bs
unfolding fault_in taken fine sound is_clear
clear-sound zero p [] = refl
clear-sound (suc k) p [] = refl
clear-sound (suc k) p (b ∷ bs) = let j : p + suc k ≡ suc p + k = omega arith in rw j (clear-sound k (suc p) bs)
clear-sound zero p (b ∷ bs) = rw add-zero (go (class_of b) refl (λ k. clear-sound k (suc p) bs))
  where
    go : (c : Class) → class_of b ≡ c → ((k : ℕ) → is_clear (fault_in outside (suc p + k) (drop k bs)) ≡ sound k bs) → is_clear (fault_in outside p (b ∷ bs)) ≡ sound 0 (b ∷ bs)
    go blank o ih = rw (o, fault_in, sound) (ap is_clear (fault-from (suc p) (suc p + 0) bs (omega arith)) ∙ ih 0)
    go opener o ih = rw (o, fault_in, sound) (ap is_clear (fault-from (suc p) (suc p + 0) bs (omega arith)) ∙ ih 0)
    go closer o ih = rw (o, fault_in, sound) (ap is_clear (fault-from (suc p) (suc p + 0) bs (omega arith)) ∙ ih 0)
    go quote o ih = rw (o, fault_in, sound) (string_end p 0 (suc p) bs (omega arith) ∙ ap (λ (x : Bool). is_string 0 (run in_string bs) bs && x) (ih (suc (length (run in_string bs)))))
    go semicolon o ih = rw (o, fault_in, sound) (ap is_clear (comment_end (suc p) bs) ∙ ih (length (run in_line bs)))
    go letter o ih = rw (o, fault_in, sound) (ap is_clear (letters_pass (suc p) bs) ∙ ih (length (run is_letter bs)))
    go other o ih = rw (o, fault_in, sound)
