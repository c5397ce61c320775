-- Lines that all fit are put as one text, by induction on the lines; and how long the text of lists of rows is at most.
use mathlib.Core.Path.{◌≡◌, refl, ap, sym, ◌∙◌}
use mathlib.Core.List.{List, [], ◌∷◌, ◌++◌, append-nil, map}
use mathlib.Core.Bool.{Bool, true, false, true≢false}
use Prim.Native.Nat.{ℕ, zero, suc, ◌+◌, ◌-◌, ◌*◌, ◌≤◌}
use native.Mathlib.Nat.{suc-mul, zero-mul, add-zero}
use native.Mathlib.Omega.{arith}
use borrow.Author.Tests.{leb-true, leb-false}
use lib.Dec.{leb}
use lib.IntN.{ℤ}
use lib.ListN.{length, take, drop, length-append, length-drop, length-map, take-append-drop}
use lib.Seq.{length-take-le, drop-drop}
use mir.Syntax.{w64}
use mir.Val.{SFits, to_z, of_z}
use mir.Facts.{to_z-of_z}
use Rattle.report_text.specs.Text.{numeral, fields, line}
use Rattle.report_text.specs.Output.{Output, output, appended}
use Rattle.report_lists.specs.Lists.{appended_each, text_of, RowList, row_list, row_lines, list_lines, shown, Listing, listing, listed}
use Rattle.report_text.proofs.Appending.{split, put, filled, filled-length, filled_then, within, count, size}
use Rattle.report_text.proofs.Numerals.{numeral-most}
use Rattle.report_rows.proofs.Lines.{line-length}
use Rattle.report_lists.proofs.Lists.{shown_small, shown_large}

-- ---- one piece after another

pub each_both : (o : Output) (ks ls : List (List ℕ)) → appended_each o (ks ++ ls) ≡ appended_each (appended_each o ks) ls
unfolding appended_each
each_both o [] ls = refl
each_both o (k ∷ ks) ls = each_both (appended o k) ks ls

-- all lists of a table one after the other
unfoldable pub all_listed : Listing → List RowList → Listing
all_listed s [] = s
all_listed s (l ∷ ls) = all_listed (listed s l) ls

pub next_list : {s t u : Listing} (l : RowList) → u ≡ listed t l → t ≡ s → u ≡ listed s l
next_list l e f = e ∙ ap (λ (s : Listing). listed s l) f

-- what is put
unfoldable pub put_of : Listing → Output
put_of (listing o zs) = o

pub all_lines : (o : Output) (zs : List ℤ) (ls : List RowList) → put_of (all_listed (listing o zs) ls) ≡ appended_each o (list_lines ls zs)
unfolding put_of all_listed listed list_lines appended_each
all_lines o zs [] = refl
all_lines o zs (row_list word width count ∷ ls) =
    all_lines (appended_each o (row_lines word width count zs)) (drop (count * width) zs) ls
    ∙ sym (each_both o (row_lines word width count zs) (list_lines ls (drop (count * width) zs)))

-- ---- lines that all fit

-- a line that fits, and the lines after it
pub each_put : (n : ℕ) (buf : List ℕ) (ls : List (List ℕ)) → n + length (text_of ls) ≤ length buf → appended_each (output n buf) ls ≡ appended (output n buf) (text_of ls)
unfolding appended_each text_of
each_put n buf [] h = sym (put n buf [] h ∙ rw (add-zero n, append-nil (take n buf), take-append-drop n buf))
each_put n buf (l ∷ ls) h =
    let e : length (l ++ text_of ls) ≡ length l + length (text_of ls) = length-append l (text_of ls) in
    let p : appended (output n buf) l ≡ output (n + length l) (filled n buf l) = put n buf l (omega arith) in
    let s : length (filled n buf l) ≡ length buf = filled-length n buf l (omega arith) in
    rw p (each_put (n + length l) (filled n buf l) ls (omega arith)) ∙ sym (rw p at (split n buf l (text_of ls) h))

pub each_whole : (m : ℕ) (buf buf' : List ℕ) (ls : List (List ℕ)) → output m buf' ≡ appended_each (output 0 buf) ls → length (text_of ls) ≤ length buf → take m buf' ≡ text_of ls
each_whole m buf buf' ls e h = filled_then 0 m buf buf' (text_of ls) (e ∙ each_put 0 buf ls (omega arith)) (omega arith)

-- ---- how long a text is at most

-- numbers of 64 bits, as every table's are
unfoldable pub AllFit : List ℤ → Type 0
AllFit [] = Unit {0}
AllFit (z ∷ zs) = SFits w64 z × AllFit zs

pub fit_take : (n : ℕ) (zs : List ℤ) → AllFit zs → AllFit (take n zs)
unfolding AllFit
fit_take zero zs a = tt
fit_take (suc n) [] a = tt
fit_take (suc n) (z ∷ zs) a = (a.0, fit_take n zs a.1)

pub fit_drop : (n : ℕ) (zs : List ℤ) → AllFit zs → AllFit (drop n zs)
unfolding AllFit
fit_drop zero zs a = a
fit_drop (suc n) [] a = tt
fit_drop (suc n) (z ∷ zs) a = fit_drop n zs a.1

fields-most : (zs : List ℤ) → AllFit zs → length (fields zs) ≤ 21 * length zs
unfolding AllFit fields
fields-most [] a = omega arith
fields-most (z ∷ zs) a = omega (arith, length-append (9 ∷ numeral z) (fields zs), numeral-most z a.0, fields-most zs a.1)

pub line-most : (word : List ℕ) (zs : List ℤ) → AllFit zs → length (line word zs) ≤ length word + 21 * length zs + 1
line-most word zs a = omega (arith, line-length word zs, fields-most zs a)

pub text_both : (ks ls : List (List ℕ)) → length (text_of (ks ++ ls)) ≡ length (text_of ks) + length (text_of ls)
unfolding text_of
text_both [] ls = omega arith
text_both (k ∷ ks) ls = omega (arith, length-append k (text_of (ks ++ ls)), length-append k (text_of ks), text_both ks ls)

-- rows of a word and a width, of which each number brings at most 28 bytes
module _ (word : List ℕ) (width : ℕ) (narrow : length word + 1 ≤ 7 * width) where
  rows-most : (n : ℕ) (zs : List ℤ) → AllFit zs → length (text_of (row_lines word width n zs)) + 28 * length (drop (n * width) zs) ≤ 28 * length zs
  unfolding text_of row_lines
  rows-most zero zs a = rw (zero-mul width) (omega arith)
  rows-most (suc n) zs a = go (leb width (length zs)) refl (rows-most n (drop width zs) (fit_drop width zs a))
    where
      ahead : suc n * width ≡ width + n * width
      ahead = omega (arith, suc-mul n width)

      go : (v : Bool) → leb width (length zs) ≡ v → length (text_of (row_lines word width n (drop width zs))) + 28 * length (drop (n * width) (drop width zs)) ≤ 28 * length (drop width zs) → length (text_of (row_lines word width (suc n) zs)) + 28 * length (drop (suc n * width) zs) ≤ 28 * length zs
      go true e ih =
          let h : width ≤ length zs = leb-true width (length zs) e in
          let t : length (take width zs) ≡ width = length-take-le width zs h in
          let l : length (line word (take width zs)) ≤ length word + 21 * length (take width zs) + 1 = line-most word (take width zs) (fit_take width zs a) in
          let d : length (drop width zs) ≡ length zs - width = length-drop width zs in
          rw (e, row_lines, ahead, sym (drop-drop (n * width) width zs)) (omega (arith, length-append (line word (take width zs)) (text_of (row_lines word width n (drop width zs)))))
      go false e ih = rw (e, row_lines) (omega (arith, length-drop (suc n * width) zs))

-- whether each list's word is short for its width
unfoldable pub narrow : List RowList → Bool
narrow [] = true
narrow (row_list word width count ∷ ls) = elim (leb (length word + 1) (7 * width)) [ true ↦ narrow ls | false ↦ false ]

pub lists_most : (ls : List RowList) (zs : List ℤ) → narrow ls ≡ true → AllFit zs → length (text_of (list_lines ls zs)) ≤ 28 * length zs
unfolding list_lines text_of narrow
lists_most [] zs e a = omega arith
lists_most (row_list word width count ∷ ls) zs e a = go (leb (length word + 1) (7 * width)) refl (lists_most ls (drop (count * width) zs))
  where
    go : (v : Bool) → leb (length word + 1) (7 * width) ≡ v → (narrow ls ≡ true → AllFit (drop (count * width) zs) → length (text_of (list_lines ls (drop (count * width) zs))) ≤ 28 * length (drop (count * width) zs)) → length (text_of (row_lines word width count zs ++ list_lines ls (drop (count * width) zs))) ≤ 28 * length zs
    go true t ih =
        let n : narrow ls ≡ true = rw (t, narrow) at e in
        omega (arith, text_both (row_lines word width count zs) (list_lines ls (drop (count * width) zs)), rows-most word width (leb-true _ _ t) count zs a, ih n (fit_drop (count * width) zs a))
    go false t ih = absurd (true≢false (sym (rw (t, narrow) at e)))

pub shown-fits : (n : ℕ) → SFits w64 (shown n)
shown-fits n = go (leb n 9223372036854775807) refl
  where
    go : (v : Bool) → leb n 9223372036854775807 ≡ v → SFits w64 (shown n)
    go true e = rw (shown_small n (leb-true _ _ e)) (record { sfits = omega (arith, leb-true n 9223372036854775807 e) })
    go false e = rw (shown_large n (leb-false _ _ e)) (record { sfits = omega arith })

-- a count comes back from its bits
pub held : (n : ℕ) (z : ℤ) → z ≡ shown n → to_z w64 (of_z w64 z) ≡ shown n
held n z e = rw e (to_z-of_z {w = w64} (shown-fits n))

-- a line of counts, which all fit
counts_fit : (ns : List ℕ) → AllFit (map shown ns)
unfolding AllFit
counts_fit [] = tt
counts_fit (n ∷ ns) = (shown-fits n, counts_fit ns)

pub counts-most : (word : List ℕ) (ns : List ℕ) → length (line word (map shown ns)) ≤ length word + 21 * length ns + 1
counts-most word ns = rw (length-map ns shown) at (line-most word (map shown ns) (counts_fit ns))

-- ---- what is filled stays within the buffer

pub each_within : (n m : ℕ) (buf buf' : List ℕ) (ls : List (List ℕ)) → output m buf' ≡ appended_each (output n buf) ls → n ≤ length buf → m ≤ length buf'
unfolding appended_each
each_within n m buf buf' [] e h = let c : m ≡ n = ap count e in let s : length buf' ≡ length buf = ap size e in omega arith
each_within n m buf buf' (l ∷ ls) e h = go (appended (output n buf) l) refl (λ k part. each_within k m part buf' ls)
  where
    go : (o : Output) → appended (output n buf) l ≡ o → ((k : ℕ) (part : List ℕ) → output m buf' ≡ appended_each (output k part) ls → k ≤ length part → m ≤ length buf') → m ≤ length buf'
    go (output k part) q ih = ih k part (e ∙ ap (λ (o : Output). appended_each o ls) q) (within n k buf part l (sym q) h).0
