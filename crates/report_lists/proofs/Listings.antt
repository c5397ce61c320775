-- A listing by its two cases, a refusal or lists; and a buffer that every listing fits in.
use mathlib.Core.Path.{◌≡◌, refl, ap, ◌∙◌}
use mathlib.Core.List.{List, [], ◌∷◌, map}
use mathlib.Core.Bool.{Bool, true, false}
use Prim.Native.Nat.{ℕ, ◌+◌, ◌*◌, ◌≤◌}
use native.Mathlib.Omega.{arith}
use lib.Dec.{eqb}
use lib.IntN.{ℤ}
use lib.ListN.{length, take, length-append}
use Rattle.text_bytes.specs.Bytes.{bytes}
use Rattle.report_text.specs.Text.{line}
use Rattle.report_text.specs.Output.{Output, output, appended}
use Rattle.report_lists.specs.Lists.{appended_each, text_of, RowList, list_lines, shown, first_line, listing_lines}
use Rattle.report_lists.proofs.Texts.{AllFit, narrow, lists_most, counts-most, each_within, each_whole}

module _ (word : List ℕ) (refusal place total : ℕ) where
  pub first_taken : eqb refusal 0 ≡ true → first_line word refusal place total ≡ line word (map shown (total ∷ []))
  unfolding first_line
  first_taken e = rw (e, first_line)

  pub first-refused : eqb refusal 0 ≡ false → first_line word refusal place total ≡ line (bytes "refused") (map shown (refusal ∷ place ∷ []))
  unfolding first_line
  first-refused e = rw (e, first_line)

  first-most : length word ≤ 34 → length (first_line word refusal place total) ≤ 56
  unfolding bytes
  first-most h = go (eqb refusal 0) refl
    where
      go : (v : Bool) → eqb refusal 0 ≡ v → length (first_line word refusal place total) ≤ 56
      go true e = rw (first_taken e) (omega (arith, counts-most word (total ∷ [])))
      go false e = rw (first-refused e) (omega (arith, counts-most (bytes "refused") (refusal ∷ place ∷ [])))

  module _ (ls : List RowList) (zs : List ℤ) where
    abbrev lines : List (List ℕ)
    lines = listing_lines word refusal place total ls zs

    -- what is said of how many bytes are filled and of the buffer
    abbrev Said : ℕ → List ℕ → List ℕ → Type 0
    Said m buf buf' = (output m buf' ≡ appended_each (output 0 buf) lines) × ((m ≤ length buf') × (length (text_of lines) ≤ length buf → take m buf' ≡ text_of lines))

    said : (m : ℕ) (buf buf' : List ℕ) → output m buf' ≡ appended_each (output 0 buf) lines → Said m buf buf'
    said m buf buf' e = (e, (each_within 0 m buf buf' lines e (omega arith), λ h. each_whole m buf buf' lines e h))

    -- a first line, and the lists after it where nothing is refused
    pub said_taken : (n m : ℕ) (buf part buf' : List ℕ) → eqb refusal 0 ≡ true → output n part ≡ appended (output 0 buf) (first_line word refusal place total) → output m buf' ≡ appended_each (output n part) (list_lines ls zs) → Said m buf buf'
    unfolding listing_lines appended_each
    said_taken n m buf part buf' e p q = said m buf buf' (q ∙ rw (e, listing_lines) (ap (λ (o : Output). appended_each o (list_lines ls zs)) p))

    pub said_refused : (m : ℕ) (buf buf' : List ℕ) → eqb refusal 0 ≡ false → output m buf' ≡ appended (output 0 buf) (first_line word refusal place total) → Said m buf buf'
    unfolding listing_lines appended_each
    said_refused m buf buf' e p = said m buf buf' (rw (e, listing_lines) p)

    -- 28 bytes for each number and for two more hold every listing
    pub listing-most : length word ≤ 34 → narrow ls ≡ true → AllFit zs → length (text_of lines) ≤ 28 * (length zs + 2)
    unfolding listing_lines text_of
    listing-most h short fit = go (eqb refusal 0) refl
      where
        go : (v : Bool) → eqb refusal 0 ≡ v → length (text_of lines) ≤ 28 * (length zs + 2)
        go true e = rw (e, listing_lines) (omega (arith, length-append (first_line word refusal place total) (text_of (list_lines ls zs)), first-most h, lists_most ls zs short fit))
        go false e = rw (e, listing_lines) (omega (arith, length-append (first_line word refusal place total) [], first-most h))
