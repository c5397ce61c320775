-- Laws of lists put down row by row, by the definition's cases; a text that fits is put whole.
use mathlib.Core.Path.{◌≡◌, ap, sym, ◌∙◌}
use mathlib.Core.List.{List, [], ◌∷◌}
use Prim.Native.Nat.{ℕ, zero, suc, ◌+◌, ◌-◌, ◌*◌, ◌≤◌, ◌<◌, min}
use native.Mathlib.Nat.{suc-mul, zero-mul}
use native.Mathlib.Omega.{arith}
use borrow.Author.Tests.{le-leb, lt-leb}
use lib.IntN.{ℤ, pos, negsuc}
use lib.ListN.{length, take, drop, length-drop, drop_of_length-le}
use lib.Seq.{drop-drop, drop-nil}
use Rattle.report_text.specs.Text.{line}
use Rattle.report_text.specs.Output.{Output, output, appended}
use Rattle.report_lists.specs.Lists.{appended_each, row_list, row_lines, shown, Listing, listing, listed, reached}
use Rattle.report_lists.specs.declared.list.Progress.{Progress}

pub shown_small : (n : ℕ) → n ≤ 9223372036854775807 → shown n ≡ pos n
unfolding shown
shown_small n h = rw (le-leb n 9223372036854775807 h, shown)

pub shown_large : (n : ℕ) → 9223372036854775807 < n → shown n ≡ negsuc 0
unfolding shown
shown_large n h = rw (lt-leb n 9223372036854775807 h, shown)

-- ---- a list, by how many rows are left

pub listed_none : (o : Output) (zs : List ℤ) (word : List ℕ) (width : ℕ) → listed (listing o zs) (row_list word width 0) ≡ listing o zs
unfolding listed row_lines appended_each
listed_none o zs word width = rw (zero-mul width)

module _ (o : Output) (zs : List ℤ) (word : List ℕ) (width n : ℕ) where
  pub listed-row : width ≤ length zs → listed (listing o zs) (row_list word width (suc n)) ≡ listed (listing (appended o (line word (take width zs))) (drop width zs)) (row_list word width n)
  unfolding listed row_lines appended_each
  listed-row h =
      let k : suc n * width ≡ width + n * width = omega (arith, suc-mul n width) in
      let e : drop (suc n * width) zs ≡ drop (n * width) (drop width zs) = ap (λ (k : ℕ). drop k zs) k ∙ sym (drop-drop (n * width) width zs) in
      rw (le-leb width (length zs) h, row_lines, e)

  pub listed_out : length zs < width → listed (listing o zs) (row_list word width (suc n)) ≡ listing o []
  unfolding listed row_lines appended_each
  listed_out h = rw (lt-leb width (length zs) h, row_lines, drop_of_length-le zs {i = suc n * width} (omega (arith, suc-mul n width)))

-- an index past the table's end is its end
pub drop_least : (i : ℕ) (zs : List ℤ) → drop (min i (length zs)) zs ≡ drop i zs
drop_least zero zs = let e : min 0 (length zs) ≡ 0 = omega arith in rw e
drop_least (suc i) [] = drop-nil (min (suc i) 0)
drop_least (suc i) (z ∷ zs) = let e : min (suc i) (suc (length zs)) ≡ suc (min i (length zs)) = omega arith in rw e (drop_least i zs)

-- ---- the turns of `append_list`

pub begins : (p : Progress) (buf : List ℕ) (table : List ℤ) (i : ℕ) → i ≡ min p.at (length table) → listing (output p.filled buf) (drop i table) ≡ reached p buf table
unfolding reached
begins p buf table i e = ap (λ (zs : List ℤ). listing (output p.filled buf) zs) (ap (λ (k : ℕ). drop k table) e ∙ drop_least p.at table)

module _ (n at width left : ℕ) (buf word : List ℕ) (table : List ℤ) where
  -- what is still to be done
  abbrev pub to_go : Listing
  to_go = listed (listing (output n buf) (drop at table)) (row_list word width left)

  more : 0 < left → left ≡ suc (left - 1)
  more h = omega arith

  none : left ≤ 0 → left ≡ 0
  none h = omega arith

  pub row_put :
      (m : ℕ) (buf' : List ℕ) →
      at + width ≤ length table →
      0 < left →
      output m buf' ≡ appended (output n buf) (line word (take (at + width - at) (drop at table))) →
      to_go ≡ listed (listing (output m buf') (drop (at + width) table)) (row_list word width (left - 1))
  row_put m buf' h l e =
      let w : at + width - at ≡ width = omega arith in
      ap (λ (k : ℕ). listed (listing (output n buf) (drop at table)) (row_list word width k)) (more l)
      ∙ listed-row (output n buf) (drop at table) word width (left - 1) (omega (arith, length-drop at table))
      ∙ rw (drop-drop width at table, e, w)

  pub rows_out : at ≤ length table → length table < at + width → 0 < left → to_go ≡ listing (output n buf) (drop (length table) table)
  rows_out h s l =
      ap (λ (k : ℕ). listed (listing (output n buf) (drop at table)) (row_list word width k)) (more l)
      ∙ listed_out (output n buf) (drop at table) word width (left - 1) (omega (arith, length-drop at table))
      ∙ rw (drop_of_length-le table {i = length table} (omega arith))

  pub rows_end_lem : left ≤ 0 → to_go ≡ listing (output n buf) (drop at table)
  rows_end_lem l =
      ap (λ (k : ℕ). listed (listing (output n buf) (drop at table)) (row_list word width k)) (none l)
      ∙ listed_none (output n buf) (drop at table) word width
