-- The code's array of lists, gone through: a list that is put is the next of those left.
use Rattle.std.proofs.Common.{◌≡◌, ◌<◌, ◌≤◌, ◌+◌, ℕ, List, length, drop, get_or, map, refl, add-one}
use denote.Bor.{Bor}
use lib.ListN.{drop_of_length-le}
use lib.Seq.{drop-cons}
use Rattle.report_lists.specs.Lists.{RowList, row_list, Listing, listed}
use Rattle.report_lists.proofs.Texts.{all_listed}

-- a word, how many numbers a row has, and how many rows there are
abbrev pub Item : Type 0
Item = Bor (List ℕ) × ℕ × ℕ

abbrev pub list_of : Item → RowList
list_of x = row_list x.0.now x.1 x.2

pub next_item : (xs : List Item) (i : ℕ) (d : Item) (s u : Listing) → i < length xs → u ≡ listed s (list_of (get_or xs i d)) → all_listed u (map list_of (drop (i + 1) xs)) ≡ all_listed s (map list_of (drop i xs))
unfolding all_listed
next_item xs i d s u h e = rw (e, add-one i, drop-cons xs i d h) refl

-- once none is left, all are put
pub all_put : (xs : List Item) (i : ℕ) (s t : Listing) → length xs ≤ i → all_listed s (map list_of (drop i xs)) ≡ t → s ≡ t
unfolding all_listed
all_put xs i s t h e = rw (drop_of_length-le xs h) at e
