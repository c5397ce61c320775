-- `get`, `copied` and `unwrap_or(0)` of a slice of numbers: the number there, or 0 past the end.
use Rattle.std.proofs.Common.{◌≡◌, ℕ, List, sym, length, Option, Some, None, unwrap_or, Bor}
use Rattle.std.proofs.lemmas.List.{get_or_read, get_or_past}
use Rattle.std.specs.Option.{is_some, option_copied, IfSome}
use borrow.Author.Tests.{ltb-true, ltb-false}
use lib.Dec.{ltb}
use lib.IntN.{ℤ, pos}
use lib.ListN.{get_or}

pub read_or_zero :
    (xs : List ℤ) (i : ℕ) (r : Option (Bor ℤ)) →
    is_some r ≡ ltb i (length xs) →
    IfSome r (λ (x : Bor ℤ). x.now ≡ get_or xs i x.now) →
    unwrap_or (option_copied r) (pos 0) ≡ get_or xs i (pos 0)
read_or_zero xs i None e h = sym (get_or_past xs i (pos 0) (ltb-false i (length xs) (sym e)))
read_or_zero xs i (Some x) e h = get_or_read xs i x.now (ltb-true i (length xs) (sym e)) h (pos 0)
