-- `rows_within` is the lesser of a count, none below zero, and what is left.
use Rattle.std.proofs.Common.{◌≡◌, ℕ, ◌<◌, ◌^◌, ℤ, pos, Result, Ok, Err, ap, refl, ◌∙◌, arith, rules}
use Rattle.std.specs.Result.{result_unwrap_or, OkIff, IsErr}
use Rattle.std.specs.Int.{FitsUnsignedBits}
use Rattle.std.proofs.lemmas.Result.{Ok-from_Ok_iff, IsErr-from_ok_iff}
use lib.IntN.{negsuc, nat_abs}
use mir.Syntax.{w64}
use mir.Val.{SFits}
use mir.Facts.{to_z-of_z}
use Rattle.tra4_keys.specs.Internal.Keys.{count_of}
use Rattle.tra4_keys.proofs.key.rows_within.Goals as goal

none_where_refused : {E : Type 0} (r : Result ℕ E) → IsErr r → result_unwrap_or r 0 ≡ 0
none_where_refused (Ok n) h = absurd (search rules)
none_where_refused (Err e) h = refl

counted : {E : Type 0} (z : ℤ) (r : Result ℕ E) → SFits w64 z → OkIff r (FitsUnsignedBits 64 z) (nat_abs z) → result_unwrap_or r 0 ≡ count_of z
unfolding count_of
counted (pos n) r f h = let m : n < 2 ^ 63 = f.sfits in ap (λ x. result_unwrap_or x 0) (Ok-from_Ok_iff r (n < 2 ^ 64) n h (omega arith))
counted (negsuc n) r f h = none_where_refused r (IsErr-from_ok_iff r _ _ h (λ x. x))

pub returns : goal.returns
returns c =
    let e = c.unwrap_or.ensures ∙ counted _ _ c.ranges.count (rw (to_z-of_z c.ranges.count) at c.try_from.ensures) in
    rw (← e) c.min.ensures
