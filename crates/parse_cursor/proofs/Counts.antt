-- That a reader which takes a token leaves fewer, from a cursor on.
use mathlib.Core.Path.{◌≡◌, refl, ap, sym}
use mathlib.Core.List.{List}
use Prim.Native.Nat.{ℕ, ◌≤◌, ◌<◌, min}
use native.Mathlib.Omega.{arith}
use lib.ListN.{length}
use Rattle.std.proofs.Common.{Ok, Err}
use Rattle.text_tokens.specs.Tokens.{tokens, lex_at, lex}
use Rattle.parse_spec.specs.Readers.{Reader, pure}
use Rattle.parse_cursor.specs.Internal.Cursors.{Cursor, reads, from}
use Rattle.parse_spec.proofs.Many.{Keeps, Takes, not-got}

-- a reader that has not refused found a cursor that had not
pub alive : {A : Type 0} (text : List ℕ) (d : Cursor) (e : ℕ) (r : Reader A) (a : A) → reads text (Ok e) a ≡ from text d r → (at : ℕ) × (d ≡ Ok at)
unfolding from pure
alive text (Ok at) e r a p = (at, refl)
alive text (Err x) e r a p = absurd (not-got _ _ a _ (sym p))

-- a reader that takes a token, from offset d to e
pub falls : {A : Type 0} (text : List ℕ) (d e : ℕ) (r : Reader A) (a : A) → Takes r → reads text (Ok e) a ≡ from text (Ok d) r → length (lex_at text e) < length (lex_at text d)
unfolding from pure
falls text d e r a t p = t.less _ a _ (sym p)

-- a reader that takes no token back, from offset d to e
pub short : {A : Type 0} (text : List ℕ) (d e : ℕ) (r : Reader A) (a : A) → Keeps r → reads text (Ok e) a ≡ from text (Ok d) r → length (lex_at text e) ≤ length (lex_at text d)
unfolding from pure
short text d e r a k p = k _ a _ (sym p)

-- from a text's first byte on
pub whole-text : {A : Type 0} (text : List ℕ) (r : Reader A) → from text (Ok 0) r ≡ r (lex text)
unfolding from lex lex_at
whole-text text r =
    let z : min 0 (length text) ≡ 0 = omega arith in
    ap (λ (p : ℕ). r (tokens 0 p text)) z
