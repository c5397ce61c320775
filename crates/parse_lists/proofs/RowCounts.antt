-- How many items a list can have: no more than the tokens that it is read from.
use mathlib.Core.Path.{◌≡◌, refl, ap, sym}
use mathlib.Core.List.{List, [], ◌∷◌}
use mathlib.Core.Bool.{Bool, true, false}
use Prim.Native.Nat.{ℕ, zero, suc, ◌≤◌}
use native.Mathlib.Omega.{arith}
use lib.IntN.{ℤ}
use lib.ListN.{length}
use Rattle.text_tokens.specs.Tokens.{Lexeme, lex_at}
use Rattle.text_numerals.specs.Numbers.{Form}
use Rattle.std.proofs.Common.{Ok, Err}
use Rattle.parse_spec.specs.Readers.{Got, got, refused, Reader, after, ◌>>=◌, pure, token_of, rest, many_in, many, row_of}
use Rattle.text_kinds.specs.Kinds.{is_closing}
use Rattle.parse_cursor.specs.Internal.Cursors.{Cursor, reads, from}
use Rattle.table_rows.specs.Internal.Overlay.{overlay_at}
use Rattle.parse_lists.specs.Internal.ListsInto.{rows_into}
use Rattle.table_rows.specs.Flat.{flat}
use Rattle.parse_spec.proofs.Many.{not-got, got-value, stop-not}
use Rattle.parse_spec.proofs.TokenCounts.{lex_at_count}

-- one item more than a list of at most n
one_more : {A : Type 0} (n : ℕ) (a : A) (g : Got (List A)) (l : List A) (k : List Lexeme) → ((m : List A) (j : List Lexeme) → g ≡ got m j → length m ≤ n) → after g (λ m. pure (a ∷ m)) ≡ got l k → length l ≤ suc n
unfolding after pure
one_more n a (got m j) l k h e = let z : a ∷ m ≡ l = got-value (a ∷ m) l j k e in rw (← z) (omega (arith, h m j refl))
one_more n a (refused i p) l k h e = absurd (not-got i p l k e)

each_more : {A : Type 0} (n : ℕ) (r : Reader A) (g : Got A) (l : List A) (k : List Lexeme) → ((ms : List Lexeme) (m : List A) (j : List Lexeme) → many_in n r ms ≡ got m j → length m ≤ n) → after g (λ a. many_in n r >>= λ m. pure (a ∷ m)) ≡ got l k → length l ≤ suc n
unfolding after ◌>>=◌
each_more n r (got a ms) l k h e = one_more n a (many_in n r ms) l k (h ms) e
each_more n r (refused i p) l k h e = absurd (not-got i p l k e)

many_in_count : {A : Type 0} (n : ℕ) (r : Reader A) (ms : List Lexeme) (l : List A) (k : List Lexeme) → many_in n r ms ≡ got l k → length l ≤ n
unfolding many_in
many_in_count zero r ms l k e = absurd (stop-not 5 ms l k e)
many_in_count (suc n) r ms l k e = go (is_closing (token_of ms)) refl (many_in_count n r)
  where
    go : (v : Bool) → is_closing (token_of ms) ≡ v → ((ms : List Lexeme) (m : List _) (j : List Lexeme) → many_in n r ms ≡ got m j → length m ≤ n) → length l ≤ suc n
    go true q h = let z : [] ≡ l = got-value [] l (rest ms) k (rw (q, many_in) at e) in rw (← z) (omega arith)
    go false q h = each_more n r (r ms) l k h (unfold ◌>>=◌ in (rw (q, many_in) at e))

pub many_count : {A : Type 0} (r : Reader A) (ms : List Lexeme) (l : List A) (k : List Lexeme) → many r ms ≡ got l k → length l ≤ length ms
unfolding many
many_count r ms l k e = many_in_count (length ms) r ms l k e

-- the count of rows that were read
valued : (g : Got (List (List ℤ))) (i n bound : ℕ) (t t' : List ℤ) (k : List Lexeme) → ((l : List (List ℤ)) (j : List Lexeme) → g ≡ got l j → length l ≤ bound) → after {B = ℕ × List ℤ} g (λ rs. pure (length rs, overlay_at i (flat rs) t)) ≡ got (n, t') k → n ≤ bound
unfolding after pure
valued (got l j) i n bound t t' k h e = let z = got-value _ _ j k e in let y : length l ≡ n = ap (λ (p : ℕ × List ℤ). p.0) z in rw (← y) (h l j refl)
valued (refused a p) i n bound t t' k h e = absurd (not-got a p _ k e)

pub rows-counted : (text : List ℕ) (c : Cursor) (d : ℕ) (w : List ℕ) (lead : ℕ) (f : Form) (width i n : ℕ) (t t' : List ℤ) → reads text (Ok d) (n, t') ≡ from text c (rows_into w lead f width i t) → n ≤ suc (length text)
unfolding from pure rows_into ◌>>=◌
rows-counted text (Ok at) d w lead f width i n t t' e =
    omega (arith, valued (many (row_of w lead f width) (lex_at text at)) i n (length (lex_at text at)) t t' _ (many_count (row_of w lead f width) (lex_at text at)) (sym e), lex_at_count text at)
rows-counted text (Err x) d w lead f width i n t t' e = absurd (not-got _ _ _ _ (sym e))
