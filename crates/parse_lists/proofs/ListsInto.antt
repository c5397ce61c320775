-- Laws of lists of rows that are written over a table: each turn of a loop is one step of its reader, over the table as it then is.
use mathlib.Core.Path.{◌≡◌, refl, ap, sym, ◌∙◌}
use mathlib.Core.List.{List, ◌∷◌}
use mathlib.Core.Bool.{Bool, true, false}
use Prim.Native.Nat.{ℕ, suc, ◌+◌, ◌<◌, min}
use native.Mathlib.Nat.{zero-add, add-zero}
use native.Mathlib.Omega.{arith}
use native.Mathlib.Numerals.{add-one}
use lib.IntN.{ℤ}
use lib.ListN.{length}
use Rattle.text_tokens.specs.Tokens.{Lexeme, lex_at}
use Rattle.text_numerals.specs.Numbers.{Form}
use Rattle.std.proofs.Common.{Ok}
use Rattle.parse_spec.specs.Readers.{Got, got, refused, Reader, after, ◌>>=◌, ◌>>◌, pure, cells, word_of, row_of, closed, many, many⁺}
use Rattle.parse_cursor.specs.Internal.Cursors.{Cursor, from, reads}
use Rattle.table_rows.specs.Internal.Overlay.{overlay_at}
use Rattle.parse_rows.specs.Internal.Into.{row_into, row_tail}
use Rattle.parse_lists.specs.Internal.ListsInto.{rows_into, some_into}
use Rattle.table_rows.specs.Flat.{flat}
use Rattle.parse_cursor.proofs.Steps.{join, seq, from-same, onto, halt}
use Rattle.parse_spec.proofs.Binds.{after-after, after_same, after_when}
use Rattle.parse_spec.specs.Internal.Branches.{item_of}
use Rattle.parse_spec.proofs.Many.{then_takes, row_of_takes}
use Rattle.parse_cursor.proofs.Counts.{falls}
use Rattle.parse_spec.proofs.Given.{free, then_gives, closed-gives, word_leaves}
use Rattle.parse_spec.proofs.Ranges.{cells_give, row_of-gives}
use Rattle.parse_cursor.proofs.Branches.{items_end, items_more, items_off, item_takes}
use Rattle.table_rows.proofs.Tables.{overlay_at_none, overlay_at-append, overlay_at-same}
use Rattle.parse_rows.proofs.Into.{row_opens, tail_keeps, tail_parts}

-- rows up to ), where n stand already
unfoldable pub rows_on_lem : List ℕ → ℕ → Form → ℕ → ℕ → ℕ → List ℤ → Reader (ℕ × List ℤ)
rows_on_lem k lead f w n i t = many (row_of k lead f w) >>= λ rs. pure (n + length rs, overlay_at i (flat rs) t)

module _ (k : List ℕ) (lead : ℕ) (f : Form) (w : ℕ) where
  pub rows_all : (i : ℕ) (t : List ℤ) (ms : List Lexeme) → rows_into k lead f w i t ms ≡ rows_on_lem k lead f w 0 i t ms
  unfolding rows_into rows_on_lem ◌>>=◌ pure
  rows_all i t ms = after_same (many (row_of k lead f w) ms) _ _ (λ rs l. rw (zero-add (length rs)))

  -- past the table's end an index is as good as the end
  pub rows_index : (n i j : ℕ) (t : List ℤ) (ms : List Lexeme) → min i (length t) ≡ min j (length t) → rows_on_lem k lead f w n i t ms ≡ rows_on_lem k lead f w n j t ms
  unfolding rows_on_lem ◌>>=◌ pure
  rows_index n i j t ms e = after_same (many (row_of k lead f w) ms) _ _ (λ rs l. rw (overlay_at-same i j (flat rs) t e))

  -- the value with one row more
  row_more : (n i : ℕ) (t zs : List ℤ) (rs : List (List ℤ)) → length zs ≡ lead + w → ◌≡◌ {A = ℕ × List ℤ} (n + length (zs ∷ rs), overlay_at i (flat (zs ∷ rs)) t) (n + 1 + length rs, overlay_at (i + (lead + w)) (flat rs) (overlay_at i zs t))
  unfolding flat
  row_more n i t zs rs e =
      let c : n + suc (length rs) ≡ n + 1 + length rs = omega arith in
      rw (c, overlay_at-append i zs (flat rs) t, e)

  rows_turn : (n i : ℕ) (t : List ℤ) (ms : List Lexeme) → (word_of k >> closed (cells lead f w) >>= λ zs. many (row_of k lead f w) >>= λ rs. pure (n + length (zs ∷ rs), overlay_at i (flat (zs ∷ rs)) t)) ms ≡ (row_tail k lead f w i t >>= λ u. rows_on_lem k lead f w (n + 1) (i + (lead + w)) u) ms
  unfolding rows_on_lem ◌>>=◌ pure after
  rows_turn n i t ms =
      after_when ((word_of k >> closed (cells lead f w)) ms) _ _ (λ zs l e. after_same (many (row_of k lead f w) l) _ _ (λ rs m. ap (λ (v : ℕ × List ℤ). got v m) (row_more n i t zs rs (free (then_gives (word_leaves k) (closed-gives (cells_give lead f w))) ms zs l e).0)))
      ∙ sym (ap (λ (g : Got (List ℤ)). after g (λ u. rows_on_lem k lead f w (n + 1) (i + (lead + w)) u)) (sym (tail_parts k lead f w i t ms)) ∙ after-after ((word_of k >> closed (cells lead f w)) ms) _ _)

  -- a turn of the loop: from cursor c to d by the next bracket, and then to e by a row
  module _ (text : List ℕ) (c : Cursor) (n i : ℕ) (t : List ℤ) where
    -- neither the list's end nor a row's begin
    pub rows_off : {m p : ℕ} → from text c item_of ≡ refused m p → from text c (rows_on_lem k lead f w n i t) ≡ refused m p
    unfolding rows_on_lem
    rows_off h = items_off (row_of k lead f w) (word_of k >> closed (cells lead f w)) (row_of_takes k lead f w) (row_opens k lead f w) (λ rs. pure (n + length rs, overlay_at i (flat rs) t)) text c h

    module _ (d : Cursor) (v : Bool) (p : reads text d v ≡ from text c item_of) where
      pub rows_end_lem : v ≡ true → from text c (rows_on_lem k lead f w n i t) ≡ reads text d (n, t)
      unfolding rows_on_lem flat
      rows_end_lem o = items_end (row_of k lead f w) (word_of k >> closed (cells lead f w)) (row_of_takes k lead f w) (row_opens k lead f w) (λ rs. pure (n + length rs, overlay_at i (flat rs) t)) text c d v p o ∙ rw (add-zero, overlay_at_none i t)

      row_next : v ≡ false → from text c (rows_on_lem k lead f w n i t) ≡ from text d (row_tail k lead f w i t >>= λ x. rows_on_lem k lead f w (n + 1) (i + (lead + w)) x)
      unfolding rows_on_lem
      row_next o =
          items_more (row_of k lead f w) (word_of k >> closed (cells lead f w)) (row_of_takes k lead f w) (row_opens k lead f w) (λ rs. pure (n + length rs, overlay_at i (flat rs) t)) text c d v p o
          ∙ from-same text d _ _ (rows_turn n i t)

      -- a row that is refused
      pub rows_stop : v ≡ false → {m q : ℕ} → from text d (row_tail k lead f w i t) ≡ refused m q → from text c (rows_on_lem k lead f w n i t) ≡ refused m q
      rows_stop o h = row_next o ∙ halt text d (row_tail k lead f w i t) h (λ x. rows_on_lem k lead f w (n + 1) (i + (lead + w)) x)

      pub rows_more : (e : Cursor) (u : List ℤ) → reads text e u ≡ from text d (row_tail k lead f w i t) → v ≡ false → (j : ℕ) → min j (length u) ≡ min (i + (lead + w)) (length u) → from text c (rows_on_lem k lead f w n i t) ≡ from text e (rows_on_lem k lead f w (n + 1) j u)
      rows_more e u q o j h =
          row_next o
          ∙ onto text d e u (row_tail k lead f w i t) (λ x. rows_on_lem k lead f w (n + 1) (i + (lead + w)) x) q
          ∙ from-same text e _ _ (λ ms. rows_index (n + 1) (i + (lead + w)) j u ms (sym h))

  -- fewer tokens are left
  pub rows_fall : (text : List ℕ) (at to : ℕ) (d : Cursor) (v : Bool) → reads text d v ≡ from text (Ok at) item_of → (i : ℕ) (t u : List ℤ) → reads text (Ok to) u ≡ from text d (row_tail k lead f w i t) → length (lex_at text to) < length (lex_at text at)
  rows_fall text at to d v p i t u q = falls text at to (item_of >> row_tail k lead f w i t) u (then_takes item_takes (tail_keeps k lead f w i t)) (seq text (Ok at) d v item_of (row_tail k lead f w i t) p q)

module _ (k : List ℕ) (lead : ℕ) (f : Form) (w i : ℕ) (t : List ℤ) where
  -- the rows after the first, counted with it
  others : List ℤ → Reader (ℕ × List ℤ)
  others t₁ = rows_into k lead f w (i + (lead + w)) t₁ >>= λ v. pure (v.0 + 1, v.1)

  some_value : (zs : List ℤ) (rs : List (List ℤ)) → length zs ≡ lead + w → ◌≡◌ {A = ℕ × List ℤ} (length (zs ∷ rs), overlay_at i (flat (zs ∷ rs)) t) (length rs + 1, overlay_at (i + (lead + w)) (flat rs) (overlay_at i zs t))
  unfolding flat
  some_value zs rs e = rw (← add-one (length rs), overlay_at-append i zs (flat rs) t, e)

  some_parts : (ms : List Lexeme) → some_into k lead f w i t ms ≡ (row_into k lead f w i t >>= others) ms
  unfolding some_into many⁺ row_into rows_into others ◌>>=◌ pure after
  some_parts ms =
      after-after (row_of k lead f w ms) _ _
      ∙ after_when (row_of k lead f w ms) _ _ (λ zs l e. after-after (many (row_of k lead f w) l) _ _ ∙ after_same (many (row_of k lead f w) l) _ _ (λ rs m. ap (λ (v : ℕ × List ℤ). got v m) (some_value zs rs (free (row_of-gives k lead f w) ms zs l e).0)) ∙ sym (after-after (many (row_of k lead f w) l) _ _))
      ∙ sym (after-after (row_of k lead f w ms) _ _)

  module _ (text : List ℕ) (c d : Cursor) (t₁ : List ℤ) (j : ℕ) (p : reads text d t₁ ≡ from text c (row_into k lead f w i t)) (h : min j (length t₁) ≡ min (i + (lead + w)) (length t₁)) where
    same : (ms : List Lexeme) → rows_into k lead f w j t₁ ms ≡ rows_into k lead f w (i + (lead + w)) t₁ ms
    same ms = rows_all k lead f w j t₁ ms ∙ rows_index k lead f w 0 j (i + (lead + w)) t₁ ms h ∙ sym (rows_all k lead f w (i + (lead + w)) t₁ ms)

    after_first : from text c (some_into k lead f w i t) ≡ from text d (others t₁)
    after_first = from-same text c _ _ some_parts ∙ onto text c d t₁ (row_into k lead f w i t) others p

    pub some_join : (e : Cursor) (t₂ : List ℤ) (n : ℕ) → reads text e (n, t₂) ≡ from text d (rows_into k lead f w j t₁) → reads text e (n + 1, t₂) ≡ from text c (some_into k lead f w i t)
    unfolding others
    some_join e t₂ n q =
        join text d e (n, t₂) (rows_into k lead f w (i + (lead + w)) t₁) (λ (v : ℕ × List ℤ). pure (v.0 + 1, v.1)) (q ∙ from-same text d _ _ same) refl
        ∙ sym after_first

    -- the others refused, or the first
    pub some_off : {n q : ℕ} → from text d (rows_into k lead f w j t₁) ≡ refused n q → from text c (some_into k lead f w i t) ≡ refused n q
    unfolding others
    some_off g = after_first ∙ halt text d (rows_into k lead f w (i + (lead + w)) t₁) (sym (from-same text d _ _ same) ∙ g) (λ (v : ℕ × List ℤ). pure (v.0 + 1, v.1))
