-- Lists that are laid over a table: what the code reads of each is what the grammar's reader gives, laid.
use mathlib.Core.Path.{◌≡◌, refl, ap, sym, ◌∙◌}
use mathlib.Core.List.{List, [], ◌++◌}
use mathlib.Core.Bool.{Bool, true, false}
use Prim.Native.Nat.{ℕ, ◌+◌, ◌-◌, ◌*◌, ◌≤◌, min}
use Prim.Native.String.{String}
use native.Mathlib.Omega.{arith}
use lib.IntN.{ℤ}
use lib.ListN.{length, take, drop}
use Rattle.text_bytes.specs.Bytes.{bytes}
use Rattle.text_numerals.specs.Numbers.{Form}
use Rattle.text_tokens.specs.Tokens.{Lexeme}
use Rattle.std.proofs.Common.{Result, Ok, Err, IfOk}
use Rattle.refusal.specs.declared.checked.Refusal.{Refusal}
use Rattle.parse_spec.specs.Readers.{Got, got, refused, Reader, after, ◌>>=◌, ◌>>◌, pure, optional, starts, many, row}
use Rattle.parse_cursor.specs.Internal.Cursors.{Cursor, reads, from, parsed}
use Rattle.parse_spec.specs.Internal.Branches.{start_of}
use Rattle.parse_cursor.proofs.Steps.{join, seq, from-same, halt}
use Rattle.parse_cursor.proofs.Forms.{reformed}
use Rattle.parse_spec.proofs.Binds.{bind_assoc, then_bind}
use Rattle.table_rows.specs.Flat.{flat}
use Rattle.table_rows.specs.Internal.Overlay.{overlay_at}
use Rattle.table_rows.proofs.Tables.{overlay_at_none, overlay_at-length}
use Rattle.table_rows.proofs.Chains.{middle}
use Rattle.bac6_section.specs.declared.rows.Listed.{Listed}
use Rattle.bac6_section.specs.Internal.Answers.{listed_at}
use Rattle.bac6_section.specs.Internal.Lists.{rows_laid, list_into, rows_if, section_of}

-- ---- readers

module _ (text : List ℕ) (c : Cursor) where
  -- a reader before one whose value is used
  pub then_read : {A B D : Type 0} (o : Cursor) (u : D) (s : Reader D) (r : Reader A) (k : A → Reader B) {x : Got B} → reads text o u ≡ from text c s → x ≡ from text o (r >>= k) → x ≡ from text c (s >> r >>= k)
  then_read o u s r k h e = seq text c o u s (r >>= k) h e ∙ sym (from-same text c _ _ (then_bind s r k))

  -- ---- a list in a table from an index on

  -- with the index after it
  pub list_read : (k : Result (ℕ × ℕ) Refusal) (r : Reader (List (List ℤ))) (w at : ℕ) (t exit : List ℤ) → parsed {A = ℕ × List ℤ} text k (λ n. (n, exit)) ≡ from text c (r >>= λ rs. pure (length rs, overlay_at at (flat rs) t)) → parsed {A = ℕ × (ℕ × List ℤ)} text k (λ n. (n, (min (at + n * w) (length exit), exit))) ≡ from text c (list_into w r (at, t))
  unfolding list_into rows_laid
  list_read k r w at t exit h =
      reformed r (λ rs. (length rs, overlay_at at (flat rs) t)) (λ x. (x.0, (min (at + x.0 * w) (length x.1), x.1))) (λ rs. (length rs, (min (at + length rs * w) (length t), overlay_at at (flat rs) t)))
      (λ rs. rw (overlay_at-length at (flat rs) t)) text c k (λ (n : ℕ). (n, exit)) h

  -- a list over the last part of the table, which is lent
  pub lent_read : (k : Result (ℕ × ℕ) Refusal) (r : Reader (List (List ℤ))) (at : ℕ) (t part : List ℤ) → at ≤ length t → parsed {A = ℕ × List ℤ} text k (λ n. (n, part)) ≡ from text c (r >>= λ rs. pure (length rs, overlay_at 0 (flat rs) (take (length t - at) (drop at t)))) → parsed {A = ℕ × List ℤ} text k (λ n. (n, take at t ++ (part ++ drop (length t - at) (drop at t)))) ≡ from text c (r >>= λ rs. pure (length rs, overlay_at at (flat rs) t))
  lent_read k r at t part l h =
      reformed r (λ rs. (length rs, overlay_at 0 (flat rs) (take (length t - at) (drop at t)))) (λ x. (x.0, take at t ++ (x.1 ++ drop (length t - at) (drop at t)))) (λ rs. (length rs, overlay_at at (flat rs) t))
      (λ rs. ap (λ (y : List ℤ). (length rs, y)) (middle at (length t) (flat rs) t l (omega arith))) text c k (λ (n : ℕ). (n, part)) h

-- what the code answers of a list
module _ (at w : ℕ) (exit : List ℤ) where
  ending : (k : Result (ℕ × ℕ) Refusal) (text : List ℕ) → parsed {A = ℕ × (ℕ × List ℤ)} text (listed_at k at w (length exit)) (λ l. (l.count, (l.end, exit))) ≡ parsed text k (λ n. (n, (min (at + n * w) (length exit), exit)))
  unfolding listed_at
  ending (Ok p) text = refl
  ending (Err e) text = refl

  pub ended : (r : Result (Listed × ℕ) Refusal) (k : Result (ℕ × ℕ) Refusal) → r ≡ listed_at k at w (length exit) → (text : List ℕ) {g : Got (ℕ × (ℕ × List ℤ))} → parsed {A = ℕ × (ℕ × List ℤ)} text k (λ n. (n, (min (at + n * w) (length exit), exit))) ≡ g → parsed {A = ℕ × (ℕ × List ℤ)} text r (λ l. (l.count, (l.end, exit))) ≡ g
  ended r k e text h = rw e (ending k text ∙ h)

within : (k : Result (ℕ × ℕ) Refusal) (at w n : ℕ) → IfOk (listed_at k at w n) (λ p. p.0.end ≤ n)
unfolding listed_at
within (Ok p) at w n = omega arith
within (Err e) at w n = tt

pub ends-within : (r : Result (Listed × ℕ) Refusal) (k : Result (ℕ × ℕ) Refusal) (at w n : ℕ) → r ≡ listed_at k at w n → IfOk r (λ p. p.0.end ≤ n)
ends-within r k at w n e = rw e (within k at w n)

-- ---- a list that may be left out

-- the rows of a chunk, by whether it stands
module _ (text : List ℕ) (c : Cursor) (name k : List ℕ) (f : Form) (w : ℕ) (s : ℕ × List ℤ) where
  section_parts : from text c (start_of name >>= λ x. list_into w (rows_if x k f w) s) ≡ from text c (list_into w (section_of name k f w) s)
  unfolding list_into section_of
  section_parts = sym (from-same text c _ _ (bind_assoc (start_of name) (λ x. rows_if x k f w) (λ rs. pure (length rs, rows_laid w s rs))))

  pub section_read : (d : Cursor) (p v : Bool) {g : Got (ℕ × (ℕ × List ℤ))} → reads text d p ≡ from text c (start_of name) → p ≡ v → g ≡ from text d (list_into w (rows_if v k f w) s) → g ≡ from text c (list_into w (section_of name k f w) s)
  section_read d p v h q i = join text c d p (start_of name) (λ x. list_into w (rows_if x k f w) s) h (rw q i) ∙ section_parts

  pub section_off : {n p : ℕ} → from text c (start_of name) ≡ refused n p → from text c (list_into w (section_of name k f w) s) ≡ refused n p
  section_off h = sym section_parts ∙ halt text c (start_of name) h (λ x. list_into w (rows_if x k f w) s)

-- no rows
pub none_read : (text : List ℕ) (d : Cursor) (at : ℕ) (t : List ℤ) → reads {A = ℕ × List ℤ} text d (0, t) ≡ from text d (pure [] >>= λ (rs : List (List ℤ)). pure (length rs, overlay_at at (flat rs) t))
unfolding flat
none_read text d at t = from-same text d _ _ (λ ms. unfold ◌>>=◌ pure after in ap (λ (x : List ℤ). got (0, x) ms) (sym (overlay_at_none at t)))

section_same : (k w : String) (f : Form) (n : ℕ) (ms : List Lexeme) → section_of (bytes k) (bytes w) f n ms ≡ optional k [] (many (row w f n)) ms
unfolding optional section_of rows_if start_of row ◌>>=◌ pure after
section_same k w f n ms = go (starts (bytes k) ms) refl
  where
    go : (v : Bool) → starts (bytes k) ms ≡ v → section_of (bytes k) (bytes w) f n ms ≡ optional k [] (many (row w f n)) ms
    go true p = rw (p, optional, start_of)
    go false p = rw (p, optional, start_of)

list_same : (r u : Reader (List (List ℤ))) (w : ℕ) (s : ℕ × List ℤ) → ((ms : List Lexeme) → r ms ≡ u ms) → (ms : List Lexeme) → list_into w r s ms ≡ list_into w u s ms
unfolding list_into ◌>>=◌
list_same r u w s e ms = ap (λ (g : Got (List (List ℤ))). after g (λ rs. pure (length rs, rows_laid w s rs))) (e ms)

-- the grammar's
pub section_list : (k w : String) (f : Form) (n : ℕ) (text : List ℕ) (c : Cursor) (s : ℕ × List ℤ) {g : Got (ℕ × (ℕ × List ℤ))} → g ≡ from text c (list_into n (section_of (bytes k) (bytes w) f n) s) → g ≡ from text c (list_into n (optional k [] (many (row w f n))) s)
section_list k w f n text c s h = h ∙ from-same text c _ _ (list_same _ _ n s (section_same k w f n))
