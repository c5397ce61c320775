-- The normals' section over a table, by what its keyword and bracket enclose.
use mathlib.Core.Path.{◌≡◌, ◌∙◌}
use mathlib.Core.List.{List}
use Prim.Native.Nat.{ℕ, ◌+◌, ◌*◌, min}
use lib.IntN.{ℤ}
use lib.ListN.{length}
use Rattle.text_bytes.specs.Bytes.{bytes}
use Rattle.text_numerals.specs.Numbers.{FLOAT}
use Rattle.parse_spec.specs.Readers.{refused, ◌>>=◌, pure, closed, many, row, opened, opened_of}
use Rattle.parse_cursor.specs.Internal.Cursors.{Cursor, reads, from}
use Rattle.parse_cursor.proofs.Steps.{onto_then, from-same}
use Rattle.parse_cursor.proofs.Forms.{reform_off}
use Rattle.parse_spec.proofs.Binds.{then_bind, closed-map}
use Rattle.parse_lists.specs.Internal.ListsInto.{rows_into}
use Rattle.table_rows.specs.Flat.{flat}
use Rattle.table_rows.specs.Internal.Overlay.{overlay_at}
use Rattle.table_rows.proofs.Tables.{overlay_at-length}
use Rattle.bac6_text.specs.Grammar.{normal_section}
use Rattle.bac6_section.specs.Internal.Lists.{rows_laid, list_into}

module _ (text : List ℕ) (c o : Cursor) (p : reads text o tt ≡ from text c (opened_of (bytes "normals"))) (at : ℕ) (t : List ℤ) where
  -- what follows the keyword
  pub normals_by : from text c (normal_section >>= λ rs. pure (length rs, overlay_at at (flat rs) t)) ≡ from text o (closed (rows_into (bytes "vct") 0 FLOAT 3 at t))
  unfolding normal_section rows_into opened row
  normals_by =
      from-same text c _ _ (then_bind (opened "normals") (closed (many (row "vct" FLOAT 3))) (λ rs. pure (length rs, overlay_at at (flat rs) t)))
      ∙ onto_then text c o tt (opened "normals") _ p
      ∙ from-same text o _ _ (closed-map (many (row "vct" FLOAT 3)) (λ rs. (length rs, overlay_at at (flat rs) t)))

  pub normals_off : {n q : ℕ} → from text o (closed (rows_into (bytes "vct") 0 FLOAT 3 at t)) ≡ refused n q → from text c (list_into 3 normal_section (at, t)) ≡ refused n q
  unfolding list_into rows_laid
  normals_off h =
      reform_off normal_section (λ rs. (length rs, overlay_at at (flat rs) t)) (λ x. (x.0, (min (at + x.0 * 3) (length x.1), x.1))) (λ rs. (length rs, (min (at + length rs * 3) (length t), overlay_at at (flat rs) t)))
      (λ rs. rw (overlay_at-length at (flat rs) t)) text c (normals_by ∙ h)
