-- Materials one after the other in a table: item by item, and as one list.
use mathlib.Core.Path.{◌≡◌, ap, sym, ◌∙◌}
use mathlib.Core.List.{List, ◌∷◌}
use Prim.Native.Nat.{ℕ, suc}
use native.Mathlib.Nat.{zero-add}
use lib.IntN.{ℤ}
use lib.ListN.{length}
use Rattle.text_tokens.specs.Tokens.{Lexeme}
use Rattle.parse_spec.specs.Readers.{got, after, ◌>>=◌, pure, many, many⁺}
use Rattle.parse_rows.specs.Internal.Folds.{fold, folded, stepped, row_step}
use Rattle.parse_rows.proofs.Folds.{fold-rows}
use Rattle.parse_spec.proofs.Binds.{after-after, after_when}
use Rattle.parse_spec.proofs.Given.{Every, free, many-gives}
use Rattle.table_rows.specs.Flat.{flat}
use Rattle.table_rows.specs.Internal.Overlay.{overlay_at}
use Rattle.bac6_text.specs.Grammar.{material}
use Rattle.bac6_text.proofs.Whole.{material-gives}
use Rattle.bac6_materials.specs.Internal.Into.{materials_into}

value : (t r : List ℤ) (rs : List (List ℤ)) → length r ≡ 9 → Every (λ x. length x ≡ 9) rs → (suc (length rs), overlay_at 0 (flat (r ∷ rs)) t) ≡ fold (row_step 9) (row_step 9 (0, t) r) rs
unfolding fold
value t r rs h k = rw (← zero-add (suc (length rs))) (sym (fold-rows 9 0 t (r ∷ rs) (h, k)))

pub materials-same : (t : List ℤ) (ms : List Lexeme) → materials_into t ms ≡ (stepped (row_step 9) material (0, t) >>= λ s. folded (row_step 9) material s) ms
unfolding many⁺ materials_into stepped folded ◌>>=◌ pure after
materials-same t ms =
    after-after (material ms) _ _
    ∙ after_when (material ms) _ _ (λ r l e. after-after (many material l) _ _ ∙ after_when (many material l) _ _ (λ rs m q. ap (λ (v : ℕ × List ℤ). got v m) (value t r rs (free material-gives ms r l e) (free (many-gives material-gives) l rs m q))))
    ∙ sym (after-after (material ms) _ _)
