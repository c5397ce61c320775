-- What stands in each chunk of a material, and what the code holds between two chunks.
use mathlib.Core.Path.{◌≡◌, refl, ap, sym, ◌∙◌}
use mathlib.Core.List.{List, [], ◌∷◌, map}
use mathlib.Core.Bool.{Bool, true, false}
use mathlib.Core.Option.{Option, some}
use Prim.Native.Nat.{ℕ, zero, suc, ◌-◌, ◌≤◌, ◌<◌}
use Prim.Native.String.{String}
use native.Mathlib.Omega.{arith}
use lib.IntN.{ℤ, pos}
use lib.ListN.{length, set, replicate}
use Rattle.text_numerals.specs.Numbers.{INT, FLOAT}
use Rattle.text_bytes.specs.Bytes.{bytes, in_word}
use Rattle.text_runs.specs.Runs.{same}
use Rattle.text_tokens.specs.Tokens.{Lexeme}
use Rattle.std.proofs.Common.{Ok, Option as Head, Some, None}
use Rattle.parse_spec.specs.Readers.{Got, refused, after, ◌>>=◌, ◌>>◌, pure, open_bracket, keyword, word_of, opened, opened_of, closed, number}
use Rattle.parse_cursor.specs.Internal.Cursors.{Cursor, reads, from}
use Rattle.table_rows.specs.Internal.Overlay.{overlay_at}
use Rattle.parse_spec.proofs.Many.{Keeps, Takes, takes_keeps, pure_keeps, bind_keeps, bind_takes, then_keeps, then_takes, keyword_takes, opened_takes, closed_keeps, number_takes, one_of_takes}
use Rattle.parse_spec.proofs.FieldFlags.{flags_length}
use Rattle.parse_spec.proofs.FieldKeeps.{AllKeep, fields_keeps}
use Rattle.parse_spec.proofs.Binds.{then_assoc, then_bind}
use Rattle.parse_cursor.proofs.Steps.{join, halt, onto_then, from-same}
use Rattle.parse_spec.specs.Fields.{kind, is_some, unread, fields}
use Rattle.parse_spec.specs.Internal.Fields.{inside_at, needed_of}
use Rattle.parse_words.specs.Internal.Words.{words, onto, keys_of, apart, differs}
use Rattle.parse_chunks.specs.Internal.Heads.{head_in}
use Rattle.parse_chunks.proofs.Turns.{Listed, Midway, turn_off, turn_ends, turn_row, turn_left, turn_stop, turn_on}
use Rattle.bac6_text.specs.Grammar.{material_kinds, truth, blend, or_zero, material, word}
use Rattle.bac6_materials.specs.Internal.Into.{material_row, material_tail, material_into}

pub inside-truth : (k : ℕ) → (k ≡ 0 → ⊥) → k < 4 → inside_at material_kinds k ≡ closed truth
unfolding inside_at material_kinds kind
inside-truth zero n h = absurd (n refl)
inside-truth (suc zero) n h = refl
inside-truth (suc (suc zero)) n h = refl
inside-truth (suc (suc (suc zero))) n h = refl
inside-truth (suc (suc (suc (suc k)))) n h = absurd (omega arith)

pub inside_index : (k : ℕ) → 4 ≤ k → k < 6 → inside_at material_kinds k ≡ closed (number INT)
unfolding inside_at material_kinds kind
inside_index zero h l = absurd (omega arith)
inside_index (suc zero) h l = absurd (omega arith)
inside_index (suc (suc zero)) h l = absurd (omega arith)
inside_index (suc (suc (suc zero))) h l = absurd (omega arith)
inside_index (suc (suc (suc (suc zero)))) h l = refl
inside_index (suc (suc (suc (suc (suc zero))))) h l = refl
inside_index (suc (suc (suc (suc (suc (suc k)))))) h l = absurd (omega arith)

pub inside_level : (k : ℕ) → 6 ≤ k → k < 9 → inside_at material_kinds k ≡ closed (number FLOAT)
unfolding inside_at material_kinds kind
inside_level zero h l = absurd (omega arith)
inside_level (suc zero) h l = absurd (omega arith)
inside_level (suc (suc zero)) h l = absurd (omega arith)
inside_level (suc (suc (suc zero))) h l = absurd (omega arith)
inside_level (suc (suc (suc (suc zero)))) h l = absurd (omega arith)
inside_level (suc (suc (suc (suc (suc zero))))) h l = absurd (omega arith)
inside_level (suc (suc (suc (suc (suc (suc zero)))))) h l = refl
inside_level (suc (suc (suc (suc (suc (suc (suc zero))))))) h l = refl
inside_level (suc (suc (suc (suc (suc (suc (suc (suc zero)))))))) h l = refl
inside_level (suc (suc (suc (suc (suc (suc (suc (suc (suc k))))))))) h l = absurd (omega arith)

-- the keywords as one text, no two of them the same, and which chunks must stand
abbrev list : List ℕ
list = bytes "blendMode doubleFace transparent lighting textureIndex colorIndex specular alpha shininess"

abbrev must : List Bool
must = true ∷ true ∷ true ∷ true ∷ true ∷ true ∷ true ∷ false ∷ false ∷ []

material-listed : Listed material_kinds list must
unfolding material_kinds kind keys_of words onto in_word bytes apart differs same needed_of
material-listed = record { keys = refl; differ = refl; must = refl }

material_count : length material_kinds ≡ 9
unfolding material_kinds
material_count = refl

-- ---- between two chunks: fields that have not been read are 0

abbrev pub Between : List ℕ → ℕ → ℕ → ℕ → List Bool → List ℤ → Type 0
Between text start left at seen row = Midway text material_kinds (from text (Ok start) (fields material_kinds)) left at seen (λ fs. map or_zero fs ≡ row)

pub between_start : (text : List ℕ) (at : ℕ) (seen : List Bool) (row : List ℤ) → row ≡ replicate 9 (pos 0) → seen ≡ replicate 9 false → Between text at 9 at seen row
unfolding fields material_kinds unread is_some or_zero
between_start text at seen row e f = record { fs = unread material_kinds; size = refl; flags = sym f; holds = sym e; on = refl }

map-set : {A B : Type 0} (f : A → B) (l : List A) (k : ℕ) (a : A) → map f (set l k a) ≡ set (map f l) k (f a)
map-set f [] k a = refl
map-set f (x ∷ l) zero a = refl
map-set f (x ∷ l) (suc k) a = ap (λ m. f x ∷ m) (map-set f l k a)

-- a chunk: after its head, its value
module _ (text : List ℕ) (start left at : ℕ) (seen : List Bool) (row : List ℤ) (m : Between text start left at seen row) where
  refusing : {n p : ℕ} → from text (Ok start) (fields material_kinds) ≡ refused n p → from text (Ok start) material_row ≡ refused n p
  unfolding material_row
  refusing h = halt text (Ok start) (fields material_kinds) h (λ fs. pure (map or_zero fs))

  pub fields_off : {n p : ℕ} → from text (Ok at) (head_in (words list) must seen left) ≡ refused n p → from text (Ok start) material_row ≡ refused n p
  fields_off h = refusing (turn_off material-listed m h)

  module _ (c : ℕ) (o : Head ℕ) (h : reads text (Ok c) o ≡ from text (Ok at) (head_in (words list) must seen left)) where
    pub fields_end : o ≡ None → reads text (Ok c) row ≡ from text (Ok start) material_row
    unfolding material_row
    fields_end e =
        let y = turn_ends material-listed m c o h e in
        ap (λ (zs : List ℤ). reads text (Ok c) zs) (sym y.kept) ∙ join text (Ok start) (Ok c) y.value (fields material_kinds) (λ fs. pure (map or_zero fs)) y.read refl

    module _ (k : ℕ) (e : o ≡ Some k) where
      pub field_row : k < 9
      field_row = let w = ap length (sym m.flags) ∙ flags_length m.fs ∙ m.size ∙ material_count in rw w at (turn_row material-listed m c o h k e)

      pub field_left : left ≡ 0 → ⊥
      field_left = turn_left material-listed m c o h k e

      pub field_off : {n p : ℕ} → from text (Ok c) (inside_at material_kinds k) ≡ refused n p → from text (Ok start) material_row ≡ refused n p
      field_off q = refusing (turn_stop material-listed m c o h k e q)

      pub field_on : (d : ℕ) (z : ℤ) → reads text (Ok d) z ≡ from text (Ok c) (inside_at material_kinds k) → (seen' : List Bool) → seen' ≡ set seen k true → Between text start (left - 1) d seen' (set row k z)
      unfolding or_zero
      field_on d z p seen' f = turn_on material-listed m c o h k e d z p seen' f (λ fs. map or_zero fs ≡ set row k z) (map-set or_zero m.fs k (some z) ∙ ap (λ (l : List ℤ). set l k z) m.holds)

-- ---- a whole material

module _ (text : List ℕ) (c d : Cursor) (o : reads text d tt ≡ from text c (word_of (bytes "material"))) (i : ℕ) (table : List ℤ) where
  tail_by : from text c material_tail ≡ from text d material_row
  unfolding material_tail material_row keyword
  tail_by = from-same text c _ _ (then_bind (word_of (bytes "material")) (fields material_kinds) (λ fs. pure (map or_zero fs))) ∙ onto_then text c d tt (word_of (bytes "material")) _ o

  pub material_on : (at : ℕ) (row : List ℤ) → reads text (Ok at) row ≡ from text d material_row → reads text (Ok at) (overlay_at i row table) ≡ from text c (material_into i table)
  unfolding material_into
  material_on at row q = join text c (Ok at) row material_tail (λ r. pure (overlay_at i r table)) (q ∙ sym tail_by) refl

  pub material_off : {n p : ℕ} → from text d material_row ≡ refused n p → from text c (material_into i table) ≡ refused n p
  unfolding material_into
  material_off h = halt text c material_tail (tail_by ∙ h) (λ r. pure (overlay_at i r table))

-- ---- many materials

pub material_opens : (ms : List Lexeme) → material ms ≡ (open_bracket >> material_tail) ms
unfolding material material_tail opened opened_of keyword after ◌>>=◌ ◌>>◌
material_opens ms =
    ap (λ (g : Got (List (Option ℤ))). after g (λ fs. pure (map or_zero fs))) (then_assoc open_bracket (word_of (bytes "material")) (fields material_kinds) ms)
    ∙ then_bind open_bracket (word_of (bytes "material") >> fields material_kinds) (λ fs. pure (map or_zero fs)) ms

word_keeps : (ks : List String) → Keeps (word ks)
unfolding word
word_keeps ks = bind_keeps (takes_keeps (one_of_takes ks)) (λ n. pure_keeps (pos n))

kinds_keep : AllKeep material_kinds
unfolding material_kinds kind blend truth
kinds_keep =
    let t = closed_keeps (word_keeps ("false" ∷ "true" ∷ [])) in
    let i = closed_keeps (takes_keeps (number_takes INT)) in
    let f = closed_keeps (takes_keeps (number_takes FLOAT)) in
    (closed_keeps (word_keeps ("normal" ∷ "add" ∷ "sub" ∷ "half" ∷ [])), (t, (t, (t, (i, (i, (f, (f, (f, tt)))))))))

pub material_keeps : Keeps material_tail
unfolding material_tail
material_keeps = bind_keeps (then_keeps (takes_keeps (keyword_takes "material")) (fields_keeps material_kinds kinds_keep)) (λ fs. pure_keeps (map or_zero fs))

pub material_takes : Takes material
unfolding material
material_takes = bind_takes (then_takes (opened_takes "material") (fields_keeps material_kinds kinds_keep)) (λ fs. pure_keeps (map or_zero fs))
