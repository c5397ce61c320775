-- What stands in each chunk of a bone, from what the code's readers say.
use mathlib.Core.Path.{◌≡◌, refl, ap, sym, ◌∙◌}
use mathlib.Core.List.{List, [], ◌∷◌}
use mathlib.Core.Bool.{Bool}
use mathlib.Core.Option.{some}
use Prim.Native.Nat.{ℕ, zero, suc, ◌+◌, ◌*◌, ◌-◌, ◌≤◌, ◌<◌}
use native.Mathlib.Omega.{arith}
use lib.IntN.{ℤ, pos}
use lib.ListN.{length, set}
use mir.Syntax.{w64}
use mir.Val.{SFits, to_z, of_z}
use Rattle.text_bytes.specs.Bytes.{bytes, in_word}
use Rattle.text_numerals.specs.Numbers.{INT, FLOAT}
use Rattle.text_tokens.specs.Tokens.{Lexeme}
use Rattle.std.proofs.Common.{Result, Ok}
use Rattle.refusal.specs.declared.checked.Refusal.{Refusal}
use Rattle.parse_spec.specs.Readers.{got, refused, after, ◌>>=◌, pure, closed, close_bracket, number, numbers, many, string}
use Rattle.parse_cursor.specs.Internal.Cursors.{Cursor, reads, from, parsed}
use Rattle.table_rows.specs.Internal.Overlay.{overlay_at}
use Rattle.parse_rows.specs.Internal.Into.{numbers_into}
use Rattle.parse_spec.specs.Internal.Places.{place_of, name_of}
use Rattle.parse_spec.specs.Fields.{kind}
use Rattle.parse_spec.specs.Internal.Fields.{inside_at}
use Rattle.parse_words.specs.Internal.Words.{words, onto, word_in}
use Rattle.parse_cursor.proofs.Steps.{from-same, join, halt, halt_closed, closed_at, closed_off}
use Rattle.parse_cursor.proofs.Forms.{mapped, reformed, reformed_at, reform_off}
use Rattle.parse_spec.proofs.Binds.{after-after, after_when, closed-map}
use Rattle.parse_spec.proofs.Given.{free, closed-gives}
use Rattle.parse_words.proofs.Vocabulary.{word_list, one_word}
use Rattle.table_rows.proofs.Tables.{overlay_at-cons, overlay_at_none}
use Rattle.parse_spec.proofs.Ranges.{numbers_give}
use Rattle.bac6_text.specs.Grammar.{BoneField, named, flag, several, name_in, flag_in, numbers_in, bone_kinds, truth, word}
use Rattle.bac6_text.specs.Layout.{name_numbers}
use Rattle.bac6_owners.specs.Internal.Claims.{claimed}
use Rattle.bac6_bone.specs.Internal.Into.{kept, three, put_row, put_claims, put_field}
use Rattle.bac6_entries.specs.Internal.Into.{entries_into}
use Rattle.bac6_entries.proofs.EntrySteps.{entries_bits}

-- ---- a flag

module _ (text : List ℕ) (at : ℕ) (row : List ℤ) where
  truth-word : from text (Ok at) (word_in (bytes "false true") 2) ≡ from text (Ok at) truth
  unfolding truth word words onto in_word bytes word_list
  truth-word = sym (from-same text (Ok at) truth (word_in (bytes "false true") 2) (λ ms. one_word ("false" ∷ "true" ∷ []) (bytes "false true") ms refl))

  flag-kind : (k : ℕ) → 0 < k → k < 3 → (ms : List Lexeme) → kept (inside_at bone_kinds k) (put_row k row) ms ≡ kept (closed truth) (λ z. set row (8 + k) z) ms
  unfolding inside_at bone_kinds kind put_row flag_in
  flag-kind zero h l = absurd (omega arith)
  flag-kind (suc zero) h l = mapped (closed truth) flag _ _ (λ z. refl)
  flag-kind (suc (suc zero)) h l = mapped (closed truth) flag _ _ (λ z. refl)
  flag-kind (suc (suc (suc k))) h l = absurd (omega arith)

  module _ (k : ℕ) (h : 0 < k) (l : k < 3) where
    pub flag_off : {n p : ℕ} → from text (Ok at) (word_in (bytes "false true") 2) ≡ refused n p → from text (Ok at) (kept (inside_at bone_kinds k) (put_row k row)) ≡ refused n p
    flag_off q = from-same text (Ok at) _ _ (flag-kind k h l) ∙ halt text (Ok at) (closed truth) (halt_closed text (Ok at) truth (sym truth-word ∙ q)) _

    pub flag_unclosed : (d : Cursor) (z : ℤ) → reads text d z ≡ from text (Ok at) (word_in (bytes "false true") 2) → {n p : ℕ} → from text d close_bracket ≡ refused n p → from text (Ok at) (kept (inside_at bone_kinds k) (put_row k row)) ≡ refused n p
    flag_unclosed d z p q = from-same text (Ok at) _ _ (flag-kind k h l) ∙ halt text (Ok at) (closed truth) (closed_off text (Ok at) d z truth (p ∙ truth-word) q) _

    pub flag-read : (d r : Cursor) (z : ℤ) → reads text d z ≡ from text (Ok at) (word_in (bytes "false true") 2) → reads text r tt ≡ from text d close_bracket → reads text r (set row (8 + k) z) ≡ from text (Ok at) (kept (inside_at bone_kinds k) (put_row k row))
    flag-read d r z p q = join text (Ok at) r z (closed truth) (λ v. pure (set row (8 + k) v)) (closed_at text (Ok at) d r z truth (p ∙ truth-word) q) refl ∙ sym (from-same text (Ok at) _ _ (flag-kind k h l))

-- ---- a vector

pub three-all : (zs : List ℤ) → length zs ≡ 3 → three zs ≡ zs
unfolding three
three-all [] e = absurd (omega arith)
three-all (x ∷ []) e = absurd (omega arith)
three-all (x ∷ y ∷ []) e = absurd (omega arith)
three-all (x ∷ y ∷ z ∷ []) e = refl
three-all (x ∷ y ∷ z ∷ w ∷ zs) e = absurd (omega arith)

vector_same : (i : ℕ) (row : List ℤ) (ms : List Lexeme) → kept (closed (numbers FLOAT 3) >>= λ zs. pure (several zs)) (λ f. overlay_at i (three (numbers_in (some f))) row) ms ≡ closed (numbers_into FLOAT 3 i row) ms
unfolding numbers_into numbers_in ◌>>=◌ pure after
vector_same i row ms =
    after-after (closed (numbers FLOAT 3) ms) _ _
    ∙ after_when (closed (numbers FLOAT 3) ms) _ _ (λ zs l e. ap (λ (x : List ℤ). got (overlay_at i x row) l) (three-all zs (free (closed-gives (numbers_give FLOAT 3)) ms zs l e).0))
    ∙ closed-map (numbers FLOAT 3) (λ zs. overlay_at i zs row) ms

vector_kind : (row : List ℤ) (k : ℕ) → 3 ≤ k → k < 6 → (ms : List Lexeme) → kept (inside_at bone_kinds k) (put_row k row) ms ≡ closed (numbers_into FLOAT 3 ((k - 3) * 3) row) ms
unfolding inside_at bone_kinds kind put_row
vector_kind row zero h l = absurd (omega arith)
vector_kind row (suc zero) h l = absurd (omega arith)
vector_kind row (suc (suc zero)) h l = absurd (omega arith)
vector_kind row (suc (suc (suc zero))) h l = vector_same 0 row
vector_kind row (suc (suc (suc (suc zero)))) h l = vector_same 3 row
vector_kind row (suc (suc (suc (suc (suc zero))))) h l = vector_same 6 row
vector_kind row (suc (suc (suc (suc (suc (suc k)))))) h l = absurd (omega arith)

pub vector_read : (text : List ℕ) (at : ℕ) (d r : Cursor) (row row' : List ℤ) (k : ℕ) → 3 ≤ k → k < 6 → reads text d row' ≡ from text (Ok at) (numbers_into FLOAT 3 ((k - 3) * 3) row) → reads text r tt ≡ from text d close_bracket → reads text r row' ≡ from text (Ok at) (kept (inside_at bone_kinds k) (put_row k row))
vector_read text at d r row row' k h l p q = closed_at text (Ok at) d r row' (numbers_into FLOAT 3 ((k - 3) * 3) row) p q ∙ sym (from-same text (Ok at) _ _ (vector_kind row k h l))

-- ---- a name

module _ (row : List ℤ) where
  name-kind : (ms : List Lexeme) → kept (inside_at bone_kinds 0) (put_row 0 row) ms ≡ kept (closed string) (λ n. overlay_at 12 (pos (place_of n).0 ∷ pos (place_of n).1 ∷ []) row) ms
  unfolding inside_at bone_kinds kind put_row name_in name_numbers place_of
  name-kind = mapped (closed string) named _ _ (λ n. refl)

  pub name-read : (text : List ℕ) (at d : ℕ) (v : ℕ × ℕ) → reads text (Ok d) v ≡ from text (Ok at) name_of → reads text (Ok d) (set (set row 12 (pos v.0)) 13 (pos v.1)) ≡ from text (Ok at) (kept (inside_at bone_kinds 0) (put_row 0 row))
  unfolding name_of
  name-read text at d v p =
      rw (sym (overlay_at-cons 12 (pos v.0) (pos v.1 ∷ []) row ∙ overlay_at-cons 13 (pos v.1) [] (set row 12 (pos v.0)) ∙ overlay_at_none 14 _))
      (reformed_at (closed string) place_of (λ x. overlay_at 12 (pos x.0 ∷ pos x.1 ∷ []) row) _ (λ n. refl) text (Ok at) (Ok d) v p ∙ sym (from-same text (Ok at) _ _ name-kind))

  pub name_off : (text : List ℕ) (at : ℕ) {n p : ℕ} → from text (Ok at) name_of ≡ refused n p → from text (Ok at) (kept (inside_at bone_kinds 0) (put_row 0 row)) ≡ refused n p
  unfolding name_of
  name_off text at q = from-same text (Ok at) _ _ name-kind ∙ reform_off (closed string) place_of (λ x. overlay_at 12 (pos x.0 ∷ pos x.1 ∷ []) row) _ (λ n. refl) text (Ok at) q

-- ---- entries, and the other chunks, as a chunk of a kind

pub entries_read : (text : List ℕ) (at : ℕ) (r : Result (Bool × ℕ) Refusal) (n : ℕ) (b : ℤ) (k : ℕ) (row owners : List ℤ) (c : Bool × List ℤ) → k ≡ 6 → SFits w64 b → parsed text r (λ f. (f, owners)) ≡ from text (Ok at) (entries_into n (to_z w64 (of_z w64 b)) c) → parsed text r (λ f. (row, (f, owners))) ≡ from text (Ok at) (kept (inside_at bone_kinds k) (put_field n b k (row, c)))
unfolding entries_into inside_at bone_kinds kind put_row put_claims numbers_in
entries_read text at r n b k row owners c e f p =
    rw e
    (reformed (many (number INT)) (claimed n b c) (λ (s : Bool × List ℤ). (row, s)) _ (λ zs. refl) text (Ok at) r (λ (v : Bool). (v, owners)) (p ∙ from-same text (Ok at) _ _ (λ ms. entries_bits n b c ms f))
    ∙ sym (from-same text (Ok at) _ _ (mapped (many (number INT)) several (put_field n b 6 (row, c)) _ (λ zs. refl))))

put_claims_none : (n : ℕ) (b : ℤ) (k : ℕ) (c : Bool × List ℤ) (f : BoneField) → k < 6 → put_claims n b k c f ≡ c
unfolding put_claims
put_claims_none n b zero c f h = refl
put_claims_none n b (suc zero) c f h = refl
put_claims_none n b (suc (suc zero)) c f h = refl
put_claims_none n b (suc (suc (suc zero))) c f h = refl
put_claims_none n b (suc (suc (suc (suc zero)))) c f h = refl
put_claims_none n b (suc (suc (suc (suc (suc zero))))) c f h = refl
put_claims_none n b (suc (suc (suc (suc (suc (suc k)))))) c f h = absurd (omega arith)

module _ (text : List ℕ) (at n : ℕ) (b : ℤ) (k : ℕ) (row : List ℤ) (c : Bool × List ℤ) (h : k < 6) where
  pub row_read : (d : Cursor) (row' : List ℤ) → reads text d row' ≡ from text (Ok at) (kept (inside_at bone_kinds k) (put_row k row)) → reads text d (row', c) ≡ from text (Ok at) (kept (inside_at bone_kinds k) (put_field n b k (row, c)))
  row_read d row' p = reformed_at (inside_at bone_kinds k) (put_row k row) (λ (x : List ℤ). (x, c)) (put_field n b k (row, c)) (λ f. rw (put_claims_none n b k c f h)) text (Ok at) d row' p

  pub row_off : {m p : ℕ} → from text (Ok at) (kept (inside_at bone_kinds k) (put_row k row)) ≡ refused m p → from text (Ok at) (kept (inside_at bone_kinds k) (put_field n b k (row, c))) ≡ refused m p
  row_off q = reform_off (inside_at bone_kinds k) (put_row k row) (λ (x : List ℤ). (x, c)) (put_field n b k (row, c)) (λ f. rw (put_claims_none n b k c f h)) text (Ok at) q
