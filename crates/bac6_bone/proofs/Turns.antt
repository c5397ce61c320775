-- The chunks of a bone, turn by turn, and the whole of a bone.
use mathlib.Core.Path.{◌≡◌, refl, ap, sym, ◌∙◌}
use mathlib.Core.List.{List}
use mathlib.Core.Bool.{Bool, true, false}
use mathlib.Core.Option.{Option, none}
use Prim.Native.Nat.{ℕ, ◌-◌, ◌<◌}
use lib.IntN.{ℤ, pos}
use lib.ListN.{length, get_or, set, replicate}
use mir.Syntax.{w64}
use mir.Val.{SFits, to_z, of_z}
use mir.Facts.{to_z-of_z}
use Rattle.std.proofs.Common.{Ok, Option as Head, Some, None}
use Rattle.text_bytes.specs.Bytes.{bytes}
use Rattle.text_tokens.specs.Tokens.{Lexeme}
use Rattle.parse_spec.specs.Readers.{got, refused, after, ◌>>=◌, ◌>>◌, pure, keyword, word_of}
use Rattle.parse_cursor.specs.Internal.Cursors.{Cursor, reads, from}
use Rattle.table_rows.specs.Internal.Overlay.{overlay_at}
use Rattle.parse_spec.specs.Fields.{is_some, fields, unread}
use Rattle.parse_spec.specs.Internal.Fields.{inside_at}
use Rattle.parse_spec.proofs.Binds.{after-after, after_when, then_bind}
use Rattle.parse_spec.proofs.Given.{free}
use Rattle.parse_spec.proofs.FieldFlags.{flags_length}
use Rattle.parse_cursor.proofs.Steps.{join, halt, onto_then, from-bind, from-same}
use Rattle.parse_cursor.proofs.Forms.{mapped}
use Rattle.parse_cursor.proofs.Behind.{behind, behind_off}
use Rattle.parse_words.specs.Internal.Words.{words}
use Rattle.parse_chunks.specs.Internal.Heads.{head_in}
use Rattle.parse_chunks.proofs.Turns.{Midway, turn_off, turn_ends, turn_row, turn_left, turn_unread, turn_stop, turn_on}
use Rattle.bac6_text.specs.Figure.{Bone}
use Rattle.bac6_text.specs.Grammar.{BoneField, numbers_in, bone_of, bone_kinds}
use Rattle.bac6_text.specs.Layout.{bone_row}
use Rattle.bac6_owners.specs.Internal.Claims.{claimed}
use Rattle.bac6_bone.specs.Internal.Into.{kept, bone_numbers, bone_state, put_field, bone_tail, bone_into}
use Rattle.bac6_text.proofs.Whole.{WholeBone, fields-whole}
use Rattle.bac6_bone.proofs.Values.{three-all}
use Rattle.bac6_bone.proofs.Fields.{list, must, bone-listed, bone_count, unread-state, state_put}

-- ---- between two chunks

abbrev pub Between : List ℕ → ℕ → ℕ → ℕ → ℕ → ℤ → Bool × List ℤ → List Bool → List ℤ × (Bool × List ℤ) → Type 0
Between text start left at n b s seen state = Midway text bone_kinds (from text (Ok start) (fields bone_kinds)) left at seen (λ fs. bone_state n b s fs ≡ state)

pub between_start : (text : List ℕ) (at : ℕ) (n : ℕ) (b : ℤ) (s : Bool × List ℤ) (seen : List Bool) (row : List ℤ) → row ≡ replicate 14 (pos 0) → seen ≡ replicate 7 false → Between text at 7 at n b s seen (row, s)
unfolding fields bone_kinds unread is_some
between_start text at n b s seen row e f = record { fs = unread bone_kinds; size = refl; flags = sym f; holds = unread-state n b s ∙ rw e; on = refl }

-- a chunk: after its head, what stands in it
module _ (text : List ℕ) (start left at n : ℕ) (b : ℤ) (s : Bool × List ℤ) (seen : List Bool) (state : List ℤ × (Bool × List ℤ)) (m : Between text start left at n b s seen state) where
  refusing : {k p : ℕ} → from text (Ok start) (fields bone_kinds) ≡ refused k p → from text (Ok start) (kept (fields bone_kinds) (bone_state n b s)) ≡ refused k p
  refusing h = halt text (Ok start) (fields bone_kinds) h (λ fs. pure (bone_state n b s fs))

  pub fields_off : {k p : ℕ} → from text (Ok at) (head_in (words list) must seen left) ≡ refused k p → from text (Ok start) (kept (fields bone_kinds) (bone_state n b s)) ≡ refused k p
  fields_off h = refusing (turn_off bone-listed m h)

  module _ (c : ℕ) (o : Head ℕ) (h : reads text (Ok c) o ≡ from text (Ok at) (head_in (words list) must seen left)) where
    pub fields_end : o ≡ None → reads text (Ok c) state ≡ from text (Ok start) (kept (fields bone_kinds) (bone_state n b s))
    fields_end e =
        let y = turn_ends bone-listed m c o h e in
        ap (λ (x : List ℤ × (Bool × List ℤ)). reads text (Ok c) x) (sym y.kept) ∙ join text (Ok start) (Ok c) y.value (fields bone_kinds) (λ fs. pure (bone_state n b s fs)) y.read refl

    module _ (k : ℕ) (e : o ≡ Some k) where
      pub field_row : k < 7
      field_row = let w = ap length (sym m.flags) ∙ flags_length m.fs ∙ m.size ∙ bone_count in rw w at (turn_row bone-listed m c o h k e)

      pub field_left : left ≡ 0 → ⊥
      field_left = turn_left bone-listed m c o h k e

      pub field_off : {j p : ℕ} → from text (Ok c) (kept (inside_at bone_kinds k) (put_field n b k state)) ≡ refused j p → from text (Ok start) (kept (fields bone_kinds) (bone_state n b s)) ≡ refused j p
      field_off q = refusing (turn_stop bone-listed m c o h k e (behind_off (put_field n b k state) _ (sym (from-bind text (λ a. pure (put_field n b k state a)) (Ok c) (inside_at bone_kinds k)) ∙ q)))

      pub field_on : (d : ℕ) (state' : List ℤ × (Bool × List ℤ)) → reads text (Ok d) state' ≡ from text (Ok c) (kept (inside_at bone_kinds k) (put_field n b k state)) → (seen' : List Bool) → seen' ≡ set seen k true → Between text start (left - 1) d n b s seen' state'
      field_on d state' q seen' f =
          let y = behind (put_field n b k state) text d state' (from text (Ok c) (inside_at bone_kinds k)) (q ∙ from-bind text (λ a. pure (put_field n b k state a)) (Ok c) (inside_at bone_kinds k)) in
          turn_on bone-listed m c o h k e d y.value y.read seen' f (λ fs. bone_state n b s fs ≡ state')
          (state_put n b s y.value k m.fs (m.size ∙ bone_count) field_row (turn_unread bone-listed m c o h k e)
          ∙ ap (λ (x : List ℤ × (Bool × List ℤ)). put_field n b k x y.value) m.holds
          ∙ y.kept)

-- ---- the row of a bone that has been read whole

pub row-whole : (gs : List (Option BoneField)) → WholeBone (bone_of gs) → bone_numbers gs ≡ bone_row (bone_of gs) (pos 0)
unfolding bone_numbers bone_row bone_of
row-whole gs w = rw (three-all (numbers_in (get_or gs 3 none)) w.translate, three-all (numbers_in (get_or gs 4 none)) w.rotate, three-all (numbers_in (get_or gs 5 none)) w.handle)

-- ---- a whole bone

module _ (n : ℕ) (b : ℤ) (i : ℕ) (table : List ℤ) (s : Bool × List ℤ) where
  abbrev whole_bone : List (Option BoneField) → List ℤ × (Bool × List ℤ)
  whole_bone gs = (overlay_at i (bone_row (bone_of gs) (pos 0)) table, claimed n b s (bone_of gs).vertices)

  -- what the code keeps of the fields, set down in the table
  fields_laid : (l : List Lexeme) → (fields bone_kinds >>= λ gs. pure (whole_bone gs)) l ≡ (kept (fields bone_kinds) (bone_state n b s) >>= λ x. pure {A = List ℤ × (Bool × List ℤ)} (overlay_at i x.0 table, x.1)) l
  unfolding ◌>>=◌ pure after
  fields_laid l =
      after_when (fields bone_kinds l) _ _ (λ gs k e. ap (λ (x : List ℤ × (Bool × List ℤ)). got x k) (sym (same gs (free fields-whole l gs k e))))
      ∙ sym (after-after (fields bone_kinds l) _ _)
    where
      same : (gs : List (Option BoneField)) → WholeBone (bone_of gs) → ◌≡◌ {A = List ℤ × (Bool × List ℤ)} (overlay_at i (bone_state n b s gs).0 table, (bone_state n b s gs).1) (whole_bone gs)
      same gs w = unfold bone_state bone_of in rw (row-whole gs w)

  bone_parts : (ms : List Lexeme) → bone_into n b i table s ms ≡ (keyword "bone" >> (fields bone_kinds >>= λ gs. pure (whole_bone gs))) ms
  unfolding bone_into bone_tail
  bone_parts ms =
      mapped (keyword "bone" >> fields bone_kinds) bone_of (λ (x : Bone). (overlay_at i (bone_row x (pos 0)) table, claimed n b s x.vertices)) whole_bone (λ gs. refl) ms
      ∙ then_bind (keyword "bone") (fields bone_kinds) (λ gs. pure (whole_bone gs)) ms

  module _ (text : List ℕ) (c d : Cursor) (o : reads text d tt ≡ from text c (word_of (bytes "bone"))) where
    bone_by : from text c (bone_into n b i table s) ≡ from text d (kept (fields bone_kinds) (bone_state n b s) >>= λ x. pure {A = List ℤ × (Bool × List ℤ)} (overlay_at i x.0 table, x.1))
    unfolding keyword
    bone_by = from-same text c _ _ bone_parts ∙ onto_then text c d tt (word_of (bytes "bone")) _ o ∙ from-same text d _ _ fields_laid

    pub bone_off : {k p : ℕ} → from text d (kept (fields bone_kinds) (bone_state n b s)) ≡ refused k p → from text c (bone_into n b i table s) ≡ refused k p
    bone_off h = bone_by ∙ halt text d (kept (fields bone_kinds) (bone_state n b s)) h _

    pub bone_on : (at : ℕ) (row : List ℤ) (s' : Bool × List ℤ) → reads text (Ok at) (row, s') ≡ from text d (kept (fields bone_kinds) (bone_state n b s)) → reads text (Ok at) (overlay_at i row table, s') ≡ from text c (bone_into n b i table s)
    bone_on at row s' q = join text d (Ok at) (row, s') (kept (fields bone_kinds) (bone_state n b s)) (λ x. pure (overlay_at i x.0 table, x.1)) q refl ∙ sym bone_by

-- a bone's number from its bits
pub state_bits : (n : ℕ) (b : ℤ) (s : Bool × List ℤ) (fs : List (Option BoneField)) → SFits w64 b → bone_state n (to_z w64 (of_z w64 b)) s fs ≡ bone_state n b s fs
state_bits n b s fs f = rw (to_z-of_z f)
