-- Bones one after another: each is a step of the count, the table and the claims, and all of them are the list's.
use mathlib.Core.Path.{◌≡◌, refl, ap, sym, ◌∙◌}
use mathlib.Core.List.{List, [], ◌∷◌, map}
use mathlib.Core.Bool.{Bool, true, false, not}
use mathlib.Core.Option.{Option}
use Prim.Native.Nat.{ℕ, ◌+◌, ◌*◌, ◌^◌, ◌<◌, min}
use mir.Syntax.{w64}
use mir.Val.{to_z}
use Rattle.signed.proofs.Signed.{bits_pos}
use Prim.Native.String.{String}
use native.Mathlib.Omega.{arith}
use native.Mathlib.Nat.{add-zero, zero-add}
use native.Mathlib.Numerals.{add-one}
use lib.IntN.{ℤ, pos}
use lib.ListN.{length}
use Rattle.text_bytes.specs.Bytes.{bytes}
use Rattle.text_numerals.specs.Numbers.{INT, FLOAT}
use Rattle.refusal.specs.Faults.{Fault, clear, fault}
use Rattle.text_tokens.specs.Tokens.{Lexeme, lex_at}
use Rattle.std.proofs.Common.{Result, Ok, Option as Perhaps, Some, None, is_some}
use Rattle.std.specs.Option.{option_or}
use Rattle.std.specs.Bool.{then_some}
use Rattle.refusal.specs.declared.checked.Refusal.{Refusal}
use Rattle.parse_spec.specs.Readers.{Got, got, refused, after, ◌>>=◌, ◌>>◌, pure, open_bracket, keyword, word_of, opened, opened_of, many, many⁺}
use Rattle.parse_cursor.specs.Internal.Cursors.{Cursor, reads, from, parsed}
use Rattle.table_rows.specs.Internal.Overlay.{overlay_at}
use Rattle.table_rows.specs.Flat.{flat}
use Rattle.parse_rows.specs.Internal.Folds.{fold, folded, stepped}
use Rattle.parse_spec.specs.Fields.{kind, fields}
use Rattle.parse_spec.specs.Internal.Branches.{item_of}
use Rattle.parse_cursor.proofs.Steps.{seq, onto, onto_then, halt, from-same}
use Rattle.parse_cursor.proofs.Forms.{reformed}
use Rattle.parse_spec.proofs.Binds.{after-after, after_when, then_assoc, then_bind}
use Rattle.parse_cursor.proofs.Counts.{falls}
use Rattle.parse_spec.proofs.TokenCounts.{lex_at_some}
use Rattle.parse_cursor.proofs.Branches.{item_takes}
use Rattle.parse_spec.proofs.Many.{Keeps, Takes, takes_keeps, pure_keeps, bind_keeps, bind_takes, then_keeps, then_takes, keyword_takes, opened_takes, closed_keeps, number_takes, numbers_keeps, string_takes, one_of_takes, many_keeps}
use Rattle.parse_spec.proofs.FieldKeeps.{AllKeep, fields_keeps}
use Rattle.parse_spec.proofs.Given.{free, many-gives}
use Rattle.table_rows.proofs.Tables.{overlay_at_none, overlay_at-append, overlay_at-same}
use Rattle.bac6_text.specs.Figure.{Bone}
use Rattle.bac6_text.specs.Grammar.{BoneField, named, flag, several, bone_of, bone_kinds, bone, word, truth}
use Rattle.bac6_text.specs.Layout.{bone_row}
use Rattle.bac6_owners.specs.Internal.Claims.{claimed_one, claimed, fault_at, after_bone, claimed_bone, claimed_bones}
use Rattle.bac6_bones.specs.Internal.Into.{fault_of, bone_step, bones_into}
use Rattle.bac6_bone.specs.Internal.Into.{bone_tail, bone_into}
use Rattle.bac6_text.proofs.Whole.{WholeBones, bone-whole}
use Rattle.bac6_text.proofs.Rows.{bone_wide}

-- ---- a bone takes a token, and begins with (

pub bone_opens : (ms : List Lexeme) → bone ms ≡ (open_bracket >> bone_tail) ms
unfolding bone bone_tail opened opened_of keyword after ◌>>=◌ ◌>>◌
bone_opens ms =
    ap (λ (g : Got (List (Option BoneField))). after g (λ fs. pure (bone_of fs))) (then_assoc open_bracket (word_of (bytes "bone")) (fields bone_kinds) ms)
    ∙ then_bind open_bracket (word_of (bytes "bone") >> fields bone_kinds) (λ fs. pure (bone_of fs)) ms

word_keeps : (ks : List String) → Keeps (word ks)
unfolding word
word_keeps ks = bind_keeps (takes_keeps (one_of_takes ks)) (λ n. pure_keeps (pos n))

kinds_keep : AllKeep bone_kinds
unfolding bone_kinds kind truth
kinds_keep =
    let t = bind_keeps (closed_keeps (word_keeps ("false" ∷ "true" ∷ []))) (λ z. pure_keeps (flag z)) in
    let v = bind_keeps (closed_keeps (numbers_keeps FLOAT 3)) (λ zs. pure_keeps (several zs)) in
    (bind_keeps (closed_keeps (takes_keeps string_takes)) (λ n. pure_keeps (named n)), (t, (t, (v, (v, (v, (bind_keeps (many_keeps (takes_keeps (number_takes INT))) (λ zs. pure_keeps (several zs)), tt)))))))

pub bone_keeps : Keeps bone_tail
unfolding bone_tail
bone_keeps = bind_keeps (then_keeps (takes_keeps (keyword_takes "bone")) (fields_keeps bone_kinds kinds_keep)) (λ fs. pure_keeps (bone_of fs))

pub bone_takes : Takes bone
unfolding bone
bone_takes = bind_takes (then_takes (opened_takes "bone") (fields_keeps bone_kinds kinds_keep)) (λ fs. pure_keeps (bone_of fs))

-- ---- one step

not-not : (b : Bool) → not (not b) ≡ b
not-not true = refl
not-not false = refl

claimed_faulty : (n : ℕ) (b : ℤ) (owners zs : List ℤ) → claimed n b (false, owners) zs ≡ (false, owners)
unfolding claimed claimed_one
claimed_faulty n b owners [] = refl
claimed_faulty n b owners (z ∷ zs) = claimed_faulty n b owners zs

fault-at : (row : ℕ) (v : Bool) → fault_of (then_some (not v) row) ≡ fault_at row v
unfolding fault_of fault_at
fault-at row true = refl
fault-at row false = refl

module _ (text : List ℕ) (c : Cursor) (points row to : ℕ) (table table' owners owners' : List ℤ) (m : min to (length table) ≡ min (row * 14) (length table)) (k : Result (Bool × ℕ) Refusal) where
  step : (f : Perhaps ℕ) → parsed {A = List ℤ × (Bool × List ℤ)} text k (λ v. (table', (v, owners'))) ≡ from text c (bone_into points (pos row) to table (not (is_some f), owners)) → parsed {A = ℕ × List ℤ × (Fault × List ℤ)} text k (λ v. (row + 1, table', (fault_of (option_or f (then_some (not v) row)), owners'))) ≡ from text c (stepped (bone_step points) bone_tail (row, table, (fault_of f, owners)))
  unfolding bone_into stepped bone_step fault_of claimed_bone after_bone
  -- an earlier bone is at fault
  step (Some place) p = reformed bone_tail _ (λ (y : List ℤ × (Bool × List ℤ)). (row + 1, y.0, (fault 11 place, y.1.1))) _ (λ b. rw (claimed_faulty points (pos row) owners b.vertices, overlay_at-same to (row * 14) (bone_row b (pos 0)) table m)) text c k (λ (v : Bool). (table', (v, owners'))) p
  step None p = reformed bone_tail _ (λ (y : List ℤ × (Bool × List ℤ)). (row + 1, y.0, (fault_of (then_some (not y.1.0) row), y.1.1))) _ (λ b. rw (fault-at row (claimed points (pos row) (true, owners) b.vertices).0, overlay_at-same to (row * 14) (bone_row b (pos 0)) table m)) text c k (λ (v : Bool). (table', (v, owners'))) p

  -- the same by the row's bits, and by what the code finds of the faults before
  pub bone-stepped : (f : Perhaps ℕ) (n : Bool) → row < 2 ^ 63 → is_some f ≡ not n → parsed {A = List ℤ × (Bool × List ℤ)} text k (λ v. (table', (v, owners'))) ≡ from text c (bone_into points (to_z w64 row) to table (n, owners)) → parsed {A = ℕ × List ℤ × (Fault × List ℤ)} text k (λ v. (row + 1, table', (fault_of (option_or f (then_some (not v) row)), owners'))) ≡ from text c (stepped (bone_step points) bone_tail (row, table, (fault_of f, owners)))
  bone-stepped f n h e p = step f (rw (e, not-not n) (rw (bits_pos row h) at p))

-- a bracket that opens an item stands before the last token
pub item_falls : (text : List ℕ) (d e : ℕ) (v : Bool) → reads text (Ok e) v ≡ from text (Ok d) item_of → 1 < length (lex_at text d)
item_falls text d e v p = let s = lex_at_some text e in let h = falls text d e item_of v item_takes p in omega arith

-- ---- all of them

triple : {A B C : Type 0} (a a' : A) (b b' : B) (c c' : C) → a ≡ a' → b ≡ b' → c ≡ c' → ◌≡◌ {A = A × B × C} (a, b, c) (a', b', c')
triple a a' b b' c c' p q r = rw (p, q, r)

module _ (points : ℕ) where
  fold-bones : (n : ℕ) (t : List ℤ) (s : Fault × List ℤ) (bs : List Bone) → WholeBones bs → fold (bone_step points) (n, t, s) bs ≡ (n + length bs, overlay_at (n * 14) (flat (map (λ b. bone_row b (pos 0)) bs)) t, claimed_bones points n s bs)
  unfolding fold bone_step flat claimed_bones
  fold-bones n t s [] h = rw (add-zero n, overlay_at_none (n * 14) t)
  fold-bones n t s (b ∷ bs) h =
      let r = bone_row b (pos 0) in
      let i : n * 14 + length r ≡ (n + 1) * 14 = omega (arith, bone_wide b h.0 (pos 0)) in
      fold-bones (n + 1) (overlay_at (n * 14) r t) (claimed_bone points n s b.vertices) bs h.1
      ∙ triple _ _ _ _ _ _ (omega arith)
      (sym (overlay_at-append (n * 14) r (flat (map (λ b. bone_row b (pos 0)) bs)) t ∙ ap (λ (k : ℕ). overlay_at k (flat (map (λ b. bone_row b (pos 0)) bs)) (overlay_at (n * 14) r t)) i))
      (ap (λ (k : ℕ). claimed_bones points k (claimed_bone points n s b.vertices) bs) (add-one n))

  fold-all : (table owners : List ℤ) (bs : List Bone) → WholeBones bs → fold (bone_step points) (0, table, (clear, owners)) bs ≡ (length bs, overlay_at 0 (flat (map (λ b. bone_row b (pos 0)) bs)) table, claimed_bones points 0 (clear, owners) bs)
  fold-all table owners bs h = fold-bones 0 table (clear, owners) bs h ∙ triple _ _ _ _ _ _ (zero-add (length bs)) refl refl

  pub bones-all : (table owners : List ℤ) (ms : List Lexeme) → (stepped (bone_step points) bone (0, table, (clear, owners)) >>= λ s. folded (bone_step points) bone s) ms ≡ bones_into points table owners ms
  unfolding stepped folded fold bones_into many⁺ ◌>>=◌ pure after
  bones-all table owners ms =
      after-after (bone ms) _ _
      ∙ after_when (bone ms) _ _ (λ a l e. after_when (many bone l) _ _ (λ bs k q. ap (λ (v : ℕ × List ℤ × (Fault × List ℤ)). got v k) (fold-all table owners (a ∷ bs) (free bone-whole ms a l e, free (many-gives bone-whole) l bs k q))) ∙ sym (after-after (many bone l) _ _))
      ∙ sym (after-after (bone ms) _ _)

-- the first bone, and those after it
module _ (points : ℕ) (text : List ℕ) (c d : Cursor) (table owners : List ℤ) (p : reads text d tt ≡ from text c open_bracket) where
  first : (ms : List Lexeme) → (open_bracket >> stepped (bone_step points) bone_tail (0, table, (clear, owners))) ms ≡ stepped (bone_step points) bone (0, table, (clear, owners)) ms
  unfolding stepped ◌>>=◌
  first ms = sym (then_bind open_bracket bone_tail (λ b. pure (bone_step points (0, table, (clear, owners)) b)) ms) ∙ ap (λ (g : Got Bone). after g (λ b. pure (bone_step points (0, table, (clear, owners)) b))) (sym (bone_opens ms))

  pub bones_stopped : {k n : ℕ} → from text d (stepped (bone_step points) bone_tail (0, table, (fault_of None, owners))) ≡ refused k n → from text c (bones_into points table owners) ≡ refused k n
  unfolding fault_of
  bones_stopped h =
      sym (from-same text c _ _ (bones-all points table owners))
      ∙ halt text c (stepped (bone_step points) bone (0, table, (clear, owners))) (sym (from-same text c _ _ first) ∙ onto_then text c d tt open_bracket _ p ∙ h) (λ x. folded (bone_step points) bone x)

  pub bones-from : (e : Cursor) (s : ℕ × List ℤ × (Fault × List ℤ)) {x : Got (ℕ × List ℤ × (Fault × List ℤ))} → reads text e s ≡ from text d (stepped (bone_step points) bone_tail (0, table, (fault_of None, owners))) → x ≡ from text e (folded (bone_step points) bone s) → x ≡ from text c (bones_into points table owners)
  unfolding fault_of
  bones-from e s q u =
      u
      ∙ sym (onto text c e s (stepped (bone_step points) bone (0, table, (clear, owners))) (λ x. folded (bone_step points) bone x) (seq text c d tt open_bracket (stepped (bone_step points) bone_tail (0, table, (clear, owners))) p q ∙ from-same text c _ _ first))
      ∙ from-same text c _ _ (bones-all points table owners)
