-- What parsing leaves in the tables is what the grammar's movement has: both sequences of readers are walked side by side.
use mathlib.Core.Path.{◌≡◌, refl, ap, sym, ◌∙◌}
use mathlib.Core.List.{List, []}
use mathlib.Core.Option.{some}
use Prim.Native.Nat.{ℕ, ◌≤◌}
use lib.IntN.{ℤ}
use lib.ListN.{length}
use Rattle.refusal.specs.Outcomes.{rejected, ruled}
use Rattle.text_numerals.specs.Numbers.{INT}
use Rattle.text_tokens.specs.Tokens.{Lexeme, lex, lex_at}
use Rattle.std.proofs.Common.{Ok}
use Rattle.parse_spec.specs.Readers.{Name, absent, Got, got, refused, Reader, after, ◌>>=◌, ◌>>◌, pure, head, opened, closed, string, number, optional, trailing, many, close_bracket, text_end}
use Rattle.parse_spec.specs.Internal.Places.{place_of, optional_name}
use Rattle.parse_cursor.specs.Internal.Cursors.{from, reads}
use Rattle.table_rows.specs.Internal.Overlay.{overlay_at}
use Rattle.table_rows.specs.Flat.{flat}
use Rattle.parse_rows.specs.Internal.Folds.{fold}
use Rattle.parse_cursor.proofs.Behind.{behind_off}
use Rattle.parse_spec.proofs.Many.{got-value}
use Rattle.parse_spec.proofs.Given.{before}
use Rattle.parse_spec.proofs.Sequences.{into_then, into_bind}
use Rattle.parse_text.specs.Texts.{shaped}
use Rattle.parse_text.proofs.Answers.{same_answer}
use Rattle.parse_text.proofs.Outcomes.{shape-rejected}
use Rattle.tra4_text.specs.Movement.{Bone, Pattern, Movement}
use Rattle.tra4_text.specs.Grammar.{bone, pattern, repeated⁺, movement}
use Rattle.tra4_text.specs.Layout.{layout_of}
use Rattle.tra4_text.specs.Rules.{movement_fault}
use Rattle.tra4_bones.specs.Internal.Into.{bone_step, bones_into}
use Rattle.tra4_bone.specs.Internal.Into.{Kept}
use Rattle.tra4_parse.specs.declared.shape.Shape.{Shape}
use Rattle.tra4_patterns.specs.Internal.Patterns.{patterns_into}
use Rattle.tra4_parse.specs.Internal.Parse.{MovementValue, movement_value, movement_into}
use Rattle.tra4.specs.declared.setting.MovementAnswer.{MovementAnswer}
use Rattle.tra4.specs.Answers.{answer_of}
use Rattle.tra4.specs.Internal.Answers.{Answered, RowsAnswered}
use Rattle.tra4.specs.Internal.Parse.{value_of}
use Rattle.tra4.specs.Internal.Checks.{parsed_as, Held}

pure-after : {A : Type 0} (g : Got A) → after g (λ a. pure a) ≡ g
unfolding after pure
pure-after (got a l) = refl
pure-after (refused n p) = refl

bind-pure : {A : Type 0} (r : Reader A) (ms : List Lexeme) → (r >>= λ a. pure a) ms ≡ r ms
unfolding ◌>>=◌
bind-pure r ms = pure-after (r ms)

module _ (rows keys lines : List ℤ) where
  keep : Movement → Reader MovementValue
  keep m = pure (value_of rows keys lines m)

  given : MovementValue → Reader MovementValue
  given v = pure v

  bones_of : List Bone → ℕ × Kept
  bones_of bs = fold bone_step (0, some (rows, 0, keys)) bs

  lines_of : List Pattern → ℕ × List ℤ
  lines_of ps = (length ps, overlay_at 0 (flat ps) lines)

  module _ (n : Name) (t : ℤ) where
    abbrev movement_of : List Bone → List Pattern → Movement
    movement_of bs ps = record { total_frames = t; name = n; bones = bs; patterns = ps }

    last-same : (bs : List Bone) (ps : List Pattern) (ms : List Lexeme) → (close_bracket >> (text_end >> pure (movement_of bs ps)) >>= keep) ms ≡ (close_bracket >> (text_end >> pure (movement_value t (place_of n) (bones_of bs) (lines_of ps))) >>= given) ms
    last-same bs ps = into_then keep given close_bracket _ _ (into_then keep given text_end _ _ done)
      where
        done : (ms : List Lexeme) → (pure (movement_of bs ps) >>= keep) ms ≡ (pure (movement_value t (place_of n) (bones_of bs) (lines_of ps)) >>= given) ms
        done ms = unfold keep given value_of bones_of lines_of ◌>>=◌ pure after in refl

  value_same : (ms : List Lexeme) → (movement >>= keep) ms ≡ (movement_into rows keys lines >>= given) ms
  unfolding movement movement_into optional_name bones_into patterns_into bones_of lines_of
  value_same =
      into_then keep given (head "traVersion" "4.0") _ _
      (into_then keep given (opened "Figure") _ _
      (into_bind keep given (optional "name" absent (closed string)) place_of optional_name (λ ms. refl) _ _ (λ n.
      into_then keep given (opened "totalFrame") _ _
      (into_bind keep given (closed (number INT)) (λ t. t) (closed (number INT)) (bind-pure (closed (number INT))) _ _ (λ t.
      into_bind keep given (repeated⁺ "bone" bone) bones_of (bones_into rows keys) (λ ms. refl) _ _ (λ bs.
      into_bind keep given (trailing "DynamicPolygons" [] (many pattern)) lines_of (patterns_into lines) (λ ms. refl) _ _ (λ ps.
      last-same n t bs ps)))))))

  pub movement-same : (ms : List Lexeme) → (movement >>= λ m. pure (value_of rows keys lines m)) ms ≡ movement_into rows keys lines ms
  unfolding keep given
  movement-same ms = value_same ms ∙ bind-pure (movement_into rows keys lines) ms

-- ---- what a parsed text says of the grammar's movement

-- what was held, of the text's own movement
pub record HeldOf (text : List ℕ) (p : Shape) (b k g : List ℤ) : Type 0 where
  pub held : Held p b k g
  pub same : ruled held.read (movement_fault held.read) ≡ shaped movement_fault (movement (lex text))

module _ (text : List ℕ) (rows keys lines : List ℤ) where
  same-movement : {g : Got MovementValue} → g ≡ movement_into rows keys lines (lex text) → g ≡ after (movement (lex text)) (λ m. pure (value_of rows keys lines m))
  unfolding ◌>>=◌
  same-movement e = e ∙ sym (movement-same rows keys lines (lex text))

  pub shape-held : (p : Shape) (b k g : List ℤ) (at : ℕ) → reads text (Ok at) (parsed_as p b k g) ≡ movement_into rows keys lines (lex text) → length text ≤ 65536 → length rows ≡ 2816 → length keys ≡ 8192 → length lines ≡ 768 → HeldOf text p b k g
  unfolding from pure shaped
  shape-held p b k g at e s r o n =
      let f = before (movement (lex text)) (λ m. pure (value_of rows keys lines m)) (parsed_as p b k g) (lex_at text at) (sym (same-movement e)) in
      record {
        held =
            record {
              text = text;
              short = s;
              read = f.value;
              left = f.left;
              gives = f.first;
              bones_entry = rows;
              keys_entry = keys;
              patterns_entry = lines;
              bones_most = r;
              keys_most = o;
              patterns_most = n;
              kept_as = got-value _ _ _ _ f.second;
            };
        same = ap (shaped movement_fault) (sym f.first);
      }

  pub shape-refused : {n q : ℕ} → refused n q ≡ movement_into rows keys lines (lex text) → shaped movement_fault (movement (lex text)) ≡ rejected n q
  shape-refused e = shape-rejected movement_fault (behind_off (value_of rows keys lines) (movement (lex text)) (sym (same-movement e)))

-- what answers the rows answers the text's movement
pub held_answered : {text : List ℕ} {p : Shape} {b k g : List ℤ} {table exit : List ℤ} {r : MovementAnswer} → HeldOf text p b k g → RowsAnswered p b k g table exit r → Answered (shaped movement_fault (movement (lex text))) table exit r
held_answered h a = same_answer answer_of layout_of h.same (a.outcome h.held)
