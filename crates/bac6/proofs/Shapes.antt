-- What a text that was parsed says of the grammar's figure: refused where the code refuses, and else a figure of which parsing kept what it did.
use mathlib.Core.Path.{◌≡◌, refl, ap, sym, ◌∙◌}
use mathlib.Core.List.{List}
use Prim.Native.Nat.{ℕ, ◌≤◌}
use lib.IntN.{ℤ, negsuc}
use lib.ListN.{length, replicate}
use Rattle.refusal.specs.Outcomes.{rejected, ruled}
use Rattle.text_tokens.specs.Tokens.{lex, lex_at}
use Rattle.std.proofs.Common.{Result, Ok, Err}
use Rattle.refusal.specs.declared.checked.Refusal.{Refusal}
use Rattle.parse_spec.specs.Readers.{Got, got, refused, after, ◌>>=◌, pure}
use Rattle.parse_cursor.specs.Internal.Cursors.{from, parsed}
use Rattle.parse_spec.proofs.Many.{not-got}
use Rattle.parse_text.specs.Texts.{shaped}
use Rattle.parse_text.proofs.Answers.{same_answer}
use Rattle.parse_text.proofs.Outcomes.{shape-rejected}
use Rattle.bac6_text.specs.Figure.{Figure}
use Rattle.bac6_text.specs.Grammar.{figure}
use Rattle.bac6_text.specs.Layout.{layout_of}
use Rattle.bac6_text.specs.Rules.{figure_fault}
use Rattle.bac6_shape.specs.declared.shape.Parsed.{Parsed}
use Rattle.bac6_shape.specs.Internal.Parse.{Kept, kept_of, figure_into}
use Rattle.bac6_shape.specs.Internal.Answers.{kept_by}
use Rattle.bac6.specs.declared.setting.FigureAnswer.{FigureAnswer}
use Rattle.bac6.specs.Internal.Checks.{Held}
use Rattle.bac6.specs.Answers.{answer_of}
use Rattle.bac6.specs.Internal.Answers.{Answered, RowsAnswered}

-- what was held, of the text's own figure
pub record HeldOf (text : List ℕ) (p : Parsed) (rows owners names : List ℤ) : Type 0 where
  pub held : Held p rows owners names
  pub same : ruled held.read (figure_fault held.read) ≡ shaped figure_fault (figure (lex text))

refusals : {A B : Type 0} (n i k j : ℕ) → ◌≡◌ {A = Got A} (refused k j) (refused n i) → ◌≡◌ {A = Got B} (refused n i) (refused k j)
refusals n i k j h = let a : n ≡ k = cc in let b : i ≡ j = cc in rw (a, b)

module _ (text : List ℕ) (rows owners names : List ℤ) (r : Result (Parsed × ℕ) Refusal) (rows' owners' names' : List ℤ) (e : parsed text r (λ p. kept_by p rows' owners' names') ≡ figure_into rows owners names (lex text)) where
  same-figure : parsed text r (λ p. kept_by p rows' owners' names') ≡ after (figure (lex text)) (λ f. pure (kept_of rows owners names f))
  unfolding figure_into ◌>>=◌
  same-figure = e

  pub shape-refused : {x : Refusal} → r ≡ Err x → shaped figure_fault (figure (lex text)) ≡ rejected x.number x.place
  unfolding after pure
  shape-refused {x} z = shape-rejected figure_fault (go (figure (lex text)) refl)
    where
      off : refused x.number x.place ≡ after (figure (lex text)) (λ f. pure (kept_of rows owners names f))
      off = rw z at same-figure

      go : (y : Got Figure) → figure (lex text) ≡ y → figure (lex text) ≡ refused x.number x.place
      go (got f l) q = let h : refused x.number x.place ≡ got (kept_of rows owners names f) l = off ∙ ap (λ (y : Got Figure). after y (λ f. pure (kept_of rows owners names f))) q in absurd (not-got x.number x.place (kept_of rows owners names f) l h)
      go (refused n i) q = let h : ◌≡◌ {A = Got Kept} (refused x.number x.place) (refused n i) = off ∙ ap (λ (y : Got Figure). after y (λ f. pure (kept_of rows owners names f))) q in q ∙ refusals n i x.number x.place h

  pub shape-held : {x : Parsed × ℕ} → r ≡ Ok x → length text ≤ 65536 → length rows ≡ 34912 → owners ≡ replicate 2048 (negsuc 0) → length names ≡ 64 → HeldOf text x.0 rows' owners' names'
  unfolding from after pure shaped
  shape-held {x} z s m o n = go (figure (lex text)) refl
    where
      on : got (kept_by x.0 rows' owners' names') (lex_at text x.1) ≡ after (figure (lex text)) (λ f. pure (kept_of rows owners names f))
      on = rw z at same-figure

      go : (g : Got Figure) → figure (lex text) ≡ g → HeldOf text x.0 rows' owners' names'
      go (got f l) q =
          let h : got (kept_by x.0 rows' owners' names') (lex_at text x.1) ≡ got (kept_of rows owners names f) l = on ∙ ap (λ (y : Got Figure). after y (λ f. pure (kept_of rows owners names f))) q in
          let k : kept_of rows owners names f ≡ kept_by x.0 rows' owners' names' = cc in
          record {
            held =
                record {
                  text = text;
                  short = s;
                  read = f;
                  left = l;
                  gives = q;
                  rows_entry = rows;
                  names_entry = names;
                  rows_most = m;
                  names_most = n;
                  kept = ap (λ (v : List ℤ). kept_of rows v names f) (sym o) ∙ k;
                };
            same = ap (shaped figure_fault) (sym q);
          }
      go (refused n i) q = let h : got (kept_by x.0 rows' owners' names') (lex_at text x.1) ≡ refused n i = on ∙ ap (λ (y : Got Figure). after y (λ f. pure (kept_of rows owners names f))) q in absurd (not-got n i (kept_by x.0 rows' owners' names') (lex_at text x.1) (sym h))

-- what answers the rows answers the text's figure
pub held_answered : {text : List ℕ} {p : Parsed} {rows owners names : List ℤ} {table exit : List ℤ} {r : FigureAnswer} → HeldOf text p rows owners names → RowsAnswered p rows owners names table exit r → Answered (shaped figure_fault (figure (lex text))) table exit r
held_answered h a = same_answer answer_of layout_of h.same (a.outcome h.held)
