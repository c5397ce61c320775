-- The entries of a bone, turn by turn: the closing bracket, or an entry and those after it.
use mathlib.Core.Path.{◌≡◌, refl, ap, sym, ◌∙◌}
use mathlib.Core.List.{List}
use mathlib.Core.Bool.{Bool, true, false, true≢false}
use Prim.Native.Nat.{ℕ, ◌<◌}
use lib.IntN.{ℤ}
use lib.ListN.{length}
use Rattle.text_numerals.specs.Numbers.{INT}
use Rattle.text_tokens.specs.Tokens.{Lexeme, lexeme, lex_at}
use Rattle.text_tokens.specs.declared.token.Span.{Span}
use Rattle.text_tokens.specs.Internal.Answers.{Next, lexeme_of}
use Rattle.std.proofs.Common.{Ok}
use Rattle.parse_spec.specs.Readers.{got, refused, after, ◌>>=◌, pure, token_of, rest, number, many}
use Rattle.text_kinds.specs.Kinds.{is_closing}
use Rattle.parse_cursor.specs.Internal.Cursors.{Cursor, reads, from}
use Rattle.parse_cursor.proofs.Steps.{next_token, next_rest, live, onto, halt}
use Rattle.parse_spec.proofs.Binds.{after-after, after_same}
use Rattle.parse_spec.proofs.Many.{number_takes, many_end, many_more}
use Rattle.parse_cursor.proofs.Counts.{falls}
use mir.Syntax.{w64}
use mir.Val.{SFits, to_z, of_z}
use mir.Facts.{to_z-of_z}
use Rattle.bac6_owners.specs.Internal.Claims.{is_free, after_claim, claimed_one, claimed}
use Rattle.bac6_entries.specs.Internal.Into.{entries_into}

-- an entry, by whether every entry before it was free
module _ (n : ℕ) (bone z : ℤ) (owners : List ℤ) (fine : Bool) where
  pub tried_yes : (r : Bool) (left : List ℤ) → SFits w64 bone → SFits w64 z → fine ≡ true → r ≡ is_free n (to_z w64 (of_z w64 z)) owners → left ≡ after_claim n (to_z w64 (of_z w64 bone)) (to_z w64 (of_z w64 z)) owners → ◌≡◌ {A = Bool × List ℤ} (r, left) (claimed_one n bone (fine, owners) z)
  unfolding claimed_one
  tried_yes r left f g e p q = rw (e, p, q, to_z-of_z f, to_z-of_z g)

  pub tried_no : fine ≡ false → ◌≡◌ {A = Bool × List ℤ} (false, owners) (claimed_one n bone (fine, owners) z)
  unfolding claimed_one
  tried_no e = go fine e
    where
      go : (v : Bool) → v ≡ false → ◌≡◌ {A = Bool × List ℤ} (false, owners) (claimed_one n bone (v, owners) z)
      go true p = absurd (true≢false p)
      go false p = refl

module _ (n : ℕ) (bone : ℤ) (s : Bool × List ℤ) where
  into_end : (ms : List Lexeme) → is_closing (token_of ms) ≡ true → entries_into n bone s ms ≡ got s (rest ms)
  unfolding entries_into ◌>>=◌ after pure claimed
  into_end ms e = rw (many_end (number INT) ms e)

  into_more : (ms : List Lexeme) → is_closing (token_of ms) ≡ false → entries_into n bone s ms ≡ after (number INT ms) (λ z. entries_into n bone (claimed_one n bone s z))
  unfolding entries_into ◌>>=◌ after pure claimed
  into_more ms e = rw (many_more (number INT) (number_takes INT) ms e) (after-after (number INT ms) _ _ ∙ after_same (number INT ms) _ _ (λ z l. after-after (many (number INT) l) _ _))

  module _ (text : List ℕ) (at : ℕ) (t : Span) (x : Next text at t) where
    pub entries_end : is_closing (lexeme_of text t).token ≡ true → reads text (Ok t.end) s ≡ from text (Ok at) (entries_into n bone s)
    unfolding from lexeme_of lexeme pure
    entries_end e =
        sym (into_end (lex_at text at) (ap is_closing (next_token text at t x) ∙ e)
        ∙ ap (got s) (next_rest text at t x (live is_closing (unfold is_closing in refl) t.kind _ e)))

    module _ (e : is_closing (lexeme_of text t).token ≡ false) where
      more : from text (Ok at) (entries_into n bone s) ≡ from text (Ok at) (number INT >>= λ z. entries_into n bone (claimed_one n bone s z))
      unfolding from ◌>>=◌
      more = into_more (lex_at text at) (ap is_closing (next_token text at t x) ∙ e)

      pub entries_more : (d : Cursor) (z : ℤ) → reads text d z ≡ from text (Ok at) (number INT) → from text (Ok at) (entries_into n bone s) ≡ from text d (entries_into n bone (claimed_one n bone s z))
      entries_more d z p = more ∙ onto text (Ok at) d z (number INT) _ p

      pub entries_off : {k p : ℕ} → from text (Ok at) (number INT) ≡ refused k p → from text (Ok at) (entries_into n bone s) ≡ refused k p
      entries_off p = more ∙ halt text (Ok at) (number INT) p _

-- fewer tokens are left after an entry
pub entry_falls : (text : List ℕ) (at d : ℕ) (z : ℤ) → reads text (Ok d) z ≡ from text (Ok at) (number INT) → length (lex_at text d) < length (lex_at text at)
entry_falls text at d z p = falls text at d (number INT) z (number_takes INT) p

-- a bone's number from its bits
pub entries_bits : (n : ℕ) (bone : ℤ) (s : Bool × List ℤ) (ms : List Lexeme) → SFits w64 bone → entries_into n (to_z w64 (of_z w64 bone)) s ms ≡ entries_into n bone s ms
entries_bits n bone s ms f = ap (λ (b : ℤ). entries_into n b s ms) (to_z-of_z f)

-- the entries after one that was tried
pub entries_tried : (n : ℕ) (bone z : ℤ) (s q : Bool × List ℤ) (ms : List Lexeme) → SFits w64 z → q ≡ claimed_one n bone s (to_z w64 (of_z w64 z)) → entries_into n bone (claimed_one n bone s z) ms ≡ entries_into n bone q ms
entries_tried n bone z s q ms f e = ap (λ (x : Bool × List ℤ). entries_into n bone x ms) (sym (e ∙ ap (claimed_one n bone s) (to_z-of_z f)))
