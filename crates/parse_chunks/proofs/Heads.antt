-- The head of a chunk in a free order: what each token makes of it, and what a row that it gives says.
use mathlib.Core.Path.{◌≡◌, refl, ap, sym, ◌∙◌}
use mathlib.Core.List.{List}
use mathlib.Core.Bool.{Bool, true, false, and-false}
use Prim.Native.Nat.{ℕ, zero, suc, ◌≤◌, ◌<◌}
use borrow.Author.Tests.{lt-ltb, le-ltb, ltb-true, not-true}
use lib.Dec.{ltb}
use lib.ListN.{length, get_or}
use Rattle.text_tokens.specs.Tokens.{Token, Lexeme, lexeme, lex_at}
use Rattle.text_tokens.specs.declared.token.Span.{Span}
use Rattle.text_tokens.specs.Internal.Answers.{Next, lexeme_of}
use Rattle.text_numerals.proofs.Numerals.{and_true}
use Rattle.std.proofs.Common.{Option, Some, None, Ok}
use Rattle.parse_spec.specs.Readers.{Got, got, refused, Reader, after, ◌>>◌, pure, stop, token_of, rest, take_if, open_bracket}
use Rattle.text_kinds.specs.Kinds.{is_opening, is_closing}
use Rattle.text_kinds.specs.Internal.Kinds.{is_plain}
use Rattle.parse_cursor.specs.Internal.Cursors.{reads, from}
use Rattle.parse_spec.specs.Internal.Fields.{covers_all}
use Rattle.parse_spec.proofs.Choices.{after_stop}
use Rattle.parse_cursor.proofs.Steps.{next_token, next_stop, next_rest, live}
use Rattle.parse_spec.proofs.Many.{got-value, stop-not}
use Rattle.parse_words.specs.Internal.Words.{index_in}
use Rattle.parse_chunks.specs.Internal.Heads.{unmet, key_in, open_in, head_in}

-- ---- a keyword whose flag is clear

module _ (ws : List (List ℕ)) (seen : List Bool) (t : Token) where
  pub unmet-other : is_plain t ≡ false → unmet ws seen t ≡ false
  unfolding unmet
  unmet-other e = rw e

  pub unmet_past : length seen ≤ index_in t ws → unmet ws seen t ≡ false
  unfolding unmet
  unmet_past h = rw (le-ltb (index_in t ws) (length seen) h) (and-false (is_plain t))

  pub unmet-set : get_or seen (index_in t ws) false ≡ true → unmet ws seen t ≡ false
  unfolding unmet
  unmet-set e = rw (e, and-false (ltb (index_in t ws) (length seen))) (and-false (is_plain t))

  pub unmet_yes : is_plain t ≡ true → index_in t ws < length seen → get_or seen (index_in t ws) false ≡ false → unmet ws seen t ≡ true
  unfolding unmet
  unmet_yes p h e = rw (p, lt-ltb (index_in t ws) (length seen) h, e)

  unmet-plain : unmet ws seen t ≡ true → is_plain t ≡ true
  unfolding unmet
  unmet-plain e = (and_true (is_plain t) _ e).0

  pub unmet_row : unmet ws seen t ≡ true → index_in t ws < length seen
  unfolding unmet
  unmet_row e =
      let p = and_true (is_plain t) _ e in
      ltb-true _ _ (and_true (ltb (index_in t ws) (length seen)) _ p.1).0

  pub unmet-clear : unmet ws seen t ≡ true → get_or seen (index_in t ws) false ≡ false
  unfolding unmet
  unmet-clear e =
      let p = and_true (is_plain t) _ e in
      let q = and_true (ltb (index_in t ws) (length seen)) _ p.1 in
      not-true _ q.1

module _ (ws : List (List ℕ)) (seen : List Bool) (ms : List Lexeme) where
  pub key_yes : unmet ws seen (token_of ms) ≡ true → key_in ws seen ms ≡ got (Some (index_in (token_of ms) ws)) (rest ms)
  unfolding key_in
  key_yes e = rw (e, key_in)

  pub key_no : unmet ws seen (token_of ms) ≡ false → key_in ws seen ms ≡ stop 5 ms
  unfolding key_in
  key_no e = rw (e, key_in)

-- ---- a head by its first token

module _ (ws : List (List ℕ)) (needed seen : List Bool) (ms : List Lexeme) where
  pub head_close : (left : ℕ) → is_closing (token_of ms) ≡ true → covers_all needed seen ≡ true → head_in ws needed seen left ms ≡ got None (rest ms)
  unfolding head_in
  head_close left e f = rw (e, f, head_in)

  pub head_early : (left : ℕ) → is_closing (token_of ms) ≡ true → covers_all needed seen ≡ false → head_in ws needed seen left ms ≡ stop 5 ms
  unfolding head_in
  head_early left e f = rw (e, f, head_in)

  pub head_full : is_closing (token_of ms) ≡ false → head_in ws needed seen 0 ms ≡ stop 5 ms
  unfolding head_in open_in
  head_full e = rw (e, head_in)

  pub head-other : (left : ℕ) → is_closing (token_of ms) ≡ false → is_opening (token_of ms) ≡ false → head_in ws needed seen left ms ≡ stop 5 ms
  unfolding head_in open_in open_bracket take_if ◌>>◌
  head-other zero e f = rw (e, head_in)
  head-other (suc left) e f = rw (e, head_in, f, take_if) (after_stop 5 ms _)

  pub head_open : (left : ℕ) → is_closing (token_of ms) ≡ false → is_opening (token_of ms) ≡ true → head_in ws needed seen (suc left) ms ≡ key_in ws seen (rest ms)
  unfolding head_in open_in open_bracket take_if ◌>>◌ after
  head_open left e f = rw (e, head_in, f, take_if)

-- ---- the code's offset and row, by its tests of the token

module _ (text : List ℕ) (at : ℕ) (t : Span) (n : Next text at t) where
  refused-at : (g : Got (Option ℕ)) → g ≡ stop 5 (lex_at text at) → refused 5 t.start ≡ g
  refused-at g e = sym (e ∙ next_stop text at t n 5)

  module _ (ws : List (List ℕ)) (seen : List Bool) where
    pub word_no : unmet ws seen (lexeme_of text t).token ≡ false → refused 5 t.start ≡ key_in ws seen (lex_at text at)
    word_no e = refused-at _ (key_no ws seen (lex_at text at) (rw (next_token text at t n) e))

    pub word_yes : unmet ws seen (lexeme_of text t).token ≡ true → reads text (Ok t.end) (Some (index_in (lexeme_of text t).token ws)) ≡ key_in ws seen (lex_at text at)
    unfolding from pure lexeme_of lexeme
    word_yes e =
        let p = unmet-plain ws seen (lexeme_of text t).token e in
        sym (key_yes ws seen (lex_at text at) (rw (next_token text at t n) e)
        ∙ rw (next_token text at t n) (ap (got (Some (index_in (lexeme_of text t).token ws))) (next_rest text at t n (live is_plain (unfold is_plain in refl) t.kind _ p))))

  module _ (ws : List (List ℕ)) (seen needed : List Bool) where
    refused-from : (r : Reader (Option ℕ)) → r (lex_at text at) ≡ stop 5 (lex_at text at) → refused 5 t.start ≡ from text (Ok at) r
    unfolding from
    refused-from r e = refused-at _ e

    closes : (v : Bool) → is_closing (lexeme_of text t).token ≡ v → is_closing (token_of (lex_at text at)) ≡ v
    closes v e = ap is_closing (next_token text at t n) ∙ e

    opens : (v : Bool) → is_opening (lexeme_of text t).token ≡ v → is_opening (token_of (lex_at text at)) ≡ v
    opens v e = ap is_opening (next_token text at t n) ∙ e

    pub next_close : (left : ℕ) → is_closing (lexeme_of text t).token ≡ true → covers_all needed seen ≡ true → reads text (Ok t.end) None ≡ from text (Ok at) (head_in ws needed seen left)
    unfolding from pure lexeme_of lexeme
    next_close left e f =
        sym (head_close ws needed seen _ left (closes true e) f
        ∙ ap (got None) (next_rest text at t n (live is_closing (unfold is_closing in refl) t.kind _ e)))

    pub next_early : (left : ℕ) → is_closing (lexeme_of text t).token ≡ true → covers_all needed seen ≡ false → refused 5 t.start ≡ from text (Ok at) (head_in ws needed seen left)
    next_early left e f = refused-from _ (head_early ws needed seen _ left (closes true e) f)

    pub next_full : (left : ℕ) → left ≡ 0 → is_closing (lexeme_of text t).token ≡ false → refused 5 t.start ≡ from text (Ok at) (head_in ws needed seen left)
    next_full left z e = rw z (refused-from _ (head_full ws needed seen _ (closes false e)))

    pub next_other : (left : ℕ) → is_closing (lexeme_of text t).token ≡ false → is_opening (lexeme_of text t).token ≡ false → refused 5 t.start ≡ from text (Ok at) (head_in ws needed seen left)
    next_other left e f = refused-from _ (head-other ws needed seen _ left (closes false e) (opens false f))

    pub next_open : (left : ℕ) → (left ≡ 0 → ⊥) → is_closing (lexeme_of text t).token ≡ false → is_opening (lexeme_of text t).token ≡ true → {g : Got (Option ℕ)} → g ≡ key_in ws seen (lex_at text t.end) → g ≡ from text (Ok at) (head_in ws needed seen left)
    unfolding from lexeme_of lexeme
    next_open zero z e f p = absurd (z refl)
    next_open (suc left) z e f p =
        p
        ∙ sym (head_open ws needed seen _ left (closes false e) (opens true f)
        ∙ ap (key_in ws seen) (next_rest text at t n (live is_opening (unfold is_opening in refl) t.kind _ f)))

-- ---- a row that a head gives: it has a flag, which is clear, and a chunk could still open

module _ (ws : List (List ℕ)) (needed seen : List Bool) (k : ℕ) (l : List Lexeme) where
  key-unmet : (ms : List Lexeme) → key_in ws seen ms ≡ got (Some k) l → (k < length seen) × (get_or seen k false ≡ false)
  key-unmet ms e = go (unmet ws seen (token_of ms)) refl
    where
      go : (v : Bool) → unmet ws seen (token_of ms) ≡ v → (k < length seen) × (get_or seen k false ≡ false)
      go true u =
          let z = got-value _ _ _ _ (sym (key_yes ws seen ms u) ∙ e) in
          let y : index_in (token_of ms) ws ≡ k = cc in
          rw (← y) (unmet_row ws seen (token_of ms) u, unmet-clear ws seen (token_of ms) u)
      go false u = absurd (stop-not 5 ms (Some k) l (sym (key_no ws seen ms u) ∙ e))

  -- the closing bracket gives no row
  not-closed : (ms : List Lexeme) (left : ℕ) → head_in ws needed seen left ms ≡ got (Some k) l → is_closing (token_of ms) ≡ true → ⊥
  not-closed ms left e c = go (covers_all needed seen) refl
    where
      go : (v : Bool) → covers_all needed seen ≡ v → ⊥
      go true f = let z : None ≡ Some k = got-value _ _ _ _ (sym (head_close ws needed seen ms left c f) ∙ e) in cc
      go false f = stop-not 5 ms (Some k) l (sym (head_early ws needed seen ms left c f) ∙ e)

  pub head-left : (ms : List Lexeme) (left : ℕ) → head_in ws needed seen left ms ≡ got (Some k) l → left ≡ 0 → ⊥
  head-left ms left e z = go (is_closing (token_of ms)) refl
    where
      go : (v : Bool) → is_closing (token_of ms) ≡ v → ⊥
      go true c = not-closed ms left e c
      go false c = stop-not 5 ms (Some k) l (sym (head_full ws needed seen ms c) ∙ rw z at e)

  pub head_unmet : (ms : List Lexeme) (left : ℕ) → head_in ws needed seen left ms ≡ got (Some k) l → (k < length seen) × (get_or seen k false ≡ false)
  head_unmet ms zero e = absurd (head-left ms zero e refl)
  head_unmet ms (suc left) e = go (is_closing (token_of ms)) refl (is_opening (token_of ms)) refl
    where
      go : (v : Bool) → is_closing (token_of ms) ≡ v → (w : Bool) → is_opening (token_of ms) ≡ w → (k < length seen) × (get_or seen k false ≡ false)
      go true c w o = absurd (not-closed ms (suc left) e c)
      go false c true o = key-unmet (rest ms) (sym (head_open ws needed seen ms left c o) ∙ e)
      go false c false o = absurd (stop-not 5 ms (Some k) l (sym (head-other ws needed seen ms (suc left) c o) ∙ e))
