-- Laws of lists of keywords: words by their runs, and the kind that a token picks.
use mathlib.Core.Path.{◌≡◌, refl, ap, sym, ◌∙◌}
use mathlib.Core.List.{List, [], ◌∷◌}
use mathlib.Core.Bool.{Bool, true, false, not}
use Prim.Native.Nat.{ℕ, suc, ◌+◌, ◌≤◌, ◌<◌}
use native.Mathlib.Nat.{add-sub_cancel_left}
use native.Mathlib.Omega.{arith}
use borrow.Author.Tests.{not-true, leb-true, leb-false, ltb-true, ltb-false, lt-ltb, le-ltb}
use Prim.Native.String.{String}
use lib.Dec.{leb, ltb}
use lib.ListN.{length, drop, length-drop}
use lib.Seq.{drop-drop}
use Rattle.text_bytes.specs.Bytes.{bytes, in_word}
use Rattle.text_runs.specs.Runs.{same, run, part}
use lib.IntN.{pos}
use Rattle.text_tokens.specs.Tokens.{Token, plain, Lexeme, lexeme, is_keyword}
use Rattle.text_tokens.specs.declared.token.Span.{Span}
use Rattle.text_tokens.specs.Internal.Answers.{Next, lexeme_of}
use Rattle.text_runs.proofs.Runs.{run_yes, run_no, run_take}
use Rattle.text_numerals.proofs.Numerals.{and_true}
use Rattle.std.proofs.Common.{Ok}
use Rattle.parse_spec.specs.Readers.{got, refused, after, ◌>>=◌, pure, stop, token_of, rest, one_from, one_of}
use Rattle.text_kinds.specs.Internal.Kinds.{is_plain}
use Rattle.parse_cursor.specs.Internal.Cursors.{reads, from}
use Rattle.parse_spec.specs.Fields.{Kind}
use Rattle.parse_spec.specs.Internal.Fields.{hits, single}
use Rattle.parse_words.specs.Internal.Words.{onto, words, index_in, keys_of, differs, apart, among, word_in}
use Rattle.parse_spec.proofs.Choices.{after_stop, keyword-is, one_yes, one_no}
use Rattle.parse_cursor.proofs.Steps.{next_token, next_stop, next_rest, live}

-- ---- a token that is a keyword

pub index_yes : (t : Token) (w : List ℕ) (ws : List (List ℕ)) → is_keyword w t ≡ true → index_in t (w ∷ ws) ≡ 0
unfolding index_in
index_yes t w ws e = rw (e, index_in)

pub index_no : (t : Token) (w : List ℕ) (ws : List (List ℕ)) → is_keyword w t ≡ false → index_in t (w ∷ ws) ≡ suc (index_in t ws)
unfolding index_in
index_no t w ws e = rw (e, index_in)

-- ---- words by their runs

words_last : (bs : List ℕ) → length bs ≤ length (run in_word bs) → words bs ≡ run in_word bs ∷ []
unfolding words run onto
words_last [] h = refl
words_last (b ∷ bs) h = go (in_word b) refl (words_last bs)
  where
    go : (v : Bool) → in_word b ≡ v → (length bs ≤ length (run in_word bs) → words bs ≡ run in_word bs ∷ []) → words (b ∷ bs) ≡ run in_word (b ∷ bs) ∷ []
    go true e f = let k = rw (run_yes in_word b bs e) at h in rw (run_yes in_word b bs e, e, words, f (omega arith))
    go false e f = let k = rw (run_no in_word b bs e) at h in absurd (omega arith)

words_more : (bs : List ℕ) → length (run in_word bs) < length bs → words bs ≡ run in_word bs ∷ words (drop (suc (length (run in_word bs))) bs)
unfolding words run onto
words_more [] h = absurd (omega arith)
words_more (b ∷ bs) h = go (in_word b) refl (words_more bs)
  where
    go : (v : Bool) → in_word b ≡ v → (length (run in_word bs) < length bs → words bs ≡ run in_word bs ∷ words (drop (suc (length (run in_word bs))) bs)) → words (b ∷ bs) ≡ run in_word (b ∷ bs) ∷ words (drop (suc (length (run in_word (b ∷ bs)))) (b ∷ bs))
    go true e f = let k = rw (run_yes in_word b bs e) at h in rw (run_yes in_word b bs e, e, words, f (omega arith))
    go false e f = rw (run_no in_word b bs e, e, words)

-- the same at an offset of a list
module _ (list : List ℕ) (start end : ℕ) (e : end ≡ start + length (run in_word (drop start list))) where
  word-part : part list start end ≡ run in_word (drop start list)
  unfolding part
  word-part = rw (e, add-sub_cancel_left) (run_take in_word (drop start list))

  pub word-last : length list ≤ end → words (drop start list) ≡ part list start end ∷ []
  word-last h = rw word-part (words_last (drop start list) (rw length-drop (omega arith)))

  pub word_more : end < length list → words (drop start list) ≡ part list start end ∷ words (drop (suc end) list)
  word_more h =
      let n : start + suc (length (run in_word (drop start list))) ≡ suc end = omega arith in
      rw word-part
      (words_more (drop start list) (rw length-drop (omega arith))
      ∙ rw (drop-drop (suc (length (run in_word (drop start list)))) start list, n))

-- ---- the kind that a token picks

misses : {A : Type 0} (w : List ℕ) (ks : List (Kind A)) → differs w (keys_of ks) ≡ true → hits ks (plain w) ≡ single (length ks) (length ks)
unfolding differs keys_of hits single is_keyword
misses w [] d = refl
misses w (k ∷ ks) d = let p = and_true (not (same w (bytes k.key))) (differs w (keys_of ks)) d in rw (not-true (same w (bytes k.key)) p.0, misses w ks p.1)

-- where no two keywords are the same, a token picks the first that it is, and no other
pub hits_index : {A : Type 0} (ks : List (Kind A)) (t : Token) → apart (keys_of ks) ≡ true → hits ks t ≡ single (length ks) (index_in t (keys_of ks))
unfolding apart keys_of hits single index_in
hits_index [] t a = refl
hits_index (k ∷ ks) t a = go (is_keyword (bytes k.key) t) refl (hits_index ks t)
  where
    go : (v : Bool) → is_keyword (bytes k.key) t ≡ v → (apart (keys_of ks) ≡ true → hits ks t ≡ single (length ks) (index_in t (keys_of ks))) → hits (k ∷ ks) t ≡ single (suc (length ks)) (index_in t (keys_of (k ∷ ks)))
    go true e f =
        let p = and_true (differs (bytes k.key) (keys_of ks)) (apart (keys_of ks)) a in
        rw (index_yes t (bytes k.key) (keys_of ks) e, e) (ap (λ (l : List Bool). true ∷ l) (rw (keyword-is _ t e) (misses (bytes k.key) ks p.0)))
    go false e f =
        let p = and_true (differs (bytes k.key) (keys_of ks)) (apart (keys_of ks)) a in
        rw (index_no t (bytes k.key) (keys_of ks) e, e) (ap (λ (l : List Bool). false ∷ l) (f p.1))

-- ---- one of some words, by its index

unfoldable pub word_list : List String → List (List ℕ)
word_list [] = []
word_list (k ∷ ks) = bytes k ∷ word_list ks

pub one_index : (n : ℕ) (ks : List String) (ms : List Lexeme) → index_in (token_of ms) (word_list ks) < length ks → one_from n ks ms ≡ got (n + index_in (token_of ms) (word_list ks)) (rest ms)
unfolding word_list index_in one_from
one_index n [] ms h = absurd (omega arith)
one_index n (k ∷ ks) ms h = go (is_keyword (bytes k) (token_of ms)) refl (one_index (suc n) ks ms)
  where
    go : (v : Bool) → is_keyword (bytes k) (token_of ms) ≡ v → (index_in (token_of ms) (word_list ks) < length ks → one_from (suc n) ks ms ≡ got (suc n + index_in (token_of ms) (word_list ks)) (rest ms)) → one_from n (k ∷ ks) ms ≡ got (n + index_in (token_of ms) (word_list (k ∷ ks))) (rest ms)
    go true e f = one_yes n k ks ms e ∙ rw (index_yes (token_of ms) (bytes k) (word_list ks) e) (ap (λ (i : ℕ). got i (rest ms)) (omega arith))
    go false e f =
        let x = index_no (token_of ms) (bytes k) (word_list ks) e in
        let h' = rw x at h in
        one_no n k ks ms e ∙ f (omega arith) ∙ rw x (ap (λ (i : ℕ). got i (rest ms)) (omega arith))

pub one_none : (n : ℕ) (ks : List String) (ms : List Lexeme) → length ks ≤ index_in (token_of ms) (word_list ks) → one_from n ks ms ≡ stop 5 ms
unfolding word_list index_in one_from
one_none n [] ms h = refl
one_none n (k ∷ ks) ms h = go (is_keyword (bytes k) (token_of ms)) refl (one_none (suc n) ks ms)
  where
    go : (v : Bool) → is_keyword (bytes k) (token_of ms) ≡ v → (length ks ≤ index_in (token_of ms) (word_list ks) → one_from (suc n) ks ms ≡ stop 5 ms) → one_from n (k ∷ ks) ms ≡ stop 5 ms
    go true e f = let h' = rw (index_yes (token_of ms) (bytes k) (word_list ks) e) at h in absurd (omega arith)
    go false e f = let h' = rw (index_no (token_of ms) (bytes k) (word_list ks) e) at h in one_no n k ks ms e ∙ f (omega arith)

-- a token and the words from an offset on
module _ (list : List ℕ) (start end : ℕ) (t : Token) (e : end ≡ start + length (run in_word (drop start list))) where
  pub first_yes : start ≤ length list → is_keyword (part list start end) t ≡ true → index_in t (words (drop start list)) ≡ 0
  first_yes s y = go (leb (length list) end) refl
    where
      go : (v : Bool) → leb (length list) end ≡ v → index_in t (words (drop start list)) ≡ 0
      go true q = rw (word-last list start end e (leb-true _ _ q)) (index_yes t _ _ y)
      go false q = rw (word_more list start end e (leb-false _ _ q)) (index_yes t _ _ y)

  pub last_no : length list ≤ end → is_keyword (part list start end) t ≡ false → index_in t (words (drop start list)) ≡ 1
  unfolding index_in
  last_no h n = rw (word-last list start end e h) (index_no t (part list start end) [] n)

  pub more_no : end < length list → is_keyword (part list start end) t ≡ false → index_in t (words (drop start list)) ≡ suc (index_in t (words (drop (suc end) list)))
  more_no h n = rw (word_more list start end e h) (index_no t _ _ n)

pub among-other : (list : List ℕ) (n : ℕ) (t : Token) → is_plain t ≡ false → among list n t ≡ false
unfolding among
among-other list n t e = rw e

pub among_past : (list : List ℕ) (n : ℕ) (t : Token) → is_plain t ≡ true → n ≤ index_in t (words list) → among list n t ≡ false
unfolding among
among_past list n t e h = rw (e, le-ltb (index_in t (words list)) n h)

pub among_yes : (list : List ℕ) (n : ℕ) (t : Token) → is_plain t ≡ true → index_in t (words list) < n → among list n t ≡ true
unfolding among
among_yes list n t e h = rw (e, lt-ltb (index_in t (words list)) n h)

among_far : (list : List ℕ) (n : ℕ) (t : Token) → n ≤ index_in t (words list) → among list n t ≡ false
among_far list n t h = go (is_plain t) refl
  where
    go : (v : Bool) → is_plain t ≡ v → among list n t ≡ false
    go true e = among_past list n t e h
    go false e = among-other list n t e

-- ---- a cursor past one of some words, or refused at another token

module _ (text : List ℕ) (at : ℕ) (t : Span) (n : Next text at t) (list : List ℕ) (count : ℕ) where
  pub word_took : among list count (lexeme_of text t).token ≡ true → reads text (Ok t.end) (pos (index_in (lexeme_of text t).token (words list))) ≡ from text (Ok at) (word_in list count)
  unfolding from pure word_in among is_plain lexeme_of lexeme
  word_took e =
      let f = ap (among list count) (next_token text at t n) ∙ e in
      sym (rw (f, word_in, next_token text at t n) (ap (got (pos (index_in (lexeme_of text t).token (words list)))) (next_rest text at t n (live (among list count) refl t.kind _ e))))

  pub word_balked : among list count (lexeme_of text t).token ≡ false → refused 5 t.start ≡ from text (Ok at) (word_in list count)
  unfolding from word_in
  word_balked e = sym (rw (next_token text at t n, e, word_in) (next_stop text at t n 5))

-- ---- the same in the grammar's words

pub index_plain : (t : Token) (ws : List (List ℕ)) → index_in t ws < length ws → is_plain t ≡ true
index_plain t [] h = absurd (omega arith)
index_plain t (w ∷ ws) h = go (is_keyword w t) refl (index_plain t ws)
  where
    go : (v : Bool) → is_keyword w t ≡ v → (index_in t ws < length ws → is_plain t ≡ true) → is_plain t ≡ true
    go true e f = rw (keyword-is w t e) (unfold is_plain in refl)
    go false e f = let h' = rw (index_no t w ws e) at h in f (omega arith)

word_list-length : (ks : List String) → length (word_list ks) ≡ length ks
unfolding word_list
word_list-length [] = refl
word_list-length (k ∷ ks) = ap suc (word_list-length ks)

word_in_yes : (list : List ℕ) (n : ℕ) (ms : List Lexeme) → among list n (token_of ms) ≡ true → word_in list n ms ≡ got (pos (index_in (token_of ms) (words list))) (rest ms)
unfolding word_in
word_in_yes list n ms e = rw (e, word_in)

word_in_no : (list : List ℕ) (n : ℕ) (ms : List Lexeme) → n ≤ index_in (token_of ms) (words list) → word_in list n ms ≡ stop 5 ms
unfolding word_in
word_in_no list n ms h = rw (among_far list n (token_of ms) h, word_in)

pub one_word : (ks : List String) (list : List ℕ) (ms : List Lexeme) → words list ≡ word_list ks → (one_of ks >>= λ n. pure (pos n)) ms ≡ word_in list (length ks) ms
unfolding one_of ◌>>=◌ pure after
one_word ks list ms e = go (ltb (index_in (token_of ms) (word_list ks)) (length ks)) refl
  where
    go : (v : Bool) → ltb (index_in (token_of ms) (word_list ks)) (length ks) ≡ v → (one_of ks >>= λ n. pure (pos n)) ms ≡ word_in list (length ks) ms
    go true q =
        let h = ltb-true _ _ q in
        let p = index_plain (token_of ms) (word_list ks) (rw word_list-length h) in
        let a : among list (length ks) (token_of ms) ≡ true = among_yes list (length ks) (token_of ms) p (rw e h) in
        rw (one_index 0 ks ms h) (sym (word_in_yes list (length ks) ms a ∙ rw e (ap (λ (i : ℕ). got (pos i) (rest ms)) (omega arith))))
    go false q =
        let h = ltb-false _ _ q in
        rw (one_none 0 ks ms h) (after_stop 5 ms _ ∙ sym (word_in_no list (length ks) ms (rw e h)))

pub keys_of-length : {A : Type 0} (ks : List (Kind A)) → length (keys_of ks) ≡ length ks
unfolding keys_of
keys_of-length [] = refl
keys_of-length (k ∷ ks) = ap suc (keys_of-length ks)
