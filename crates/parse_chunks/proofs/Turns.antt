-- Chunks in a free order, turn by turn: each begins with a head, and then what stands in the chunk of the head's row is read.
use mathlib.Core.Path.{◌≡◌, refl, ap, sym, ◌∙◌}
use mathlib.Core.List.{List, map}
use mathlib.Core.Option.{Option, none, some}
use mathlib.Core.Bool.{Bool, true, false}
use Prim.Native.Nat.{ℕ, zero, suc, ◌-◌, ◌<◌}
use native.Mathlib.Omega.{arith}
use borrow.Author.Tests.{ltb-true, ltb-false}
use lib.Dec.{ltb}
use lib.ListN.{length, get_or, set, length-set}
use Rattle.text_tokens.specs.Tokens.{Lexeme, lex_at}
use Rattle.std.proofs.Common.{Option as StdOption, Some, None, Ok}
use Rattle.parse_spec.specs.Readers.{Got, got, refused, Reader, after, ◌>>=◌, pure, stop, token_of, rest}
use Rattle.text_kinds.specs.Kinds.{is_opening, is_closing}
use Rattle.parse_spec.specs.Fields.{Kind, is_some, complete, kind_from, fields_in}
use Rattle.parse_cursor.specs.Internal.Cursors.{reads, from}
use Rattle.parse_spec.specs.Internal.Fields.{hits, single, inside_at, needed_of, covers_all}
use Rattle.parse_spec.proofs.Choices.{after_stop, kind_miss, kind-again, kind_hit, fields_close, fields_early, fields_full, fields-other, fields_chunk}
use Rattle.parse_spec.proofs.Binds.{after-after}
use Rattle.parse_spec.proofs.FieldFlags.{flags_length, flag-unread, flag-read, flags_set, complete_seen}
use Rattle.parse_cursor.proofs.Steps.{from-same, onto, halt}
use Rattle.parse_words.specs.Internal.Words.{words, index_in, keys_of, apart}
use Rattle.parse_chunks.specs.Internal.Heads.{key_in, head_in, ReachedAt}
use Rattle.parse_words.proofs.Vocabulary.{hits_index, index_plain, keys_of-length}
use Rattle.parse_chunks.proofs.Heads.{unmet_past, unmet-set, unmet_yes, key_yes, key_no, head_close, head_early, head_full, head-other, head_open, head-left, head_unmet}

-- the keywords of some kinds as one text, no two of them the same, and which kinds must stand
pub record Listed {A : Type 0} (ks : List (Kind A)) (list : List ℕ) (needed : List Bool) : Type 0 where
  pub keys : words list ≡ keys_of ks
  pub differ : apart (keys_of ks) ≡ true
  pub must : needed_of ks ≡ needed

-- after a head: nothing at the end, else what stands in the chunk and the chunks after it
unfoldable onwards : {A : Type 0} → ℕ → List (Kind A) → List (Option A) → StdOption ℕ → Reader (List (Option A))
onwards left ks fs None = pure fs
onwards left ks fs (Some k) = inside_at ks k >>= λ a. fields_in left ks (set fs k (some a))

module _ {A : Type 0} (ks : List (Kind A)) (list : List ℕ) (needed : List Bool) (w : Listed ks list needed) (fs : List (Option A)) (l : length fs ≡ length ks) where
  -- a keyword, and what stands in its chunk
  key_turn : (left : ℕ) (ms : List Lexeme) → after (kind_from ks fs ms) (λ gs. fields_in left ks gs) ≡ after (key_in (words list) (map is_some fs) ms) (onwards left ks fs)
  unfolding ◌>>=◌ after pure onwards
  key_turn left ms = go (ltb k (length ks)) refl (get_or (map is_some fs) k false) refl
    where
      k : ℕ
      k = index_in (token_of ms) (words list)

      picked : hits ks (token_of ms) ≡ single (length ks) k
      picked = rw w.keys (hits_index ks (token_of ms) w.differ)

      stops : kind_from ks fs ms ≡ stop 5 ms → key_in (words list) (map is_some fs) ms ≡ stop 5 ms → after (kind_from ks fs ms) (λ gs. fields_in left ks gs) ≡ after (key_in (words list) (map is_some fs) ms) (onwards left ks fs)
      stops p q = rw (p, q) (after_stop 5 ms _ ∙ sym (after_stop 5 ms _))

      go : (v : Bool) → ltb k (length ks) ≡ v → (u : Bool) → get_or (map is_some fs) k false ≡ u → after (kind_from ks fs ms) (λ gs. fields_in left ks gs) ≡ after (key_in (words list) (map is_some fs) ms) (onwards left ks fs)
      go false e u f =
          let h = ltb-false k (length ks) e in
          stops (kind_miss ms ks fs (length ks) k h picked) (key_no _ _ ms (unmet_past _ _ (token_of ms) (rw (flags_length fs, l) h)))
      go true e true f =
          let z = flag-read fs k f in
          stops (kind-again ms ks fs (length ks) k z.0 z.1 picked) (key_no _ _ ms (unmet-set _ _ (token_of ms) f))
      go true e false f =
          let h = ltb-true k (length ks) e in
          let p = index_plain (token_of ms) (words list) (rw (w.keys, keys_of-length) (rw w.keys at h)) in
          let seen = map is_some fs in
          ap (λ (g : Got (List (Option A))). after g (λ gs. fields_in left ks gs)) (kind_hit ms ks fs (length ks) k h l (flag-unread fs k f) picked)
          ∙ after-after (inside_at ks k (rest ms)) (λ a. pure (set fs k (some a))) (λ gs. fields_in left ks gs)
          ∙ sym (ap (λ (g : Got (StdOption ℕ)). after g (onwards left ks fs)) (key_yes (words list) seen ms (unmet_yes (words list) seen (token_of ms) p (rw (flags_length fs, l) h) f))
          )

  -- the chunks that are left, by their first head
  chunk_turn : (left : ℕ) (ms : List Lexeme) → fields_in left ks fs ms ≡ (head_in (words list) needed (map is_some fs) left >>= onwards (left - 1) ks fs) ms
  unfolding ◌>>=◌
  chunk_turn left ms = go left (is_closing (token_of ms)) refl (is_opening (token_of ms)) refl
    where
      seen : List Bool
      seen = map is_some fs

      full : complete ks fs ≡ covers_all needed seen
      full = complete_seen ks fs ∙ ap (λ (n : List Bool). covers_all n seen) w.must

      stops : (n m : ℕ) → fields_in n ks fs ms ≡ stop 5 ms → head_in (words list) needed seen n ms ≡ stop 5 ms → fields_in n ks fs ms ≡ after (head_in (words list) needed seen n ms) (onwards m ks fs)
      stops n m p q = p ∙ sym (ap (λ (g : Got (StdOption ℕ)). after g (onwards m ks fs)) q ∙ after_stop 5 ms _)

      ends : (n m : ℕ) → is_closing (token_of ms) ≡ true → (v : Bool) → covers_all needed seen ≡ v → fields_in n ks fs ms ≡ after (head_in (words list) needed seen n ms) (onwards m ks fs)
      ends n m e true f =
          fields_close ks fs ms n e (full ∙ f)
          ∙ sym (ap (λ (g : Got (StdOption ℕ)). after g (onwards m ks fs)) (head_close (words list) needed seen ms n e f)
          ∙ unfold after pure onwards in refl)
      ends n m e false f = stops n m (fields_early ks fs ms n e (full ∙ f)) (head_early (words list) needed seen ms n e f)

      go : (n : ℕ) (v : Bool) → is_closing (token_of ms) ≡ v → (u : Bool) → is_opening (token_of ms) ≡ u → fields_in n ks fs ms ≡ after (head_in (words list) needed seen n ms) (onwards (n - 1) ks fs)
      go n true e u o = ends n (n - 1) e (covers_all needed seen) refl
      go zero false e u o = stops 0 _ (fields_full ks fs ms e) (head_full (words list) needed seen ms e)
      go (suc n) false e false o = stops (suc n) _ (fields-other ks fs ms (suc n) e o) (head-other (words list) needed seen ms (suc n) e o)
      go (suc n) false e true o =
          let one : n ≡ suc n - 1 = omega arith in
          fields_chunk ks fs ms n e o
          ∙ key_turn n (rest ms)
          ∙ sym (ap (λ (g : Got (StdOption ℕ)). after g (onwards (suc n - 1) ks fs)) (head_open (words list) needed seen ms n e o)
          ∙ ap (λ (m : ℕ). after (key_in (words list) seen (rest ms)) (onwards m ks fs)) (sym one))

-- ---- between two chunks: fields that the code's state stands for, and from which the rest is read

pub record Midway {A : Type 0} (text : List ℕ) (ks : List (Kind A)) (whole : Got (List (Option A))) (left : ℕ) (at : ℕ) (seen : List Bool) (P : List (Option A) → Type 0) : Type 0 where
  pub fs : List (Option A)
  pub size : length fs ≡ length ks
  pub flags : map is_some fs ≡ seen
  pub holds : P fs
  pub on : whole ≡ from text (Ok at) (fields_in left ks fs)

module _ {A : Type 0} {ks : List (Kind A)} {list : List ℕ} {needed : List Bool} (w : Listed ks list needed) {text : List ℕ} {whole : Got (List (Option A))} {left b : ℕ} {seen : List Bool} {P : List (Option A) → Type 0} (m : Midway text ks whole left b seen P) where
  heads : whole ≡ from text (Ok b) (head_in (words list) needed seen left >>= onwards (left - 1) ks m.fs)
  heads =
      m.on
      ∙ from-same text (Ok b) _ (head_in (words list) needed (map is_some m.fs) left >>= onwards (left - 1) ks m.fs) (chunk_turn ks list needed w m.fs m.size left)
      ∙ ap (λ (s : List Bool). from text (Ok b) (head_in (words list) needed s left >>= onwards (left - 1) ks m.fs)) m.flags

  -- no head
  pub turn_off : {n p : ℕ} → from text (Ok b) (head_in (words list) needed seen left) ≡ refused n p → whole ≡ refused n p
  turn_off h = heads ∙ halt text (Ok b) (head_in (words list) needed seen left) h (onwards (left - 1) ks m.fs)

  module _ (c : ℕ) (o : StdOption ℕ) (h : reads text (Ok c) o ≡ from text (Ok b) (head_in (words list) needed seen left)) where
    headed : whole ≡ from text (Ok c) (onwards (left - 1) ks m.fs o)
    headed = heads ∙ onto text (Ok b) (Ok c) o (head_in (words list) needed seen left) (onwards (left - 1) ks m.fs) h

    -- the closing bracket
    pub turn_ends : o ≡ None → ReachedAt text c whole P
    unfolding onwards
    turn_ends e = record { value = m.fs; read = sym (rw e at headed); kept = m.holds }

    module _ (k : ℕ) (e : o ≡ Some k) where
      taken : head_in (words list) needed seen left (lex_at text b) ≡ got (Some k) (lex_at text c)
      unfolding from pure
      taken = sym (rw e at h)

      pub turn_row : k < length seen
      turn_row = (head_unmet (words list) needed seen k _ (lex_at text b) left taken).0

      pub turn_left : left ≡ 0 → ⊥
      turn_left = head-left (words list) needed seen k _ (lex_at text b) left taken

      pub turn_unread : get_or m.fs k none ≡ none
      turn_unread = flag-unread m.fs k (rw m.flags (head_unmet (words list) needed seen k _ (lex_at text b) left taken).1)

      inside : whole ≡ from text (Ok c) (inside_at ks k >>= λ a. fields_in (left - 1) ks (set m.fs k (some a)))
      unfolding onwards
      inside = rw e at headed

      -- what stands in the chunk refused
      pub turn_stop : {n p : ℕ} → from text (Ok c) (inside_at ks k) ≡ refused n p → whole ≡ refused n p
      turn_stop q = inside ∙ halt text (Ok c) (inside_at ks k) q (λ a. fields_in (left - 1) ks (set m.fs k (some a)))

      -- what stands in the chunk, read to offset d
      pub turn_on : (d : ℕ) (a : A) → reads text (Ok d) a ≡ from text (Ok c) (inside_at ks k) → (seen' : List Bool) → seen' ≡ set seen k true → (Q : List (Option A) → Type 0) → Q (set m.fs k (some a)) → Midway text ks whole (left - 1) d seen' Q
      turn_on d a p seen' z Q q =
          record {
            fs = set m.fs k (some a);
            size = length-set m.fs k (some a) ∙ m.size;
            flags = flags_set m.fs k a ∙ ap (λ (s : List Bool). set s k true) m.flags ∙ sym z;
            holds = q;
            on = inside ∙ onto text (Ok c) (Ok d) a (inside_at ks k) (λ x. fields_in (left - 1) ks (set m.fs k (some x))) p;
          }
