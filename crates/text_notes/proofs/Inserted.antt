-- Tokens and faults of bytes with a gap put in at a cut: by induction on the cut, byte by byte.
use mathlib.Core.Path.{◌≡◌, refl, sym, ◌∙◌}
use mathlib.Core.List.{List, [], ◌∷◌, ◌++◌}
use mathlib.Core.Bool.{Bool, true}
use Prim.Native.Nat.{ℕ, zero, suc, ◌+◌}
use native.Mathlib.Omega.{arith}
use borrow.Author.Tests.{lt-ltb}
use lib.ListN.{length, take, drop, length-append, length-take}
use Rattle.text_bytes.specs.Bytes.{Class, blank, opener, closer, quote, semicolon, letter, other, class_of, is_letter, in_string}
use Rattle.text_runs.specs.Runs.{run}
use Rattle.text_tokens.specs.Tokens.{lexeme, tokens}
use Rattle.text_notes.specs.Notes.{is_gap, moved, shifted}
use Rattle.text_notes.specs.Internal.Cuts.{taken, no_comment, Cut, is_string, fine, sound}
use Rattle.text_notes.proofs.Gaps.{gap-tokens, gap-sound}
use Rattle.text_notes.proofs.Moves.{shifted-before, moved-from}
use Rattle.text_notes.proofs.Cutting.{CutAfter, cut_most, cut-within, Halts, string_stays, comment_stays, word_stays}

module _ (gap : List ℕ) (is : is_gap gap ≡ true) (halts : Halts is_letter gap) where
  abbrev put : ℕ → List ℕ → List ℕ
  put n bs = take n bs ++ (gap ++ drop n bs)

  -- ---- tokens, by what a byte is
  module _ (b n p : ℕ) (bs : List ℕ) where
    still : shifted (suc p + n) (length gap) p ≡ p
    still = shifted-before (suc p + n) (length gap) p (omega arith)

    tokens_by : (c : Class) → class_of b ≡ c → CutAfter c n bs → tokens (taken c bs) (suc p) (put n bs) ≡ moved (shifted (suc p + n) (length gap)) (tokens (taken c bs) (suc p) bs) → tokens 0 p (b ∷ put n bs) ≡ moved (shifted (suc p + n) (length gap)) (tokens 0 p (b ∷ bs))
    unfolding tokens moved lexeme taken
    tokens_by blank q h ih = rw (q, tokens) ih
    tokens_by other q h ih = rw (q, tokens) ih
    tokens_by opener q h ih = rw (q, tokens, still, ih)
    tokens_by closer q h ih = rw (q, tokens, still, ih)
    tokens_by quote q h ih = rw (q, tokens, string_stays gap bs n h, still, ih)
    tokens_by semicolon q h ih = rw (q, tokens, comment_stays gap bs n h) ih
    tokens_by letter q h ih = rw (q, tokens, word_stays gap bs n halts h, still, ih)

  pub tokens_put : (k : ℕ) (w : Bool) (n p : ℕ) (bs : List ℕ) → Cut k w n bs → tokens k p (take n bs ++ (gap ++ drop n bs)) ≡ moved (shifted (p + n) (length gap)) (tokens k p bs)
  unfolding Cut tokens
  tokens_put k w zero p bs h = let e : p + 0 ≡ p = omega arith in rw (h.0, e) (gap-tokens gap p bs is ∙ sym (moved-from p (length gap) 0 p bs (omega arith)))
  tokens_put k w (suc n) p [] h = absurd h
  tokens_put (suc k) w (suc n) p (b ∷ bs) h = let e : p + suc n ≡ suc p + n = omega arith in rw e (tokens_put k w n (suc p) bs h)
  tokens_put zero w (suc n) p (b ∷ bs) h = let e : p + suc n ≡ suc p + n = omega arith in rw e (tokens_by b n p bs (class_of b) refl h (tokens_put (taken (class_of b) bs) (no_comment (class_of b)) n (suc p) bs h))

  -- ---- faults

  -- the string that stands before the cut ends before it
  string-same : (n : ℕ) (bs : List ℕ) → CutAfter quote n bs → is_string 0 (run in_string bs) (put n bs) ≡ is_string 0 (run in_string bs) bs
  unfolding is_string taken
  string-same n bs h =
      let m = cut_most _ _ n bs h in
      let w = cut-within _ _ n bs h in
      rw (lt-ltb (length (run in_string bs)) (length bs) (omega arith), lt-ltb (length (run in_string bs)) (length (put n bs)) (simp (length-append, length-take) (omega arith)))

  sound_by : (b n : ℕ) (bs : List ℕ) (c : Class) → class_of b ≡ c → CutAfter c n bs → sound (taken c bs) (put n bs) ≡ sound (taken c bs) bs → sound 0 (b ∷ put n bs) ≡ sound 0 (b ∷ bs)
  unfolding taken fine sound
  sound_by b n bs blank q h ih = rw (q, sound) ih
  sound_by b n bs other q h ih = rw (q, sound)
  sound_by b n bs opener q h ih = rw (q, sound) ih
  sound_by b n bs closer q h ih = rw (q, sound) ih
  sound_by b n bs quote q h ih = rw (q, sound, string_stays gap bs n h, string-same n bs h, ih)
  sound_by b n bs semicolon q h ih = rw (q, sound, comment_stays gap bs n h) ih
  sound_by b n bs letter q h ih = rw (q, sound, word_stays gap bs n halts h) ih

  pub sound_put : (k : ℕ) (w : Bool) (n : ℕ) (bs : List ℕ) → Cut k w n bs → sound k (take n bs ++ (gap ++ drop n bs)) ≡ sound k bs
  unfolding Cut sound
  sound_put k w zero bs h = rw h.0 (gap-sound gap bs is)
  sound_put k w (suc n) [] h = absurd h
  sound_put (suc k) w (suc n) (b ∷ bs) h = sound_put k w n bs h
  sound_put zero w (suc n) (b ∷ bs) h = sound_by b n bs (class_of b) refl h (sound_put (taken (class_of b) bs) (no_comment (class_of b)) n bs h)
