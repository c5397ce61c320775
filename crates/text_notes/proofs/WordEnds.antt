-- The end of each token but the last is a cut of the bytes: along the bytes with `tokens`, a string being ended where there is no fault.
use mathlib.Core.Path.{◌≡◌, refl, sym, subst}
use mathlib.Core.List.{List, [], ◌∷◌}
use mathlib.Core.Bool.{Bool, true, false≢true}
use Prim.Native.Nat.{ℕ, zero, suc, ◌+◌, ◌≤◌, ◌<◌}
use native.Mathlib.Omega.{arith}
use borrow.Author.Tests.{ltb-true}
use lib.Dec.{ltb}
use lib.ListN.{length}
use Rattle.text_bytes.specs.Bytes.{Class, blank, opener, closer, quote, semicolon, letter, other, class_of, is_letter, in_string}
use Rattle.text_runs.specs.Runs.{run}
use Rattle.text_runs.proofs.Runs.{run_length}
use Rattle.text_tokens.specs.Tokens.{Token, opening, closing, quoted, plain, Lexeme, lexeme, tokens, width_of}
use Rattle.text_numerals.proofs.Numerals.{and_true}
use Rattle.text_notes.specs.Notes.{token_at, end_of}
use Rattle.text_notes.specs.Internal.Cuts.{taken, no_comment, Cut, is_string, fine, sound}
use Rattle.text_notes.proofs.Cutting.{CutAfter}

-- an offset e after p, at which bytes that stand at p are cut
pub record CutAt (k : ℕ) (w : Bool) (p : ℕ) (bs : List ℕ) (e : ℕ) : Type 0 where
  pub on : ℕ
  pub is : p + suc on ≡ e
  pub cut : Cut k w (suc on) bs

-- where all that belongs to what stands before has been passed
passed : (k : ℕ) (bs : List ℕ) → k ≤ length bs → Cut k true k bs
unfolding Cut
passed zero bs h = (refl, refl)
passed (suc k) [] h = absurd (omega arith)
passed (suc k) (b ∷ bs) h = passed k bs (omega arith)

module _ (w : Bool) (b p : ℕ) (bs : List ℕ) (c : Class) (o : class_of b ≡ c) where
  cut-from : (n : ℕ) → CutAfter c n bs → Cut 0 w (suc n) (b ∷ bs)
  unfolding Cut
  cut-from n = subst (λ (x : Class). CutAfter x n bs) (sym o)

  -- a cut further on
  later : (e : ℕ) → CutAt (taken c bs) (no_comment c) (suc p) bs e → CutAt 0 w p (b ∷ bs) e
  later e r = let q = r.is in record { on = suc r.on; is = omega arith; cut = cut-from (suc r.on) r.cut }

  -- the end of the token that begins here, or of one after it
  ends : (t : Token) (i : ℕ) (ms : List Lexeme) → no_comment c ≡ true → taken c bs ≤ length bs → width_of t ≡ suc (taken c bs) → suc i < suc (length ms) → ((j : ℕ) → suc j < length ms → CutAt (taken c bs) (no_comment c) (suc p) bs (end_of ms j)) → CutAt 0 w p (b ∷ bs) (end_of (lexeme p t ∷ ms) i)
  unfolding end_of token_at lexeme
  ends t zero ms n m q l ih = record { on = taken c bs; is = omega arith; cut = cut-from (taken c bs) (rw n (passed (taken c bs) bs m)) }
  ends t (suc i) ms n m q l ih = later (end_of ms i) (ih i (omega arith))

string-ends : (rs bs : List ℕ) → is_string 0 rs bs ≡ true → length rs < length bs
unfolding is_string
string-ends rs bs h = ltb-true (length rs) (length bs) (and_true (ltb (length rs) (length bs)) _ h).0

-- of bytes that stand at p, of which the first k belong to what stands before them
pub cut_at : (k p : ℕ) (w : Bool) (bs : List ℕ) (i : ℕ) → sound k bs ≡ true → suc i < length (tokens k p bs) → CutAt k w p bs (end_of (tokens k p bs) i)
unfolding tokens taken no_comment fine sound Cut
cut_at k p w [] i s l = absurd (omega arith)
cut_at (suc k) p w (b ∷ bs) i s l =
    let r = cut_at k (suc p) w bs i s l in
    let q = r.is in
    record { on = suc r.on; is = omega arith; cut = r.cut }
cut_at zero p w (b ∷ bs) i s l =
    let u = and_true (fine (class_of b) bs) (sound (taken (class_of b) bs) bs) s in
    go (class_of b) refl u.0 (λ j. cut_at (taken (class_of b) bs) (suc p) (no_comment (class_of b)) bs j u.1)
  where
    go : (c : Class) → class_of b ≡ c → fine c bs ≡ true → ((j : ℕ) → suc j < length (tokens (taken c bs) (suc p) bs) → CutAt (taken c bs) (no_comment c) (suc p) bs (end_of (tokens (taken c bs) (suc p) bs) j)) → CutAt 0 w p (b ∷ bs) (end_of (tokens 0 p (b ∷ bs)) i)
    go blank o f ih = rw (o, tokens) (later w b p bs blank o _ (ih i (rw (o, tokens) at l)))
    go opener o f ih = rw (o, tokens) (ends w b p bs opener o opening i _ refl (omega arith) (unfold width_of in refl) (rw (o, tokens) at l) ih)
    go closer o f ih = rw (o, tokens) (ends w b p bs closer o closing i _ refl (omega arith) (unfold width_of in refl) (rw (o, tokens) at l) ih)
    go quote o f ih = rw (o, tokens) (ends w b p bs quote o (quoted (run in_string bs)) i _ refl (string-ends (run in_string bs) bs f) (unfold width_of in (omega arith)) (rw (o, tokens) at l) ih)
    go semicolon o f ih = rw (o, tokens) (later w b p bs semicolon o _ (ih i (rw (o, tokens) at l)))
    go letter o f ih = rw (o, tokens) (ends w b p bs letter o (plain (b ∷ run is_letter bs)) i _ refl (run_length is_letter bs) (unfold width_of in refl) (rw (o, tokens) at l) ih)
    go other o f ih = absurd (false≢true f)
