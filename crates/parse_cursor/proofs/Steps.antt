-- How cursors join: what one token makes of a reader, and one reader after another, by whether the cursor has refused.
use mathlib.Core.Path.{◌≡◌, refl, ap, sym, ◌∙◌}
use mathlib.Core.List.{List}
use mathlib.Core.Bool.{Bool, true, false, false≢true}
use Prim.Native.Nat.{ℕ}
use Rattle.std.proofs.Common.{Result, Ok, Err}
use Rattle.std.specs.Result.{IsErrAnd}
use Rattle.std.proofs.lemmas.Result.{err_from_is_err_and}
use Rattle.refusal.specs.declared.checked.Refusal.{Refusal}
use Rattle.text_tokens.specs.Tokens.{Token, ending, Lexeme, lexeme, lex_at}
use Rattle.text_tokens.specs.declared.token.Kind.{Kind}
use Rattle.text_tokens.specs.declared.token.Kind.TheVariants.{Opening, Closing, Quoted, Plain, Ending}
use Rattle.text_tokens.specs.declared.token.Span.{Span}
use Rattle.text_tokens.specs.Internal.Answers.{Next, lexeme_of, is_ending, token_of as span_token}
use Rattle.text_tokens.proofs.Spans.{after_more}
use Rattle.parse_spec.specs.Readers.{Got, got, refused, Reader, after, ◌>>=◌, ◌>>◌, pure, stop, token_of, rest, take_if, close_bracket, closed}
use Rattle.parse_cursor.specs.Internal.Cursors.{Cursor, reads, from, parsed}

-- ---- what the code's answer says

-- a reader's refusal
pub stopped : {A : Type 0} (text : List ℕ) (e : Refusal) (a : A) {g : Got A} → reads text (Err e) a ≡ g → g ≡ refused e.number e.place
unfolding from
stopped text e a h = sym h

-- a cursor that has refused passes that on
pub passed : {A : Type 0} (text : List ℕ) (c : Cursor) (e : Refusal) (r : Reader A) → c ≡ Err e → from text c r ≡ refused e.number e.place
unfolding from
passed text c e r o = rw o

-- the refusal that a `?` returns, in front of no value and of one
pub reads_exit : {A : Type 0} (text : List ℕ) (d : Cursor) (a : A) {g : Got A} (e : Refusal) → IsErrAnd d (λ y. y ≡ e) → g ≡ refused e.number e.place → reads text d a ≡ g
unfolding from
reads_exit text d a e q h = let p = err_from_is_err_and d q in rw (p.1, p.2) (sym h)

pub parsed_exit : {T A : Type 0} (text : List ℕ) (r : Result (T × ℕ) Refusal) (f : T → A) {g : Got A} (e : Refusal) → IsErrAnd r (λ y. y ≡ e) → g ≡ refused e.number e.place → parsed text r f ≡ g
parsed_exit text r f e q h = let p = err_from_is_err_and r q in rw (p.1, p.2) (sym h)

-- ---- one token

pub live : (test : Token → Bool) → test ending ≡ false → (k : Kind) (bs : List ℕ) → test (span_token k bs) ≡ true → is_ending k ≡ false
unfolding span_token is_ending
live test last Opening bs e = refl
live test last Closing bs e = refl
live test last Quoted bs e = refl
live test last Plain bs e = refl
live test last Ending bs e = absurd (false≢true (sym last ∙ e))

module _ (text : List ℕ) (at : ℕ) (t : Span) (n : Next text at t) where
  pub next_token : token_of (lex_at text at) ≡ (lexeme_of text t).token
  unfolding token_of
  next_token = rw n.tokens

  pub next_stop : {A : Type 0} (k : ℕ) → stop {A = A} k (lex_at text at) ≡ refused k t.start
  unfolding stop lexeme_of lexeme
  next_stop k = rw n.tokens

  pub next_rest : is_ending t.kind ≡ false → rest (lex_at text at) ≡ lex_at text t.end
  unfolding rest
  next_rest e = rw n.tokens (after_more text t e)

  -- a test that does not take the last token: past one that it takes, or refused at one that it does not take
  module _ (test : Token → Bool) (last : test ending ≡ false) where
    pub took : test (lexeme_of text t).token ≡ true → reads text (Ok t.end) tt ≡ from text (Ok at) (take_if test)
    unfolding from take_if lexeme_of lexeme pure
    took e = sym (rw (next_token, e, take_if) (ap (got tt) (next_rest (live test last t.kind _ e))))

    pub balked : test (lexeme_of text t).token ≡ false → reads text (Err (record { number = 5; place = t.start })) tt ≡ from text (Ok at) (take_if test)
    unfolding from take_if
    balked e = sym (rw (next_token, e, take_if) (next_stop 5))

-- ---- one reader after another

module _ {A B : Type 0} (text : List ℕ) (f : A → Reader B) where
  pub from-bind : (c : Cursor) (s : Reader A) → from text c (s >>= f) ≡ after (from text c s) f
  unfolding from ◌>>=◌ after
  from-bind (Ok at) s = refl
  from-bind (Err e) s = refl

  pub after-reads : (c : Cursor) (a : A) → after (reads text c a) f ≡ from text c (f a)
  unfolding from after pure
  after-reads (Ok at) a = refl
  after-reads (Err e) a = refl

-- past a first reader, from cursor c to d with a value
pub onto : {A B : Type 0} (text : List ℕ) (c d : Cursor) (a : A) (s : Reader A) (f : A → Reader B) → reads text d a ≡ from text c s → from text c (s >>= f) ≡ from text d (f a)
onto text c d a s f p = from-bind text f c s ∙ ap (λ (g : Got _). after g f) (sym p) ∙ after-reads text f d a

-- the same where the value is not used
pub onto_then : {A B : Type 0} (text : List ℕ) (c d : Cursor) (a : A) (s : Reader A) (u : Reader B) → reads text d a ≡ from text c s → from text c (s >> u) ≡ from text d u
unfolding ◌>>◌
onto_then text c d a s u p = unfold ◌>>=◌ in onto text c d a s (λ _. u) p

-- a first reader that refuses
module _ {A : Type 0} (text : List ℕ) (c : Cursor) (s : Reader A) {k p : ℕ} (h : from text c s ≡ refused k p) where
  pub halt : {B : Type 0} (f : A → Reader B) → from text c (s >>= f) ≡ refused k p
  unfolding after
  halt f = from-bind text f c s ∙ rw h

  pub halt_then : {B : Type 0} (u : Reader B) → from text c (s >> u) ≡ refused k p
  unfolding ◌>>◌
  halt_then u = unfold ◌>>=◌ in halt (λ _. u)

  pub halt_closed : from text c (closed s) ≡ refused k p
  unfolding closed
  halt_closed = halt (λ a. close_bracket >> pure a)

-- a reader from cursor c to d with a value, and then one from d to r
pub join : {A B : Type 0} (text : List ℕ) (c d : Cursor) (a : A) {g : Got B} (s : Reader A) (f : A → Reader B) → reads text d a ≡ from text c s → g ≡ from text d (f a) → g ≡ from text c (s >>= f)
join text c d a s f p q = q ∙ sym (onto text c d a s f p)

-- the same where the first has no value
pub seq : {A B : Type 0} (text : List ℕ) (c d : Cursor) (a : A) {g : Got B} (s : Reader A) (u : Reader B) → reads text d a ≡ from text c s → g ≡ from text d u → g ≡ from text c (s >> u)
seq text c d a s u p q = q ∙ sym (onto_then text c d a s u p)

-- readers that give the same
pub from-same : {A : Type 0} (text : List ℕ) (c : Cursor) (r s : Reader A) → ((ms : List Lexeme) → r ms ≡ s ms) → from text c r ≡ from text c s
unfolding from
from-same text (Ok at) r s h = h (lex_at text at)
from-same text (Err e) r s h = refl

parted : {A P B : Type 0} (r : Reader A) (p : A → P) (k : P → Reader B) (ms : List Lexeme) → (r >>= λ a. k (p a)) ms ≡ (r >>= (λ a. pure (p a)) >>= k) ms
unfolding ◌>>=◌ pure
parted r p k ms = go (r ms)
  where
    go : (g : Got _) → after g (λ a. k (p a)) ≡ after (after g (λ a. pure (p a))) k
    go (got a l) = unfold after pure in refl
    go (refused n o) = unfold after in refl

-- a reader whose value is used by what a part of it says, read by the code as that part
pub onward : {A P B : Type 0} (text : List ℕ) (c d : Cursor) (r : Reader A) (p : A → P) (x : P) (k : P → Reader B) → reads text d x ≡ from text c (r >>= λ a. pure (p a)) → from text c (r >>= λ a. k (p a)) ≡ from text d (k x)
onward text c d r p x k q = from-same text c _ _ (parted r p k) ∙ onto text c d x (r >>= λ a. pure (p a)) k q

pub closed_at : {A : Type 0} (text : List ℕ) (c d e : Cursor) (a : A) (r : Reader A) → reads text d a ≡ from text c r → reads text e tt ≡ from text d close_bracket → reads text e a ≡ from text c (closed r)
unfolding closed
closed_at text c d e a r p q = join text c d a r (λ x. close_bracket >> pure x) p (seq text d e tt close_bracket (pure a) q refl)

-- the closing bracket missing
pub closed_off : {A : Type 0} (text : List ℕ) (c d : Cursor) (a : A) (r : Reader A) {k p : ℕ} → reads text d a ≡ from text c r → from text d close_bracket ≡ refused k p → from text c (closed r) ≡ refused k p
unfolding closed
closed_off text c d a r p q = onto text c d a r (λ x. close_bracket >> pure x) p ∙ halt_then text d close_bracket q (pure a)
