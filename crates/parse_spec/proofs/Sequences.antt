-- Sequences of readers, part by part: what is done at the end of one may be done inside it, and a value may be replaced by the part of it that is used.
use mathlib.Core.Path.{◌≡◌, refl, ap, sym, ◌∙◌}
use mathlib.Core.List.{List}
use Rattle.text_tokens.specs.Tokens.{Lexeme}
use Rattle.parse_spec.specs.Readers.{Got, Reader, after, ◌>>=◌, ◌>>◌, pure}
use Rattle.parse_spec.proofs.Binds.{after-after, after_same, bind_assoc, then_bind, then_same}

-- the same reader, and the same after it
pub bind-same : {A B : Type 0} (r : Reader A) (k j : A → Reader B) → ((a : A) (ms : List Lexeme) → k a ms ≡ j a ms) → (ms : List Lexeme) → (r >>= k) ms ≡ (r >>= j) ms
unfolding ◌>>=◌
bind-same r k j h ms = after_same (r ms) k j h

-- a value that is used by a part of it, and a reader of that part
pub project : {A P B : Type 0} (r : Reader A) (p : A → P) (u : Reader P) → ((ms : List Lexeme) → (r >>= λ a. pure (p a)) ms ≡ u ms) → (k : A → Reader B) (j : P → Reader B) → ((a : A) (ms : List Lexeme) → k a ms ≡ j (p a) ms) → (ms : List Lexeme) → (r >>= k) ms ≡ (u >>= j) ms
unfolding ◌>>=◌ pure
project r p u e k j h ms =
    after_same (r ms) k (λ a. j (p a)) h
    ∙ sym (after-after (r ms) (λ a. pure (p a)) j ∙ unfold ◌>>=◌ pure after in refl)
    ∙ ap (λ (g : Got _). after g j) (e ms)

-- what comes after a sequence, inside it
pub inside-bind : {A B C : Type 0} (r : Reader A) (k : A → Reader B) (h : B → Reader C) (j : A → Reader C) → ((a : A) (ms : List Lexeme) → (k a >>= h) ms ≡ j a ms) → (ms : List Lexeme) → (r >>= k >>= h) ms ≡ (r >>= j) ms
inside-bind r k h j e ms = bind_assoc r k h ms ∙ bind-same r (λ a. k a >>= h) j e ms

pub inside_then : {A B C : Type 0} (r : Reader A) (s : Reader B) (h : B → Reader C) (u : Reader C) → ((ms : List Lexeme) → (s >>= h) ms ≡ u ms) → (ms : List Lexeme) → (r >> s >>= h) ms ≡ (r >> u) ms
inside_then r s h u e ms = then_bind r s h ms ∙ then_same r (s >>= h) u e ms

-- ---- two sequences side by side, the one of values and the other of their parts, each with what is done after it

module _ {A B C D : Type 0} (g : A → Reader C) (h : B → Reader C) where
  pub into_then : (r : Reader D) (k : Reader A) (s : Reader B) → ((ms : List Lexeme) → (k >>= g) ms ≡ (s >>= h) ms) → (ms : List Lexeme) → (r >> k >>= g) ms ≡ (r >> s >>= h) ms
  into_then r k s e ms = then_bind r k g ms ∙ then_same r (k >>= g) (s >>= h) e ms ∙ sym (then_bind r s h ms)

  pub into_bind : {P : Type 0} (r : Reader D) (p : D → P) (u : Reader P) → ((ms : List Lexeme) → (r >>= λ a. pure (p a)) ms ≡ u ms) → (k : D → Reader A) (s : P → Reader B) → ((a : D) (ms : List Lexeme) → (k a >>= g) ms ≡ (s (p a) >>= h) ms) → (ms : List Lexeme) → (r >>= k >>= g) ms ≡ (u >>= s >>= h) ms
  into_bind r p u e k s q ms = bind_assoc r k g ms ∙ project r p u e (λ a. k a >>= g) (λ x. s x >>= h) q ms ∙ sym (bind_assoc u s h ms)

pub into_end : {B C : Type 0} (b : B) (h : B → Reader C) (ms : List Lexeme) → h b ms ≡ (pure b >>= h) ms
unfolding ◌>>=◌ pure after
into_end b h ms = refl

-- two values as a pair
pub pair_up : {A B C D : Type 0} (q : Reader D) (r : Reader A) (s : A → Reader B) (k : A → B → Reader C) (ms : List Lexeme) → (q >> (r >>= λ a. s a >>= λ b. k a b)) ms ≡ (q >> (r >>= λ (a : A). s a >>= λ (b : B). pure (a, b)) >>= λ (x : A × B). k x.0 x.1) ms
pair_up {A} {B} {C} q r s k ms =
    then_same q _ (r >>= (λ (a : A). s a >>= λ (b : B). pure (a, b)) >>= λ (x : A × B). k x.0 x.1) inner ms
    ∙ sym (then_bind q (r >>= λ (a : A). s a >>= λ (b : B). pure (a, b)) (λ (x : A × B). k x.0 x.1) ms)
  where
    second : (a : A) (ms : List Lexeme) → (s a >>= λ b. k a b) ms ≡ (s a >>= (λ (b : B). pure (a, b)) >>= λ (x : A × B). k x.0 x.1) ms
    second a ms = sym (bind_assoc (s a) (λ (b : B). pure (a, b)) (λ (x : A × B). k x.0 x.1) ms ∙ bind-same (s a) _ (λ b. k a b) (λ b l. sym (into_end (a, b) (λ (x : A × B). k x.0 x.1) l)) ms)

    inner : (ms : List Lexeme) → (r >>= λ a. s a >>= λ b. k a b) ms ≡ (r >>= (λ (a : A). s a >>= λ (b : B). pure (a, b)) >>= λ (x : A × B). k x.0 x.1) ms
    inner ms = bind-same r _ (λ (a : A). s a >>= (λ (b : B). pure (a, b)) >>= λ (x : A × B). k x.0 x.1) second ms ∙ sym (bind_assoc r (λ (a : A). s a >>= λ (b : B). pure (a, b)) (λ (x : A × B). k x.0 x.1) ms)
