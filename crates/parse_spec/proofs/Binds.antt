-- Laws of readers one after another, whatever they read, by cases on what the first gives.
use mathlib.Core.Path.{◌≡◌, refl, sym, ◌∙◌}
use mathlib.Core.List.{List}
use Rattle.text_tokens.specs.Tokens.{Lexeme}
use Rattle.parse_spec.specs.Readers.{Got, got, refused, Reader, after, ◌>>=◌, ◌>>◌, pure, close_bracket, closed}

-- two steps are one
pub after-after : {A B C : Type 0} (g : Got A) (f : A → Reader B) (h : B → Reader C) → after (after g f) h ≡ after g (λ a. f a >>= h)
unfolding after ◌>>=◌
after-after (got a ms) f h = refl
after-after (refused n p) f h = refl

pub after_same : {A B : Type 0} (g : Got A) (f h : A → Reader B) → ((a : A) (ms : List Lexeme) → f a ms ≡ h a ms) → after g f ≡ after g h
unfolding after
after_same (got a ms) f h e = e a ms
after_same (refused n p) f h e = refl

-- the same, for a value that was read
pub after_when : {A B : Type 0} (g : Got A) (f h : A → Reader B) → ((a : A) (ms : List Lexeme) → g ≡ got a ms → f a ms ≡ h a ms) → after g f ≡ after g h
unfolding after
after_when (got a ms) f h e = e a ms refl
after_when (refused n p) f h e = refl

-- a value that is only put into another form
pub bind_assoc : {A B C : Type 0} (r : Reader A) (f : A → Reader B) (h : B → Reader C) (ms : List Lexeme) → (r >>= f >>= h) ms ≡ (r >>= λ a. f a >>= h) ms
unfolding ◌>>=◌
bind_assoc r f h ms = after-after (r ms) f h

pub then_bind : {A B C : Type 0} (r : Reader A) (s : Reader B) (h : B → Reader C) (ms : List Lexeme) → (r >> s >>= h) ms ≡ (r >> (s >>= h)) ms
unfolding ◌>>=◌ ◌>>◌
then_bind r s h ms = after-after (r ms) (λ _. s) h

pub then_same : {A B : Type 0} (r : Reader A) (s u : Reader B) → ((ms : List Lexeme) → s ms ≡ u ms) → (ms : List Lexeme) → (r >> s) ms ≡ (r >> u) ms
unfolding ◌>>◌
then_same r s u e ms = after_same (r ms) (λ _. s) (λ _. u) (λ _. e)

pub then_assoc : {A B C : Type 0} (r : Reader A) (s : Reader B) (u : Reader C) (ms : List Lexeme) → (r >> s >> u) ms ≡ (r >> (s >> u)) ms
unfolding ◌>>◌
then_assoc r s u ms = unfold ◌>>=◌ in after-after (r ms) (λ _. s) (λ _. u)

-- the bracket that ends a chunk
pub closed-map : {A B : Type 0} (r : Reader A) (g : A → B) (ms : List Lexeme) → (closed r >>= λ a. pure (g a)) ms ≡ closed (r >>= λ a. pure (g a)) ms
unfolding closed ◌>>=◌ ◌>>◌ pure after
closed-map r g ms =
    after-after (r ms) _ _
    ∙ after_same (r ms) _ _ (λ a l. after-after (close_bracket l) _ _)
    ∙ sym (after-after (r ms) _ _)
