-- A value that is only put into another form, by the code and by the reader alike.
use mathlib.Core.Path.{◌≡◌, refl, ap, sym, ◌∙◌}
use mathlib.Core.List.{List}
use Prim.Native.Nat.{ℕ}
use Rattle.std.proofs.Common.{Result, Ok, Err}
use Rattle.refusal.specs.declared.checked.Refusal.{Refusal}
use Rattle.text_tokens.specs.Tokens.{Lexeme}
use Rattle.parse_spec.specs.Readers.{Got, got, refused, Reader, after, ◌>>=◌, pure}
use Rattle.parse_cursor.specs.Internal.Cursors.{Cursor, reads, from, parsed}
use Rattle.parse_cursor.proofs.Steps.{from-bind, from-same, after-reads}

pub parsed-map : {T B C : Type 0} (text : List ℕ) (k : Result (T × ℕ) Refusal) (w : T → B) (h : B → C) → parsed text k (λ v. h (w v)) ≡ after (parsed text k w) (λ b. pure (h b))
unfolding from after pure
parsed-map text (Ok p) w h = refl
parsed-map text (Err e) w h = refl

module _ {A B C : Type 0} (u : Reader A) (f : A → B) (h : B → C) (g : A → C) (e : (a : A) → h (f a) ≡ g a) where
  pub mapped : (ms : List Lexeme) → (u >>= (λ a. pure (f a)) >>= λ b. pure (h b)) ms ≡ (u >>= λ a. pure (g a)) ms
  unfolding ◌>>=◌ pure
  mapped ms = go (u ms)
    where
      go : (x : Got A) → after (after x (λ a. pure (f a))) (λ b. pure (h b)) ≡ after x (λ a. pure (g a))
      go (got a l) = unfold after pure in ap (λ (v : C). got v l) (e a)
      go (refused n p) = unfold after in refl

  module _ (text : List ℕ) (c : Cursor) where
    -- what the code answers
    pub reformed : {T : Type 0} (k : Result (T × ℕ) Refusal) (w : T → B) → parsed text k w ≡ from text c (u >>= λ a. pure (f a)) → parsed text k (λ v. h (w v)) ≡ from text c (u >>= λ a. pure (g a))
    reformed k w p =
        parsed-map text k w h
        ∙ ap (λ (x : Got B). after x (λ b. pure (h b))) p
        ∙ sym (from-bind text (λ b. pure (h b)) c (u >>= λ a. pure (f a)))
        ∙ from-same text c _ _ mapped

    -- a value at a cursor
    pub reformed_at : (d : Cursor) (x : B) → reads text d x ≡ from text c (u >>= λ a. pure (f a)) → reads text d (h x) ≡ from text c (u >>= λ a. pure (g a))
    reformed_at d x p =
        sym (after-reads text (λ b. pure (h b)) d x)
        ∙ ap (λ (y : Got B). after y (λ b. pure (h b))) p
        ∙ sym (from-bind text (λ b. pure (h b)) c (u >>= λ a. pure (f a)))
        ∙ from-same text c _ _ mapped

    -- a refusal
    pub reform_off : {n p : ℕ} → from text c (u >>= λ a. pure (f a)) ≡ refused n p → from text c (u >>= λ a. pure (g a)) ≡ refused n p
    unfolding after
    reform_off q = sym (from-same text c _ _ mapped) ∙ from-bind text (λ b. pure (h b)) c (u >>= λ a. pure (f a)) ∙ rw q
