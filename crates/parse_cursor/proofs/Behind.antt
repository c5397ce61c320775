-- What an offset says of the value that was read up to it, and of one that was only put into another form.
use mathlib.Core.Path.{◌≡◌, ap, sym}
use mathlib.Core.List.{List}
use Prim.Native.Nat.{ℕ}
use Rattle.std.proofs.Common.{Ok}
use Rattle.text_tokens.specs.Tokens.{Lexeme}
use Rattle.parse_spec.specs.Readers.{Got, got, refused, Reader, after, pure}
use Rattle.parse_cursor.specs.Internal.Cursors.{from, reads}
use Rattle.parse_spec.proofs.Many.{not-got, got-value, got-left}
use Rattle.parse_spec.proofs.Given.{GivesOn, AnyToken, free}

-- what holds of each value that a reader gives
pub given : {A : Type 0} {P : A → Type 0} {s : Reader A} → GivesOn AnyToken P s → (text : List ℕ) (at : ℕ) (ms : List Lexeme) (a : A) → reads text (Ok at) a ≡ s ms → P a
unfolding from pure
given h text at ms a e = free h ms a _ (sym e)

-- the value behind b, which is its form by f
pub record Behind {A B : Type 0} (text : List ℕ) (at : ℕ) (g : Got A) (f : A → B) (b : B) : Type 0 where
  pub value : A
  pub read : reads text (Ok at) value ≡ g
  pub kept : f value ≡ b

module _ {A B : Type 0} (f : A → B) where
  pub behind : (text : List ℕ) (at : ℕ) (b : B) (g : Got A) → reads text (Ok at) b ≡ after g (λ a. pure (f a)) → Behind text at g f b
  unfolding from after pure
  behind text at b (got a l) e = record { value = a; read = ap (got a) (got-left b (f a) _ l e); kept = sym (got-value b (f a) _ l e) }
  behind text at b (refused n p) e = absurd (not-got n p b _ (sym e))

  -- a refusal says no more of the one than of the other
  pub behind_off : {n p : ℕ} (g : Got A) → after g (λ a. pure (f a)) ≡ refused n p → g ≡ refused n p
  unfolding after pure
  behind_off {n} {p} (got a l) e = absurd (not-got n p (f a) l (sym e))
  behind_off {n} {p} (refused m q) e =
      let x : m ≡ n = cc in
      let y : q ≡ p = cc in
      rw (x, y)
