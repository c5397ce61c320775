-- Names that two lists of the same tokens give, each exchanged by a function of its own: without their places they are the same, and so are those that are moved with their strings.
use mathlib.Core.Path.{◌≡◌, refl, ap, ap₂}
use mathlib.Core.List.{List, [], ◌∷◌}
use Prim.Native.Nat.{ℕ, suc}
use Rattle.text_tokens.specs.Tokens.{Lexeme, lexeme, lex}
use Rattle.text_notes.specs.Notes.{moved}
use Rattle.parse_spec.specs.Readers.{Got, got, refused, Reader, Name, absent}
use Rattle.parse_alike.specs.Moving.{moved_at, moved_name, moved_got}
use Rattle.parse_alike.specs.Internal.Placeless.{presence_at, placeless_name}
use Rattle.parse_alike.proofs.Tokens.{Pair, Both, GotAlike, Named}
use Rattle.parse_alike.proofs.Readers.{Alike}
use Rattle.parse_alike.proofs.Texts.{moved_both}

-- the second list's name exchanged is the first's
abbrev pub NameBy : (Name → Name) → (Name → Name) → Name → Name → Type 0
NameBy left right m n = right n ≡ left m

-- so of every string, and an absent name stays absent
pub record Exchanged (W : ℕ → ℕ → Type 0) (left right : Name → Name) : Type 0 where
  pub left_absent : left absent ≡ absent
  pub right_absent : right absent ≡ absent
  pub strings : Named W (NameBy left right)

pub without_places : (W : ℕ → ℕ → Type 0) → Exchanged W placeless_name placeless_name
unfolding placeless_name presence_at absent
without_places W = record { left_absent = refl; right_absent = refl; strings = λ p q bs w. refl }

-- ---- tokens whose offsets are moved

module _ (to : ℕ → ℕ) where
  abbrev pub Moves : ℕ → ℕ → Type 0
  Moves p q = q ≡ to p

  pub moved-names : Exchanged Moves (moved_name to) (λ n. n)
  unfolding moved_name moved_at absent
  moved-names = record { left_absent = refl; right_absent = refl; strings = λ p q bs e. ap (λ (x : ℕ). record { at = suc x; bytes = bs }) e }

  pair-moved : (m n : Lexeme) → Pair Moves m n → n ≡ lexeme (to m.offset) m.token
  unfolding lexeme
  pair-moved m n w = ap₂ lexeme w.offsets w.token

  both_moved : (ms ns : List Lexeme) → Both Moves ms ns → ns ≡ moved to ms
  unfolding moved
  both_moved [] ns b = absurd b
  both_moved (m ∷ ms) [] b = absurd b
  both_moved (m ∷ []) (n ∷ []) b = ap (λ (x : Lexeme). x ∷ []) (pair-moved m n b.0)
  both_moved (m ∷ []) (n ∷ o ∷ ns) b = absurd b
  both_moved (m ∷ l ∷ ms) (n ∷ []) b = absurd b
  both_moved (m ∷ l ∷ ms) (n ∷ o ∷ ns) b = ap₂ ◌∷◌ (pair-moved m n b.0) (both_moved (l ∷ ms) (o ∷ ns) b.1)

  module _ {A : Type 0} (value : A → A) where
    got-moved : (x y : Got A) → GotAlike Moves (λ a b. b ≡ value a) x y → y ≡ moved_got to value x
    unfolding moved_got
    got-moved (got a l) (got b k) e = ap₂ got e.0 (both_moved l k e.1)
    got-moved (got a l) (refused n p) e = absurd e
    got-moved (refused n p) (got b k) e = absurd e
    got-moved (refused n p) (refused i q) e = ap₂ refused e.numbered e.places

    -- however the offsets of a text are moved
    pub reads-moved : {r : Reader A} → Alike Moves (λ a b. b ≡ value a) r r → (text : List ℕ) → r (moved to (lex text)) ≡ moved_got to value (r (lex text))
    reads-moved {r} h text = got-moved (r (lex text)) (r (moved to (lex text))) (h.each (lex text) (moved to (lex text)) (moved_both Moves to (λ p. refl) text))
