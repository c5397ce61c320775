-- What a text that is taken says: the grammar gives what it holds, no rule is broken and the layout fits; by going back through the answer's steps.
use mathlib.Core.Path.{◌≡◌, refl}
use mathlib.Core.List.{List}
use mathlib.Core.Bool.{Bool, true, false}
use Prim.Native.Nat.{ℕ, ◌≤◌}
use borrow.Author.Tests.{leb-true}
use lib.Dec.{leb}
use lib.ListN.{length}
use lib.IntN.{ℤ}
use Rattle.text_check.specs.Faults.{Format, text_fault}
use Rattle.refusal.specs.Faults.{Fault, clear, fault}
use Rattle.text_tokens.specs.Tokens.{Lexeme, lex}
use Rattle.parse_spec.specs.Readers.{Got, got, refused, Reader}
use Rattle.parse_text.proofs.Outcomes.{rejected_no}
use Rattle.refusal.specs.Outcomes.{Outcome, rejected, accepted, ruled, fitted}
use Rattle.parse_text.specs.Texts.{shaped, checked, outcome}

module _ {A : Type 0} where
  pub record Shaped (rules : A → Fault) (g : Got A) (a : A) : Type 0 where
    pub left : List Lexeme
    pub gives : g ≡ got a left
    pub clean : rules a ≡ clear

  ruled_back : (rules : A → Fault) (b a : A) (l : List Lexeme) (f : Fault) → rules b ≡ f → ruled b f ≡ accepted a → Shaped rules (got b l) a
  unfolding ruled
  ruled_back rules b a l clear h e = let q : a ≡ b = cc in record { left = l; gives = rw q; clean = rw q h }
  ruled_back rules b a l (fault n p) h e = absurd (rejected_no n p a e)

  shaped_back : (rules : A → Fault) (g : Got A) (a : A) → shaped rules g ≡ accepted a → Shaped rules g a
  unfolding shaped
  shaped_back rules (got b l) a e = ruled_back rules b a l (rules b) refl e
  shaped_back rules (refused n p) a e = absurd (rejected_no n p a e)

  checked_back : (grammar : Reader A) (rules : A → Fault) (text : List ℕ) (f : Fault) (a : A) → checked grammar rules text f ≡ accepted a → Shaped rules (grammar (lex text)) a
  unfolding checked
  checked_back grammar rules text clear a e = shaped_back rules (grammar (lex text)) a e
  checked_back grammar rules text (fault n p) a e = absurd (rejected_no n p a e)

  fitted_back : (layout : A → List ℤ) (room : ℕ) (o : Outcome A) (a : A) → fitted layout room o ≡ accepted a → (o ≡ accepted a) × (length (layout a) ≤ room)
  unfolding fitted
  fitted_back layout room (rejected n p) a e = absurd (rejected_no n p a e)
  fitted_back layout room (accepted b) a e = go (leb (length (layout b)) room) refl
    where
      go : (v : Bool) → leb (length (layout b)) room ≡ v → (accepted b ≡ accepted a) × (length (layout a) ≤ room)
      go true o =
          let h : accepted b ≡ accepted a = rw (o, fitted) at e in
          let q : a ≡ b = cc in
          (h, rw q (leb-true _ _ o))
      go false o = absurd (rejected_no 17 (length (layout b)) a (rw (o, fitted) at e))

  pub record Taken (grammar : Reader A) (rules : A → Fault) (layout : A → List ℤ) (text : List ℕ) (room : ℕ) (a : A) : Type 0 where
    pub shape : Shaped rules (grammar (lex text)) a
    pub room_is : length (layout a) ≤ room

  pub taken : (f : Format) (grammar : Reader A) (rules : A → Fault) (layout : A → List ℤ) (text : List ℕ) (room : ℕ) (a : A) → fitted layout room (outcome f grammar rules text) ≡ accepted a → Taken grammar rules layout text room a
  unfolding outcome
  taken f grammar rules layout text room a e =
      let o = fitted_back layout room (outcome f grammar rules text) a e in
      record { shape = checked_back grammar rules text (text_fault f text) a o.0; room_is = o.1 }
