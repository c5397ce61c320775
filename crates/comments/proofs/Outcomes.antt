-- What reading answers of a text and of the same with notes: the words are the same, so the grammar reads them alike, and what the rules and the table's length say is the same; over a format's grammar, rules and layout.
use mathlib.Core.Path.{◌≡◌, refl, ap, sym, ◌∙◌}
use mathlib.Core.List.{List, [], ◌∷◌}
use mathlib.Core.Bool.{Bool, true, false}
use Prim.Native.Nat.{ℕ, zero, suc}
use lib.Dec.{leb}
use lib.IntN.{ℤ}
use lib.ListN.{length, get_or}
use Rattle.text_bytes.specs.Bytes.{between}
use Rattle.text_tokens.specs.Tokens.{Token, ending, Lexeme, lexeme, lex}
use Rattle.text_check.specs.Faults.{Format}
use Rattle.refusal.specs.Faults.{Fault, clear, fault}
use Rattle.refusal.specs.Outcomes.{Outcome, rejected, accepted, ruled, fitted}
use Rattle.parse_spec.specs.Readers as readers
use Rattle.parse_spec.specs.Readers.{Got, got, Reader}
use Rattle.parse_text.specs.Texts.{shaped, outcome}
use Rattle.parse_text.proofs.Outcomes.{text-clear}
use Rattle.text_notes.specs.Notes.{token_at, tokens_of, Annotates}
use Rattle.text_notes.specs.SameWord.{SameWord, SamePlace}
use Rattle.text_notes.proofs.Annotated.{annotated-clear, annotated-tokens, same_number_lem}
use Rattle.parse_alike.proofs.Tokens.{Both, GotAlike}
use Rattle.parse_alike.proofs.Readers.{Alike}
use Rattle.parse_alike.proofs.Texts.{texts_both}
use Rattle.refusal_laws.proofs.Texts.{Faulty}
use Rattle.comments.specs.Same.{SameOutcome}

-- ---- the words

token-is : (ms : List Lexeme) (i : ℕ) → get_or (tokens_of ms) i ending ≡ (token_at ms i).token
unfolding tokens_of token_at lexeme
token-is [] i = refl
token-is (m ∷ ms) zero = refl
token-is (m ∷ ms) (suc i) = token-is ms i

abbrev Words : List ℕ → List ℕ → ℕ → ℕ → Type 0
Words text text' = SameWord (lex text) (lex text')

words_both : (text text' : List ℕ) → tokens_of (lex text') ≡ tokens_of (lex text) → Both (Words text text') (lex text) (lex text')
words_both text text' e = texts_both (Words text text') text text' e (λ i h. record { number = i; within = h; within' = rw (same_number_lem (lex text') (lex text) e) h; word = sym (token-is (lex text') i) ∙ ap (λ (ts : List Token). get_or ts i ending) e ∙ token-is (lex text) i; place = refl; place' = refl })

-- ---- places

-- a refusal that is none of 5, 6 and 7
abbrev pub Late : ℕ → ℕ → Type 0
Late n p = between 5 7 n ≡ false

late_place : (text text' : List ℕ) (n p q : ℕ) → Late n p → q ≡ p → SamePlace text text' n p q
unfolding SamePlace
late_place text text' n p q h e = rw (h, SamePlace) e

word-place : (text text' : List ℕ) (n p q : ℕ) → between 5 7 n ≡ true → Words text text' p q → SamePlace text text' n p q
unfolding SamePlace
word-place text text' n p q h w = rw (h, SamePlace) w

-- ---- what is answered

module _ {A : Type 0} (text text' : List ℕ) (R : A → A → Type 0) where
  module _ (rules : A → Fault) (rule-same : (a b : A) → R a b → rules b ≡ rules a) (late : (a : A) → Faulty Late (rules a)) where
    ruled-same : (a b : A) → R a b → (g : Fault) → Faulty Late g → SameOutcome text text' R (ruled a g) (ruled b g)
    unfolding ruled SameOutcome
    ruled-same a b r clear h = r
    ruled-same a b r (fault n p) h = (refl, late_place text text' n p p h refl)

    shaped-same : (x y : Got A) → GotAlike (Words text text') R x y → SameOutcome text text' R (shaped rules x) (shaped rules y)
    unfolding shaped SameOutcome
    shaped-same (got a l) (got b k) e = rw (rule-same a b e.0) (ruled-same a b e.0 (rules a) (late a))
    shaped-same (got a l) (readers.refused n p) e = absurd e
    shaped-same (readers.refused n p) (got b k) e = absurd e
    shaped-same (readers.refused n p) (readers.refused i q) e = (e.numbered, word-place text text' n p q e.shape e.places)

  module _ (layout : A → List ℤ) (long_same : (a b : A) → R a b → length (layout b) ≡ length (layout a)) (room : ℕ) where
    fitted-same : (x y : Outcome A) → SameOutcome text text' R x y → SameOutcome text text' R (fitted layout room x) (fitted layout room y)
    unfolding fitted SameOutcome between
    fitted-same (accepted a) (rejected n p) e = absurd e
    fitted-same (rejected n p) (accepted b) e = absurd e
    fitted-same (rejected n p) (rejected i q) e = e
    fitted-same (accepted a) (accepted b) e = go (leb (length (layout a)) room) refl
      where
        go : (v : Bool) → leb (length (layout a)) room ≡ v → SameOutcome text text' R (fitted layout room (accepted a)) (fitted layout room (accepted b))
        go true o = rw (o, ap (λ (k : ℕ). leb k room) (long_same a b e) ∙ o, fitted) e
        go false o = rw (o, ap (λ (k : ℕ). leb k room) (long_same a b e) ∙ o, fitted) (refl, late_place text text' 17 (length (layout a)) (length (layout b)) refl (long_same a b e))

-- one law for both formats
pub outcome-same : {A : Type 0} {f : Format} {text text' : List ℕ} → Annotates f text text' → (R : A → A → Type 0) (grammar : Reader A) (rules : A → Fault) (layout : A → List ℤ) (room : ℕ) → Alike (Words text text') R grammar grammar → ((a b : A) → R a b → rules b ≡ rules a) → ((a : A) → Faulty Late (rules a)) → ((a b : A) → R a b → length (layout b) ≡ length (layout a))
    → SameOutcome text text' R (fitted layout room (outcome f grammar rules text)) (fitted layout room (outcome f grammar rules text'))
outcome-same {f} {text} {text'} a R grammar rules layout room h rule-same late long_same =
    fitted-same text text' R layout long_same room _ _
    (rw (text-clear f grammar rules text a.passes, text-clear f grammar rules text' (annotated-clear a))
    (shaped-same text text' R rules rule-same late (grammar (lex text)) (grammar (lex text')) (h.each (lex text) (lex text') (words_both text text' (annotated-tokens a)))))

-- taken texts that are alike in one way are so in another
pub outcome_as : {A : Type 0} (text text' : List ℕ) (R S : A → A → Type 0) (x y : Outcome A) → ((a b : A) → x ≡ accepted a → y ≡ accepted b → R a b → S a b) → SameOutcome text text' R x y → SameOutcome text text' S x y
unfolding SameOutcome
outcome_as text text' R S (accepted a) (accepted b) f h = f a b refl refl h
outcome_as text text' R S (accepted a) (rejected n p) f h = absurd h
outcome_as text text' R S (rejected n p) (accepted b) f h = absurd h
outcome_as text text' R S (rejected n p) (rejected i q) f h = h
