-- Chunks in a free order on two lists of the same tokens: the fields of both are read or left out alike; by induction on the kinds.
use mathlib.Core.Path.{◌≡◌, refl, ap, ap₂, ◌∙◌}
use mathlib.Core.List.{List, [], ◌∷◌, map}
use mathlib.Core.Bool.{Bool, true, false, not, ◌||◌, ◌&&◌}
use mathlib.Core.Option
use mathlib.Core.Option.{Option, none, some}
use Prim.Native.Nat.{ℕ, zero, suc}
use lib.ListN.{length}
use Rattle.text_bytes.specs.Bytes.{bytes}
use Rattle.text_tokens.specs.Tokens.{Lexeme, is_keyword}
use Rattle.text_kinds.specs.Kinds.{is_closing}
use Rattle.parse_spec.specs.Readers.{token_of, rest}
use Rattle.parse_spec.specs.Fields.{Kind, is_some, unread, complete, kind_from, fields_in, fields}
use Rattle.parse_spec.proofs.Choices.{fields_close, fields_early}
use Rattle.parse_alike.proofs.Tokens.{Both, GotAlike, Equal, key_inner, close_inner, past, five_both}
use Rattle.parse_alike.proofs.Readers.{Alike, Same, pure_alike, alike_as, five, token_alike, bind_alike, then_alike, open_same}

abbrev pub FieldsAlike : {A : Type 0} → (A → A → Type 0) → List (Option A) → List (Option A) → Type 0
FieldsAlike R [] [] = Unit {0}
FieldsAlike R [] (g ∷ gs) = ⊥
FieldsAlike R (f ∷ fs) [] = ⊥
FieldsAlike R (none ∷ fs) (none ∷ gs) = FieldsAlike R fs gs
FieldsAlike R (none ∷ fs) (some b ∷ gs) = ⊥
FieldsAlike R (some a ∷ fs) (none ∷ gs) = ⊥
FieldsAlike R (some a ∷ fs) (some b ∷ gs) = R a b × FieldsAlike R fs gs

-- what stands in each kind of chunk is read alike
abbrev pub AllAlike : {A : Type 0} → (ℕ → ℕ → Type 0) → (A → A → Type 0) → List (Kind A) → Type 0
AllAlike W R [] = Unit {0}
AllAlike W R (k ∷ ks) = Alike W R k.inside k.inside × AllAlike W R ks

-- the fields of both, each by a function of its own
pub fields_map : {A B : Type 0} (h k : A → B) (fs gs : List (Option A)) → FieldsAlike (λ a b. k b ≡ h a) fs gs → map (Option.map k) gs ≡ map (Option.map h) fs
unfolding Option.map
fields_map h k [] [] e = refl
fields_map h k [] (g ∷ gs) e = absurd e
fields_map h k (f ∷ fs) [] e = absurd e
fields_map h k (none ∷ fs) (none ∷ gs) e = ap (◌∷◌ none) (fields_map h k fs gs e)
fields_map h k (none ∷ fs) (some b ∷ gs) e = absurd e
fields_map h k (some a ∷ fs) (none ∷ gs) e = absurd e
fields_map h k (some a ∷ fs) (some b ∷ gs) e = ap₂ ◌∷◌ (ap some e.0) (fields_map h k fs gs e.1)

fields_equal : {A : Type 0} (fs gs : List (Option A)) → FieldsAlike Equal fs gs → gs ≡ fs
fields_equal [] [] e = refl
fields_equal [] (g ∷ gs) e = absurd e
fields_equal (f ∷ fs) [] e = absurd e
fields_equal (none ∷ fs) (none ∷ gs) e = ap (◌∷◌ none) (fields_equal fs gs e)
fields_equal (none ∷ fs) (some b ∷ gs) e = absurd e
fields_equal (some a ∷ fs) (none ∷ gs) e = absurd e
fields_equal (some a ∷ fs) (some b ∷ gs) e = ap₂ ◌∷◌ (ap some e.0) (fields_equal fs gs e.1)

module _ {A : Type 0} (R : A → A → Type 0) where
  unread_alike : (ks : List (Kind A)) → FieldsAlike R (unread ks) (unread ks)
  unfolding unread
  unread_alike [] = tt
  unread_alike (k ∷ ks) = unread_alike ks

  complete_alike : (ks : List (Kind A)) (fs gs : List (Option A)) → FieldsAlike R fs gs → complete ks gs ≡ complete ks fs
  unfolding complete is_some
  complete_alike [] fs gs e = refl
  complete_alike (k ∷ ks) [] [] e = refl
  complete_alike (k ∷ ks) [] (g ∷ gs) e = absurd e
  complete_alike (k ∷ ks) (f ∷ fs) [] e = absurd e
  complete_alike (k ∷ ks) (none ∷ fs) (none ∷ gs) e = ap (λ (b : Bool). (not k.needed || false) && b) (complete_alike ks fs gs e)
  complete_alike (k ∷ ks) (none ∷ fs) (some b ∷ gs) e = absurd e
  complete_alike (k ∷ ks) (some a ∷ fs) (none ∷ gs) e = absurd e
  complete_alike (k ∷ ks) (some a ∷ fs) (some b ∷ gs) e = ap (λ (b : Bool). (not k.needed || true) && b) (complete_alike ks fs gs e.1)

module _ {A : Type 0} (W : ℕ → ℕ → Type 0) (R : A → A → Type 0) where
  kind_alike : (ks : List (Kind A)) → AllAlike W R ks → (fs gs : List (Option A)) → FieldsAlike R fs gs → Alike W (FieldsAlike R) (kind_from ks fs) (kind_from ks gs)
  unfolding kind_from
  kind_alike [] h fs gs e = five
  kind_alike (k ∷ ks) h [] [] e = five
  kind_alike (k ∷ ks) h [] (g ∷ gs) e = absurd e
  kind_alike (k ∷ ks) h (f ∷ fs) [] e = absurd e
  kind_alike (k ∷ ks) h (none ∷ fs) (none ∷ gs) e =
      token_alike (is_keyword (bytes k.key)) (λ ms ns w o p. rw (o, p, kind_from) ((bind_alike h.0 (λ a b r. pure_alike {R = FieldsAlike R} (some a ∷ fs) (some b ∷ gs) (r, e))).each (rest ms) (rest ns) (past W (is_keyword (bytes k.key)) (key_inner (bytes k.key)) ms ns w o))) (λ ms ns w o p. rw (o, p, kind_from) ((bind_alike (kind_alike ks h.1 fs gs e) (λ xs ys r. pure_alike {R = FieldsAlike R} (none ∷ xs) (none ∷ ys) r)).each ms ns w))
  kind_alike (k ∷ ks) h (none ∷ fs) (some b ∷ gs) e = absurd e
  kind_alike (k ∷ ks) h (some a ∷ fs) (none ∷ gs) e = absurd e
  kind_alike (k ∷ ks) h (some a ∷ fs) (some b ∷ gs) e = bind_alike (kind_alike ks h.1 fs gs e.1) (λ xs ys r. pure_alike {R = FieldsAlike R} (some a ∷ xs) (some b ∷ ys) (e.0, r))

  module _ (ks : List (Kind A)) (h : AllAlike W R ks) where
    -- at the ) that ends the chunks
    closes : (n : ℕ) (fs gs : List (Option A)) → FieldsAlike R fs gs → (ms ns : List Lexeme) → Both W ms ns → is_closing (token_of ms) ≡ true → is_closing (token_of ns) ≡ true → GotAlike W (FieldsAlike R) (fields_in n ks fs ms) (fields_in n ks gs ns)
    closes n fs gs e ms ns w o p = go (complete ks fs) refl
      where
        go : (v : Bool) → complete ks fs ≡ v → GotAlike W (FieldsAlike R) (fields_in n ks fs ms) (fields_in n ks gs ns)
        go true c = rw (fields_close ks fs ms n o c, fields_close ks gs ns n p (complete_alike R ks fs gs e ∙ c)) (e, past W is_closing close_inner ms ns w o)
        go false c = rw (fields_early ks fs ms n o c, fields_early ks gs ns n p (complete_alike R ks fs gs e ∙ c)) (five_both W (FieldsAlike R) ms ns w)

    fields_in_lem : (n : ℕ) (fs gs : List (Option A)) → FieldsAlike R fs gs → Alike W (FieldsAlike R) (fields_in n ks fs) (fields_in n ks gs)
    unfolding fields_in
    fields_in_lem zero fs gs e = token_alike is_closing (closes zero fs gs e) (λ ms ns w o p. rw (o, p, fields_in) (five_both W (FieldsAlike R) ms ns w))
    fields_in_lem (suc n) fs gs e =
        token_alike is_closing (closes (suc n) fs gs e) (λ ms ns w o p. rw (o, p, fields_in) ((bind_alike (then_alike open_same (kind_alike ks h fs gs e)) (fields_in_lem n)).each ms ns w))

    pub fields_alike : Alike W (FieldsAlike R) (fields ks) (fields ks)
    unfolding fields
    fields_alike = fields_in_lem (length ks) (unread ks) (unread ks) (unread_alike R ks)

pub fields-same : {A : Type 0} (W : ℕ → ℕ → Type 0) (ks : List (Kind A)) → AllAlike W Equal ks → Same W (fields ks)
fields-same W ks h = alike_as (fields_alike W Equal ks h) fields_equal
