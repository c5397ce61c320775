-- Two lists of the same tokens, at offsets that correspond, and what one token of each gives a reader.
use mathlib.Core.Path.{◌≡◌, refl, ap, sym, ◌∙◌}
use mathlib.Core.List.{List, [], ◌∷◌}
use mathlib.Core.Bool.{Bool, true, false, false≢true}
use Prim.Native.Nat.{ℕ, suc}
use lib.ListN.{length}
use Rattle.text_bytes.specs.Bytes.{between}
use Rattle.text_runs.specs.Runs.{same}
use Rattle.text_tokens.specs.Tokens.{Token, opening, closing, ending, quoted, plain, Lexeme, is_keyword}
use Rattle.text_numerals.specs.Numbers.{Number, value, beyond, wrong, Form, number_of, refusal_of}
use Rattle.text_kinds.specs.Kinds.{is_opening, is_closing, is_end}
use Rattle.parse_spec.specs.Readers.{Got, got, refused, stop, token_of, rest, number_in, number_at, version_at, Name, name_at}

-- ---- two lists of the same tokens

-- the same token, at offsets of W
pub record Pair (W : ℕ → ℕ → Type 0) (m n : Lexeme) : Type 0 where
  pub token : n.token ≡ m.token
  pub offsets : W m.offset n.offset

-- as many in the one as in the other, the last of them `ending`
abbrev pub Both : (ℕ → ℕ → Type 0) → List Lexeme → List Lexeme → Type 0
Both W [] ns = ⊥
Both W (m ∷ ms) [] = ⊥
Both W (m ∷ []) (n ∷ []) = Pair W m n × (m.token ≡ ending)
Both W (m ∷ []) (n ∷ o ∷ ns) = ⊥
Both W (m ∷ l ∷ ms) (n ∷ []) = ⊥
Both W (m ∷ l ∷ ms) (n ∷ o ∷ ns) = Pair W m n × Both W (l ∷ ms) (o ∷ ns)

module _ (W : ℕ → ℕ → Type 0) where
  pub both_token : (ms ns : List Lexeme) → Both W ms ns → token_of ns ≡ token_of ms
  unfolding token_of
  both_token [] ns b = absurd b
  both_token (m ∷ ms) [] b = absurd b
  both_token (m ∷ []) (n ∷ []) b = b.0.token
  both_token (m ∷ []) (n ∷ o ∷ ns) b = absurd b
  both_token (m ∷ l ∷ ms) (n ∷ []) b = absurd b
  both_token (m ∷ l ∷ ms) (n ∷ o ∷ ns) b = b.0.token

  pub both_length : (ms ns : List Lexeme) → Both W ms ns → length ns ≡ length ms
  both_length [] ns b = absurd b
  both_length (m ∷ ms) [] b = absurd b
  both_length (m ∷ []) (n ∷ []) b = refl
  both_length (m ∷ []) (n ∷ o ∷ ns) b = absurd b
  both_length (m ∷ l ∷ ms) (n ∷ []) b = absurd b
  both_length (m ∷ l ∷ ms) (n ∷ o ∷ ns) b = ap suc (both_length (l ∷ ms) (o ∷ ns) b.1)

  -- past a token that is not the last
  both_rest : (ms ns : List Lexeme) → Both W ms ns → is_end (token_of ms) ≡ false → Both W (rest ms) (rest ns)
  unfolding token_of rest is_end
  both_rest [] ns b e = absurd b
  both_rest (m ∷ ms) [] b e = absurd b
  both_rest (m ∷ []) (n ∷ []) b e = absurd (false≢true (sym e ∙ ap is_end b.1))
  both_rest (m ∷ []) (n ∷ o ∷ ns) b e = absurd b
  both_rest (m ∷ l ∷ ms) (n ∷ []) b e = absurd b
  both_rest (m ∷ l ∷ ms) (n ∷ o ∷ ns) b e = b.1

-- ---- what two runs of a reader give

pub record Refusals (W : ℕ → ℕ → Type 0) (n p i q : ℕ) : Type 0 where
  pub numbered : i ≡ n
  pub shape : between 5 7 n ≡ true
  pub places : W p q

abbrev pub GotAlike : {A : Type 0} → (ℕ → ℕ → Type 0) → (A → A → Type 0) → Got A → Got A → Type 0
GotAlike W R (got a l) (got b k) = (R a b) × (Both W l k)
GotAlike W R (got a l) (refused n p) = ⊥
GotAlike W R (refused n p) (got a l) = ⊥
GotAlike W R (refused n p) (refused i q) = Refusals W n p i q

-- a value that is the same
abbrev pub Equal : {A : Type 0} → A → A → Type 0
Equal a b = b ≡ a

-- ---- tests

-- a test that does not take the text's end
abbrev pub Inner : (Token → Bool) → Type 0
Inner test = test ending ≡ false

not_end : (test : Token → Bool) → Inner test → (t : Token) → test t ≡ true → is_end t ≡ false
unfolding is_end
not_end test h opening e = refl
not_end test h closing e = refl
not_end test h ending e = absurd (false≢true (sym h ∙ e))
not_end test h (quoted bs) e = refl
not_end test h (plain bs) e = refl

pub key_inner : (k : List ℕ) → Inner (is_keyword k)
unfolding is_keyword
key_inner k = refl

pub open_inner : Inner is_opening
unfolding is_opening
open_inner = refl

pub close_inner : Inner is_closing
unfolding is_closing
close_inner = refl

module _ (W : ℕ → ℕ → Type 0) where
  pub past : (test : Token → Bool) → Inner test → (ms ns : List Lexeme) → Both W ms ns → test (token_of ms) ≡ true → Both W (rest ms) (rest ns)
  past test h ms ns w o = both_rest W ms ns w (not_end test h (token_of ms) o)

  stop_both : {A : Type 0} (R : A → A → Type 0) (n : ℕ) → between 5 7 n ≡ true → (ms ns : List Lexeme) → Both W ms ns → GotAlike W R (stop n ms) (stop n ns)
  unfolding stop
  stop_both R n h [] ns b = absurd b
  stop_both R n h (m ∷ ms) [] b = absurd b
  stop_both R n h (m ∷ []) (o ∷ []) b = record { numbered = refl; shape = h; places = b.0.offsets }
  stop_both R n h (m ∷ []) (o ∷ x ∷ ns) b = absurd b
  stop_both R n h (m ∷ l ∷ ms) (o ∷ []) b = absurd b
  stop_both R n h (m ∷ l ∷ ms) (o ∷ x ∷ ns) b = record { numbered = refl; shape = h; places = b.0.offsets }

  pub five_both : {A : Type 0} (R : A → A → Type 0) (ms ns : List Lexeme) → Both W ms ns → GotAlike W R (stop 5 ms) (stop 5 ns)
  unfolding between
  five_both R ms ns b = stop_both R 5 refl ms ns b

  plain-rest : (bs : List ℕ) (ms ns : List Lexeme) → token_of ms ≡ plain bs → Both W ms ns → Both W (rest ms) (rest ns)
  unfolding is_end
  plain-rest bs ms ns o w = both_rest W ms ns w (ap is_end o)

  pub version-at : (v : List ℕ) (t : Token) (ms ns : List Lexeme) → token_of ms ≡ t → Both W ms ns → GotAlike W Equal (version_at v t ms) (version_at v t ns)
  unfolding version_at between
  version-at v opening ms ns o w = five_both Equal ms ns w
  version-at v closing ms ns o w = five_both Equal ms ns w
  version-at v ending ms ns o w = five_both Equal ms ns w
  version-at v (quoted bs) ms ns o w = five_both Equal ms ns w
  version-at v (plain bs) ms ns o w = go (same bs v) refl
    where
      go : (b : Bool) → same bs v ≡ b → GotAlike W Equal (version_at v (plain bs) ms) (version_at v (plain bs) ns)
      go true e = rw (e, version_at) (refl, plain-rest bs ms ns o w)
      go false e = rw (e, version_at) (stop_both Equal 7 refl ms ns w)

  number_in_lem : (n : Number) (ms ns : List Lexeme) → Both W ms ns → Both W (rest ms) (rest ns) → GotAlike W Equal (number_in n ms) (number_in n ns)
  unfolding number_in refusal_of between
  number_in_lem (value z) ms ns w l = (refl, l)
  number_in_lem beyond ms ns w l = stop_both Equal 6 refl ms ns w
  number_in_lem wrong ms ns w l = five_both Equal ms ns w

  pub number-at : (f : Form) (t : Token) (ms ns : List Lexeme) → token_of ms ≡ t → Both W ms ns → GotAlike W Equal (number_at f t ms) (number_at f t ns)
  unfolding number_at
  number-at f opening ms ns o w = five_both Equal ms ns w
  number-at f closing ms ns o w = five_both Equal ms ns w
  number-at f ending ms ns o w = five_both Equal ms ns w
  number-at f (quoted bs) ms ns o w = five_both Equal ms ns w
  number-at f (plain bs) ms ns o w = number_in_lem (number_of f bs) ms ns w (plain-rest bs ms ns o w)

  -- strings of the same bytes are names of N
  abbrev pub Named : (Name → Name → Type 0) → Type 0
  Named N = (p q : ℕ) (bs : List ℕ) → W p q → N (record { at = suc p; bytes = bs }) (record { at = suc q; bytes = bs })

  head_offsets : (m n : Lexeme) (ms ns : List Lexeme) → Both W (m ∷ ms) (n ∷ ns) → W m.offset n.offset
  head_offsets m n [] [] b = b.0.offsets
  head_offsets m n [] (o ∷ ns) b = absurd b
  head_offsets m n (l ∷ ms) [] b = absurd b
  head_offsets m n (l ∷ ms) (o ∷ ns) b = b.0.offsets

  pub name-at : (N : Name → Name → Type 0) → Named N → (t : Token) (ms ns : List Lexeme) → token_of ms ≡ t → Both W ms ns → GotAlike W N (name_at t ms) (name_at t ns)
  unfolding name_at
  name-at N h opening ms ns o w = five_both N ms ns w
  name-at N h closing ms ns o w = five_both N ms ns w
  name-at N h ending ms ns o w = five_both N ms ns w
  name-at N h (plain bs) ms ns o w = five_both N ms ns w
  name-at N h (quoted bs) [] ns o w = absurd w
  name-at N h (quoted bs) (m ∷ ms) [] o w = absurd w
  name-at N h (quoted bs) (m ∷ ms) (n ∷ ns) o w = (h m.offset n.offset bs (head_offsets m n ms ns w), unfold rest is_end in both_rest W (m ∷ ms) (n ∷ ns) w (ap is_end o))
