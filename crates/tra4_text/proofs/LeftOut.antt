-- A bone's channels that are left out: the bone may end without them, one that stands is read into its own field and has a key, and the pair of one that does not is 0 and 0.
use mathlib.Core.Path.{◌≡◌, refl, ap, sym, ◌∙◌}
use mathlib.Core.Logic.{◌↔◌}
use mathlib.Core.List.{List, [], ◌∷◌, map, head-eq_of_cons-eq, tail-eq_of_cons-eq}
use mathlib.Core.Bool.{Bool, true, false}
use mathlib.Core.Option.{Option, none, some}
use Prim.Native.Nat.{ℕ, zero, suc, ◌+◌, ◌<◌}
use Prim.Native.String.{String}
use native.Mathlib.Omega.{arith}
use borrow.Author.Tests.{eqb-true, eqb-false}
use lib.Dec.{eqb}
use lib.IntN.{pos}
use lib.ListN.{length, get_or, set}
use Rattle.text_bytes.specs.Bytes.{bytes}
use Rattle.text_runs.specs.Runs.{same}
use Rattle.text_tokens.specs.Tokens.{Lexeme, plain, is_keyword}
use Rattle.text_kinds.specs.Kinds.{is_closing}
use Rattle.parse_spec.specs.Readers.{got, Reader, ◌>>=◌, pure, token_of, rest, absent, closed, string, optional, many⁺}
use Rattle.parse_spec.specs.Fields.{kind, complete, kind_from, fields_in, fields}
use Rattle.parse_spec.specs.Internal.Fields.{hits, single, inside_at}
use Rattle.parse_spec.proofs.Choices.{keyword-is, kind_hit, fields_close}
use Rattle.parse_spec.proofs.Given.{before, free}
use Rattle.parse_spec.proofs.FieldFits.{AllFit}
use Rattle.parse_spec.proofs.Many.{got-value, got-left}
use Rattle.tra4_text.specs.Movement.{Key, Channel, Bone}
use Rattle.tra4_text.specs.Grammar.{key, channel, channel_names, channel_kinds, keys_in, bone}
use Rattle.tra4_text.specs.Layout.{first_row, key_ranges}
use Rattle.tra4_text.proofs.Whole.{Written, fields-written}

-- ---- the shape

none_needed : (ns : List String) (fs : List (Option Channel)) → complete (map channel ns) fs ≡ true
unfolding complete channel kind
none_needed [] fs = refl
none_needed (n ∷ ns) [] = refl
none_needed (n ∷ ns) (f ∷ fs) = none_needed ns fs

pub bone-ends : (n : ℕ) (fs : List (Option Channel)) (ms : List Lexeme) → is_closing (token_of ms) ≡ true → fields_in n channel_kinds fs ms ≡ got fs (rest ms)
unfolding channel_kinds
bone-ends n fs ms o = fields_close channel_kinds fs ms n o (none_needed channel_names fs)

-- ---- what stands is kept

-- what stands in any channel's chunk
inside-named : (ns : List String) (k : ℕ) → k < length ns → inside_at (map channel ns) k ≡ many⁺ key
unfolding inside_at channel kind
inside-named [] k h = absurd (omega arith)
inside-named (n ∷ ns) zero h = refl
inside-named (n ∷ ns) (suc k) h = inside-named ns k (omega arith)

pub inside_is : (k : ℕ) → k < 10 → inside_at channel_kinds k ≡ many⁺ key
unfolding channel_kinds channel_names
inside_is k h = inside-named channel_names k h

-- two functions that agree by computation below a number
below : ℕ → List ℕ
below zero = []
below (suc n) = n ∷ below n

agree : {A : Type 0} (f g : ℕ → A) (n : ℕ) → map f (below n) ≡ map g (below n) → (k : ℕ) → k < n → f k ≡ g k
unfolding below
agree f g zero e k h = absurd (omega arith)
agree f g (suc n) e k h = go (eqb k n) refl (agree f g n (tail-eq_of_cons-eq e) k)
  where
    go : (v : Bool) → eqb k n ≡ v → (k < n → f k ≡ g k) → f k ≡ g k
    go true q ih = rw (eqb-true k n q) (head-eq_of_cons-eq e)
    go false q ih = ih (let d = eqb-false k n q in omega arith)

abbrev keyword : ℕ → List ℕ
keyword k = bytes (get_or channel_names k "")

-- a channel's keyword is no other channel's
one_picked : (k : ℕ) → k < 10 → hits channel_kinds (plain (keyword k)) ≡ single 10 k
unfolding below hits single channel_kinds channel_names channel kind bytes is_keyword same
one_picked = agree (λ k. hits channel_kinds (plain (keyword k))) (single 10) 10 refl

-- where the keyword of a channel that has not stood comes next, its keys are read into its own field
pub channel-read : (k : ℕ) (fs : List (Option Channel)) (ms : List Lexeme) → k < 10 → length fs ≡ 10 → get_or fs k none ≡ none → is_keyword (keyword k) (token_of ms) ≡ true → kind_from channel_kinds fs ms ≡ (many⁺ key >>= λ c. pure (set fs k (some c))) (rest ms)
unfolding channel_kinds channel_names
channel-read k fs ms h l u e =
    kind_hit ms channel_kinds fs 10 k h l u (ap (hits channel_kinds) (keyword-is (keyword k) (token_of ms) e) ∙ one_picked k h)
    ∙ ap (λ (r : Reader Channel). (r >>= λ c. pure (set fs k (some c))) (rest ms)) (inside_is k h)

-- a bone's channels are those of its chunks
pub bone-chunks : (ms ls : List Lexeme) (b : Bone) → bone ms ≡ got b ls → (tokens : List Lexeme) × (fs : List (Option Channel)) × (fields channel_kinds tokens ≡ got fs ls) × (b.channels ≡ map keys_in fs)
unfolding bone ◌>>=◌ pure
bone-chunks ms ls b e =
    let p = before (optional "name" absent (closed string) ms) _ b ls e in
    let q = before (fields channel_kinds p.left) _ b ls p.second in
    (p.left, q.value, q.first ∙ ap (got q.value) (got-left _ _ _ _ q.second), sym (ap (λ (x : Bone). x.channels) (got-value _ _ _ _ q.second)))

some_key : (i : ℕ) (fs : List (Option Channel)) (k : ℕ) → AllFit (λ _. Written) i fs → keys_in (get_or fs k none) ≡ [] → get_or fs k none ≡ none
unfolding keys_in
some_key i [] k h e = refl
some_key i (none ∷ fs) zero h e = refl
some_key i (some c ∷ fs) zero h e = absurd (let z = ap length e in omega (arith, h.0.some_key))
some_key i (none ∷ fs) (suc k) h e = some_key (suc i) fs k h e
some_key i (some c ∷ fs) (suc k) h e = some_key (suc i) fs k h.1 e

pub channel-kept : (ms ls : List Lexeme) (fs : List (Option Channel)) → fields channel_kinds ms ≡ got fs ls → (k : ℕ) → keys_in (get_or fs k none) ≡ [] ↔ get_or fs k none ≡ none
unfolding keys_in
channel-kept ms ls fs e k = (some_key 0 fs k (free fields-written ms fs ls e).fit, λ z. ap keys_in z)

-- ---- the table

pub zero-range : (row : ℕ) (cs : List Channel) → key_ranges row ([] ∷ cs) ≡ pos 0 ∷ pos 0 ∷ key_ranges row cs
unfolding key_ranges first_row
zero-range row cs = let z : row + 0 ≡ row = omega arith in rw z

pub laid-range : (row : ℕ) (k : Key) (c : Channel) (cs : List Channel) → key_ranges row ((k ∷ c) ∷ cs) ≡ pos row ∷ pos (length (k ∷ c)) ∷ key_ranges (row + length (k ∷ c)) cs
unfolding key_ranges first_row
laid-range row k c cs = refl
