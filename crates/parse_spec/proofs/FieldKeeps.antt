-- Chunks in a free order leave no more tokens than they found, where what stands in each kind does.
use mathlib.Core.Path.{◌≡◌, refl}
use mathlib.Core.List.{List, [], ◌∷◌}
use mathlib.Core.Bool.{Bool, true, false}
use mathlib.Core.Option.{Option, none, some}
use Prim.Native.Nat.{ℕ, zero, suc, ◌≤◌}
use native.Mathlib.Omega.{arith}
use lib.ListN.{length}
use Rattle.text_bytes.specs.Bytes.{bytes}
use Rattle.text_tokens.specs.Tokens.{Lexeme, is_keyword}
use Rattle.parse_spec.specs.Readers.{Got, got, ◌>>=◌, ◌>>◌, pure, stop, token_of, rest}
use Rattle.text_kinds.specs.Kinds.{is_closing}
use Rattle.parse_spec.specs.Fields.{Kind, complete, kind_from, fields_in, fields}
use Rattle.parse_spec.proofs.Many.{Keeps, stop-not, rest-short, got-rest, pure_keeps, bind_keeps, then_keeps, takes_keeps, open_takes}

abbrev pub AllKeep : {A : Type 0} → List (Kind A) → Type 0
AllKeep [] = Unit {0}
AllKeep (k ∷ ks) = Keeps k.inside × AllKeep ks

pub kind_keeps : {A : Type 0} (ks : List (Kind A)) (fs : List (Option A)) → AllKeep ks → Keeps (kind_from ks fs)
unfolding kind_from
kind_keeps [] fs t ms a l e = absurd (stop-not 5 ms a l e)
kind_keeps (k ∷ ks) [] t ms a l e = absurd (stop-not 5 ms a l e)
kind_keeps (k ∷ ks) (some z ∷ fs) t ms a l e = bind_keeps (kind_keeps ks fs t.1) (λ gs. pure_keeps (some z ∷ gs)) ms a l e
kind_keeps (k ∷ ks) (none ∷ fs) t ms a l e = go (is_keyword (bytes k.key) (token_of ms)) refl (kind_keeps ks fs t.1)
  where
    go : (v : Bool) → is_keyword (bytes k.key) (token_of ms) ≡ v → Keeps (kind_from ks fs) → length l ≤ length ms
    go true q h =
        let e' : (k.inside >>= λ x. pure (some x ∷ fs)) (rest ms) ≡ got a l = rw (q, kind_from) at e in
        omega (arith, bind_keeps t.0 (λ x. pure_keeps (some x ∷ fs)) (rest ms) a l e', rest-short ms)
    go false q h =
        let e' : (kind_from ks fs >>= λ gs. pure (none ∷ gs)) ms ≡ got a l = rw (q, kind_from) at e in
        bind_keeps h (λ gs. pure_keeps (none ∷ gs)) ms a l e'

closed-at_end : {A : Type 0} (ks : List (Kind A)) (fs gs : List (Option A)) (ms l : List Lexeme) (v : Bool) → elim v as (λ x. Got (List (Option A))) [ true ↦ got fs (rest ms) | false ↦ stop 5 ms ] ≡ got gs l → length l ≤ length ms
closed-at_end ks fs gs ms l true e = omega (arith, got-rest fs gs (rest ms) l e, rest-short ms)
closed-at_end ks fs gs ms l false e = absurd (stop-not 5 ms gs l e)

pub fields_in_keeps : {A : Type 0} (n : ℕ) (ks : List (Kind A)) (fs : List (Option A)) → AllKeep ks → Keeps (fields_in n ks fs)
unfolding fields_in
fields_in_keeps zero ks fs t ms a l e = go (is_closing (token_of ms)) refl
  where
    go : (v : Bool) → is_closing (token_of ms) ≡ v → length l ≤ length ms
    go true q = closed-at_end ks fs a ms l (complete ks fs) (rw (q, fields_in) at e)
    go false q = absurd (stop-not 5 ms a l (rw (q, fields_in) at e))
fields_in_keeps (suc n) ks fs t ms a l e = go (is_closing (token_of ms)) refl (λ gs. fields_in_keeps n ks gs t)
  where
    go : (v : Bool) → is_closing (token_of ms) ≡ v → ((gs : List (Option _)) → Keeps (fields_in n ks gs)) → length l ≤ length ms
    go true q h = closed-at_end ks fs a ms l (complete ks fs) (rw (q, fields_in) at e)
    go false q h = bind_keeps (then_keeps (takes_keeps open_takes) (kind_keeps ks fs t)) h ms a l (rw (q, fields_in) at e)

pub fields_keeps : {A : Type 0} (ks : List (Kind A)) → AllKeep ks → Keeps (fields ks)
unfolding fields
fields_keeps ks t = fields_in_keeps (length ks) ks _ t
