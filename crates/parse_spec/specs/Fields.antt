-- Chunks in a free order, each at most once.
use Rattle.std.specs.Prelude.{List, [], ◌∷◌, Bool, true, false, not, ◌&&◌, ◌||◌, ℕ, zero, suc, length}
use Rattle.std.proofs.Math.Option.{Option, none, some}
use Prim.Native.String.{String}
use Rattle.text_bytes.specs.Bytes.{bytes}
use Rattle.text_tokens.specs.Tokens.{is_keyword}
use Rattle.parse_spec.specs.Readers.{got, Reader, ◌>>=◌, ◌>>◌, pure, stop, token_of, rest, open_bracket}
use Rattle.text_kinds.specs.Kinds.{is_closing}

-- a kind of chunk: its keyword, whether it must stand, and what stands in it up to its )
pub record Kind (A : Type 0) : Type 0 where
  pub key : String
  pub needed : Bool
  pub inside : Reader A

unfoldable pub kind : {A : Type 0} → String → Bool → Reader A → Kind A
kind k n r = record { key = k; needed = n; inside = r }

unfoldable pub is_some : {A : Type 0} → Option A → Bool
is_some none = false
is_some (some a) = true

-- one field a kind, empty until its chunk is met
unfoldable pub unread : {A : Type 0} → List (Kind A) → List (Option A)
unread [] = []
unread (k ∷ ks) = none ∷ unread ks

-- every kind that must stand does
unfoldable pub complete : {A : Type 0} → List (Kind A) → List (Option A) → Bool
complete [] fs = true
complete (k ∷ ks) [] = true
complete (k ∷ ks) (f ∷ fs) = (not k.needed || is_some f) && complete ks fs

-- the field of the kind whose keyword comes next and that has not stood yet
unfoldable pub kind_from : {A : Type 0} → List (Kind A) → List (Option A) → Reader (List (Option A))
kind_from [] fs ms = stop 5 ms
kind_from (k ∷ ks) [] ms = stop 5 ms
kind_from (k ∷ ks) (none ∷ fs) ms =
    elim (is_keyword (bytes k.key) (token_of ms)) [
      | true ↦ (k.inside >>= λ a. pure (some a ∷ fs)) (rest ms)
      | false ↦ (kind_from ks fs >>= λ gs. pure (none ∷ gs)) ms
    ]
kind_from (k ∷ ks) (some a ∷ fs) ms = (kind_from ks fs >>= λ gs. pure (some a ∷ gs)) ms

-- chunks up to ), which is taken too; n is how many may still open
unfoldable pub fields_in : {A : Type 0} → ℕ → List (Kind A) → List (Option A) → Reader (List (Option A))
fields_in zero ks fs ms =
    elim (is_closing (token_of ms)) [
      | true ↦ elim (complete ks fs) [ true ↦ got fs (rest ms) | false ↦ stop 5 ms ]
      | false ↦ stop 5 ms
    ]
fields_in (suc n) ks fs ms =
    elim (is_closing (token_of ms)) [
      | true ↦ elim (complete ks fs) [ true ↦ got fs (rest ms) | false ↦ stop 5 ms ]
      | false ↦ (open_bracket >> kind_from ks fs >>= λ gs. fields_in n ks gs) ms
    ]

-- each kind's chunk may open once
unfoldable pub fields : {A : Type 0} → List (Kind A) → Reader (List (Option A))
fields ks = fields_in (length ks) ks (unread ks)
