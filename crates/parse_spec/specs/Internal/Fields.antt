-- Chunks in a free order, each at most once.
use Rattle.std.specs.Prelude.{List, [], ◌∷◌, Bool, true, false, not, ◌&&◌, ◌||◌, ℕ, zero, suc}
use Rattle.text_bytes.specs.Bytes.{bytes}
use Rattle.text_tokens.specs.Tokens.{Token, is_keyword}
use Rattle.parse_spec.specs.Readers.{Reader, stop}
use Rattle.parse_spec.specs.Fields.{Kind}

-- which kinds a token is the keyword of, and one of n alone (none where k is not below n)
unfoldable pub hits : {A : Type 0} → List (Kind A) → Token → List Bool
hits [] t = []
hits (k ∷ ks) t = is_keyword (bytes k.key) t ∷ hits ks t

unfoldable pub single : ℕ → ℕ → List Bool
single zero k = []
single (suc n) zero = true ∷ single n n
single (suc n) (suc k) = false ∷ single n k

-- what stands in the chunk of a kind
unfoldable pub inside_at : {A : Type 0} → List (Kind A) → ℕ → Reader A
inside_at [] k = stop 5
inside_at (kd ∷ ks) zero = kd.inside
inside_at (kd ∷ ks) (suc k) = inside_at ks k

-- which kinds must stand, and whether flags cover those that must
unfoldable pub needed_of : {A : Type 0} → List (Kind A) → List Bool
needed_of [] = []
needed_of (k ∷ ks) = k.needed ∷ needed_of ks

unfoldable pub covers_all : List Bool → List Bool → Bool
covers_all [] seen = true
covers_all (n ∷ ns) [] = true
covers_all (n ∷ ns) (b ∷ seen) = (not n || b) && covers_all ns seen
