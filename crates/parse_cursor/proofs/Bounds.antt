-- A name's place and length, as they were read, are at most the text's length.
use mathlib.Core.Path.{◌≡◌, sym}
use mathlib.Core.List.{List}
use Prim.Native.Nat.{ℕ, ◌≤◌}
use lib.ListN.{length}
use Rattle.text_tokens.specs.Tokens.{lex_at}
use Rattle.std.proofs.Common.{Ok}
use Rattle.parse_spec.specs.Readers.{Reader, ◌>>=◌, pure, closed, Name, absent, string, optional}
use Rattle.parse_spec.specs.Internal.Places.{place_of, name_of, optional_name}
use Rattle.parse_cursor.specs.Internal.Cursors.{Cursor, reads, from}
use Rattle.parse_spec.proofs.Many.{got-value}
use Rattle.parse_spec.proofs.Given.{before, GivesOn, closed-gives, string-gives, name-gives}
use Rattle.parse_cursor.proofs.Counts.{alive}
use Rattle.parse_spec.proofs.Within.{Placed, Within, absent-placed, lex_at-within, names-placed}

-- what a name that was read says of its place
module _ (r : Reader Name) (text : List ℕ) (h : GivesOn (Within (length text)) (Placed (length text)) r) (c : Cursor) (d : ℕ) (v : ℕ × ℕ) where
  bounds : reads text (Ok d) v ≡ from text c (r >>= λ x. pure (place_of x)) → (v.0 ≤ length text) × (v.1 ≤ length text)
  unfolding from ◌>>=◌ pure place_of
  bounds p =
      let a = alive text c d (r >>= λ x. pure (place_of x)) v p in
      let e = sym (rw a.1 at p) in
      let s = before (r (lex_at text a.0)) (λ x. pure (place_of x)) v _ e in
      let q : v ≡ (s.value.at, length s.value.bytes) = sym (got-value _ _ _ _ s.second) in
      rw q (h.each _ s.value s.left (lex_at-within text a.0) s.first).0

pub name_bounds : (text : List ℕ) (c : Cursor) (d : ℕ) (v : ℕ × ℕ) → reads text (Ok d) v ≡ from text c name_of → (v.0 ≤ length text) × (v.1 ≤ length text)
unfolding name_of
name_bounds text = bounds (closed string) text (closed-gives (string-gives (names-placed (length text))))

pub place_bounds : (text : List ℕ) (c : Cursor) (d : ℕ) (v : ℕ × ℕ) → reads text (Ok d) v ≡ from text c optional_name → (v.0 ≤ length text) × (v.1 ≤ length text)
unfolding optional_name
place_bounds text = bounds (optional "name" absent (closed string)) text (name-gives (absent-placed (length text)) (names-placed (length text)))
