-- What a reader gives of tokens whose offsets are moved: a name moves with its string, and a refusal with its token.
use Rattle.std.specs.Prelude.{ℕ, zero, suc}
use Rattle.text_notes.specs.Notes.{moved}
use Rattle.parse_spec.specs.Readers.{Got, got, refused, Name}

-- a name begins a byte after its string's quote; 0 is an absent name's
unfoldable pub moved_at : (ℕ → ℕ) → ℕ → ℕ
moved_at to zero = 0
moved_at to (suc p) = suc (to p)

unfoldable pub moved_name : (ℕ → ℕ) → Name → Name
moved_name to n = record { at = moved_at to n.at; bytes = n.bytes }

unfoldable pub moved_got : {A : Type 0} → (ℕ → ℕ) → (A → A) → Got A → Got A
moved_got to value (got a ms) = got (value a) (moved to ms)
moved_got to value (refused n p) = refused n (to p)
