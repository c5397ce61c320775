-- What a cursor of the code says of the tokens, and of a table that rows are written to.
use Rattle.std.specs.Prelude.{List, ℕ, Result, Ok, Err}
use Rattle.refusal.specs.declared.checked.Refusal.{Refusal}
use Rattle.text_tokens.specs.Tokens.{lex_at}
use Rattle.parse_spec.specs.Readers.{Got, refused, Reader, pure}

-- where to read on, or the refusal
abbrev pub Cursor : Type 0
Cursor = Result ℕ Refusal

-- what a reader gives from a cursor on: the cursor's own refusal, where it has one
unfoldable pub from : {A : Type 0} → List ℕ → Cursor → Reader A → Got A
from text (Ok at) r = r (lex_at text at)
from text (Err e) r = refused e.number e.place

-- a value and the tokens from the cursor's offset on, or its refusal
abbrev pub reads : {A : Type 0} → List ℕ → Cursor → A → Got A
reads text c a = from text c (pure a)

-- the same of a value that the code gives with the offset, in the form that f puts it into
abbrev pub parsed : {T A : Type 0} → List ℕ → Result (T × ℕ) Refusal → (T → A) → Got A
parsed text (Ok p) f = reads text (Ok p.1) (f p.0)
parsed text (Err e) f = refused e.number e.place
