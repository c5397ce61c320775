-- The head of the next chunk in a free order, and where a reader of such chunks leaves the code.
use Rattle.std.specs.Prelude.{◌≡◌, List, Bool, true, false, not, ◌&&◌, ℕ, zero, suc, ltb, length, get_or, set, Option, Some, None, Result, Ok, Err}
use Rattle.text_tokens.specs.Tokens.{Token}
use Rattle.refusal.specs.declared.checked.Refusal.{Refusal}
use Rattle.parse_spec.specs.Readers.{Got, got, refused, Reader, ◌>>◌, stop, token_of, rest, open_bracket}
use Rattle.text_kinds.specs.Kinds.{is_closing}
use Rattle.text_kinds.specs.Internal.Kinds.{is_plain}
use Rattle.parse_cursor.specs.Internal.Cursors.{Cursor, reads}
use Rattle.parse_spec.specs.Internal.Fields.{covers_all}
use Rattle.parse_words.specs.Internal.Words.{index_in}

-- a plain word whose row among some words has a flag that is clear
unfoldable pub unmet : List (List ℕ) → List Bool → Token → Bool
unmet ws seen t = is_plain t && (ltb (index_in t ws) (length seen) && not (get_or seen (index_in t ws) false))

-- its row
unfoldable pub key_in : List (List ℕ) → List Bool → Reader (Option ℕ)
key_in ws seen ms = elim (unmet ws seen (token_of ms)) [ true ↦ got (Some (index_in (token_of ms) ws)) (rest ms) | false ↦ stop 5 ms ]

-- the ( of a chunk, where one may still open, and what comes after it
unfoldable pub open_in : ℕ → Reader (Option ℕ) → Reader (Option ℕ)
open_in zero r = stop 5
open_in (suc left) r = open_bracket >> r

-- past the ( and the keyword of a chunk, with the keyword's row; or past the ) after the last, where the flags cover the needed ones, with none
unfoldable pub head_in : List (List ℕ) → List Bool → List Bool → ℕ → Reader (Option ℕ)
head_in ws needed seen left ms =
    elim (is_closing (token_of ms)) [
      | true ↦ elim (covers_all needed seen) [ true ↦ got None (rest ms) | false ↦ stop 5 ms ]
      | false ↦ open_in left (key_in ws seen) ms
    ]

-- the flags after a head: that of its row is set
abbrev pub marked : List Bool → Result (Option ℕ × ℕ) Refusal → List Bool
marked seen (Ok p) = elim (p.0) [ None ↦ seen | Some k ↦ set seen k true ]
marked seen (Err e) = seen

-- where a reader leaves an offset: the value that it read, and what holds of that
pub record ReachedAt {A : Type 0} (text : List ℕ) (at : ℕ) (g : Got A) (P : A → Type 0) : Type 0 where
  pub value : A
  pub read : reads text (Ok at) value ≡ g
  pub kept : P value

-- where it leaves a cursor: the same, or its refusal
abbrev pub Reached : {A : Type 0} → List ℕ → Cursor → Got A → (A → Type 0) → Type 0
Reached text (Ok at) g P = ReachedAt text at g P
Reached text (Err e) g P = g ≡ refused e.number e.place

-- likewise where the code gives something of its own with the offset
abbrev pub ReachedBy : {T A : Type 0} → List ℕ → Result (T × ℕ) Refusal → Got A → (T → A → Type 0) → Type 0
ReachedBy text (Ok p) g P = ReachedAt text p.1 g (P p.0)
ReachedBy text (Err e) g P = g ≡ refused e.number e.place
