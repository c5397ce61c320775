-- The shape of a movement's text (the figure of document 004, with document 01's "Movement shape").
use Rattle.std.specs.Prelude.{List, [], ◌∷◌, ◌++◌, map, true, false, ℕ, zero, suc, length}
use Rattle.std.proofs.Math.Option.{Option, none, some}
use Prim.Native.String.{String}
use Rattle.text_bytes.specs.Bytes.{bytes}
use Rattle.text_numerals.specs.Numbers.{INT, FLOAT}
use Rattle.parse_spec.specs.Readers.{Reader, got, absent, ◌>>=◌, ◌>>◌, pure, rest, close_bracket, opened, closed, number, numbers, string, starts, optional, trailing, many, many⁺, head, text_end, row_of}
unfoldable pub use Rattle.parse_spec.specs.Readers.{word, truth}
use Rattle.parse_spec.specs.Fields.{Kind, kind, fields}
use Rattle.tra4_text.specs.Movement.{Key, Channel, Pattern, Bone, Movement}

-- chunks of one keyword, as many as stand; each takes at least one token, so there are turns enough
unfoldable pub repeated_in : {A : Type 0} → ℕ → String → Reader A → Reader (List A)
repeated_in zero k r ms = got [] ms
repeated_in (suc n) k r ms =
    elim (starts (bytes k) ms) [
      | true ↦ (r >>= λ a. repeated_in n k r >>= λ l. pure (a ∷ l)) (rest (rest ms))
      | false ↦ got [] ms
    ]

unfoldable pub repeated : {A : Type 0} → String → Reader A → Reader (List A)
repeated k r ms = repeated_in (length ms) k r ms

unfoldable pub repeated⁺ : {A : Type 0} → String → Reader A → Reader (List A)
repeated⁺ k r = opened k >> r >>= λ a. repeated k r >>= λ l. pure (a ∷ l)

unfoldable pub key : Reader Key
key = row_of (bytes "kf") 1 FLOAT 1

-- the channels by number
unfoldable pub channel_names : List String
channel_names =
    "translate.x"
    ∷ "translate.y"
    ∷ "translate.z"
    ∷ "scale.x"
    ∷ "scale.y"
    ∷ "scale.z"
    ∷ "rotate.x"
    ∷ "rotate.y"
    ∷ "rotate.z"
    ∷ "roll"
    ∷ []

-- a channel may be left out (document 02, (x)); one that stands has at least one key
unfoldable pub channel : String → Kind Channel
channel k = kind k false (many⁺ key)

unfoldable pub channel_kinds : List (Kind Channel)
channel_kinds = map channel channel_names

-- the keys of a channel; one that is left out has none
unfoldable pub keys_in : Option Channel → Channel
keys_in none = []
keys_in (some c) = c

-- what stands in a bone after its keyword
unfoldable pub bone : Reader Bone
bone = do
  n ← optional "name" absent (closed string)
  cs ← fields channel_kinds
  pure (record { name = n; channels = map keys_in cs })

unfoldable pub pattern : Reader Pattern
pattern = opened "kgf" >> closed (numbers INT 2 >>= λ zs. truth >>= λ z. pure (zs ++ (z ∷ [])))

unfoldable pub movement : Reader Movement
movement = do
  head "traVersion" "4.0"
  opened "Figure"
  n ← optional "name" absent (closed string)
  opened "totalFrame"
  total ← closed (number INT)
  bones ← repeated⁺ "bone" bone
  patterns ← trailing "DynamicPolygons" [] (many pattern)
  close_bracket
  text_end
  pure (record { total_frames = total; name = n; bones = bones; patterns = patterns })
