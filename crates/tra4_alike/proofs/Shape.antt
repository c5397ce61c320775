-- Two lists of the same tokens are one movement but for its names, which correspond, or are refused alike: the grammar once more, one law a reader. So name places are all that notes change, and offsets that are moved move names alone.
use mathlib.Core.Path.{◌≡◌, refl, ap, sym, ◌∙◌}
use mathlib.Core.List.{List, [], ◌∷◌, map}
use Prim.Native.Nat.{ℕ, zero, suc}
use Prim.Native.String.{String}
use lib.ListN.{length}
use Rattle.text_bytes.specs.Bytes.{bytes}
use Rattle.text_numerals.specs.Numbers.{INT, FLOAT}
use Rattle.text_tokens.specs.Tokens.{lex}
use Rattle.text_notes.specs.Notes.{moved}
use Rattle.parse_spec.specs.Readers.{Reader, Name, absent, rest, closed, string, optional}
use Rattle.parse_spec.specs.Fields.{kind}
use Rattle.tra4_text.specs.Movement.{Bone, Movement}
use Rattle.tra4_text.specs.Grammar.{repeated_in, repeated, repeated⁺, key, channel, channel_names, channel_kinds, keys_in, bone, pattern, movement}
use Rattle.parse_alike.proofs.Tokens.{both_length, Equal}
use Rattle.parse_alike.proofs.Readers.{Alike, Same, Each, each_map, pure_alike, alike_as, bind_alike, bind-same, then_alike, close_same, opened-same, end_same, closed_alike, head-same, number_same, numbers-same, row_of-same, truth-same, more_alike, many-same, some_same, starts_alike, trailing_alike, name_alike}
use Rattle.parse_alike.specs.Moving.{moved_name, moved_got}
use Rattle.parse_alike.proofs.Names.{NameBy, Exchanged, without_places, moved-names, reads-moved}
use Rattle.parse_alike.proofs.Fields.{AllAlike, fields-same}
use Rattle.tra4_alike.specs.Renamed.{renamed_bone, renamed}
use Rattle.tra4_alike.specs.Internal.Placeless.{placeless}

-- every channel
channels-same : (W : ℕ → ℕ → Type 0) (ns : List String) → AllAlike W Equal (map channel ns)
unfolding channel kind key
channels-same W [] = tt
channels-same W (n ∷ ns) = (some_same (row_of-same (bytes "kf") 1 FLOAT 1), channels-same W ns)

module _ {W : ℕ → ℕ → Type 0} where
  -- chunks of one keyword
  module _ {A : Type 0} {R : A → A → Type 0} (k : String) {r : Reader A} (h : Alike W R r r) where
    repeated_in_lem : (n : ℕ) → Alike W (Each R) (repeated_in n k r) (repeated_in n k r)
    unfolding repeated_in
    repeated_in_lem zero = record { each = λ ms ns w. (tt, w) }
    repeated_in_lem (suc n) = starts_alike (bytes k) (λ ms ns w o p. rw (o, p, repeated_in) ((more_alike h (repeated_in_lem n)).each (rest (rest ms)) (rest (rest ns)) w)) (λ ms ns w o p. rw (o, p, repeated_in) (tt, w))

    repeated_alike : Alike W (Each R) (repeated⁺ k r) (repeated⁺ k r)
    unfolding repeated⁺ repeated
    repeated_alike = more_alike (then_alike (opened-same k) h) (record { each = λ ms ns w. rw (both_length W ms ns w) ((repeated_in_lem (length ms)).each ms ns w) })

  pattern-same : Same W pattern
  unfolding pattern
  pattern-same = then_alike (opened-same "kgf") (closed_alike (bind-same (numbers-same INT 2) (λ zs. bind-same truth-same (λ z. pure_alike _ _ refl))))

  -- ---- what has a name, each exchanged by a function of its own

  module _ {left right : Name → Name} (names : Exchanged W left right) where
    abbrev BoneAlike : Bone → Bone → Type 0
    BoneAlike b c = renamed_bone right c ≡ renamed_bone left b

    own_name : Alike W (NameBy left right) (optional "name" absent (closed string)) (optional "name" absent (closed string))
    own_name = name_alike (names.right_absent ∙ sym names.left_absent) names.strings

    bone_alike : Alike W BoneAlike bone bone
    unfolding bone channel_kinds renamed_bone
    bone_alike = bind_alike own_name (λ m n e. bind-same (fields-same W channel_kinds (channels-same W channel_names)) (λ cs. pure_alike {R = BoneAlike} _ _ (ap (λ (x : Name). record { name = x; channels = map keys_in cs }) e)))

    pub movement-renamed : Alike W (λ m n. renamed right n ≡ renamed left m) movement movement
    unfolding movement renamed
    movement-renamed =
        then_alike (head-same "traVersion" "4.0") (then_alike (opened-same "Figure")
        (bind_alike own_name (λ m n en.
        then_alike (opened-same "totalFrame")
        (bind-same (closed_alike (number_same INT)) (λ t.
        bind_alike (repeated_alike "bone" bone_alike) (λ bs ds eb.
        bind-same (trailing_alike "DynamicPolygons" [] refl (many-same pattern-same)) (λ ps.
        then_alike close_same (then_alike end_same
        (pure_alike {R = λ m n. renamed right n ≡ renamed left m} _ _ (rw (en, each_map (renamed_bone left) (renamed_bone right) bs ds eb)))))))))))

-- ---- but for name places

abbrev pub MovementAlike : Movement → Movement → Type 0
MovementAlike m n = placeless n ≡ placeless m

pub movement_alike : {W : ℕ → ℕ → Type 0} → Alike W MovementAlike movement movement
movement_alike {W} = movement-renamed (without_places W)

-- ---- however the offsets of a text are moved

bones-kept : (bs : List Bone) → map (renamed_bone (λ n. n)) bs ≡ bs
unfolding renamed_bone
bones-kept [] = refl
bones-kept (b ∷ bs) = ap (◌∷◌ b) (bones-kept bs)

kept : (m : Movement) → renamed (λ n. n) m ≡ m
unfolding renamed
kept m = rw (bones-kept m.bones)

pub movement-moved : (to : ℕ → ℕ) (text : List ℕ) → movement (moved to (lex text)) ≡ moved_got to (renamed (moved_name to)) (movement (lex text))
movement-moved to text = reads-moved to (renamed (moved_name to)) (alike_as (movement-renamed (moved-names to)) (λ m n e. sym (kept n) ∙ e)) text
