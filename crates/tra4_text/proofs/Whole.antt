-- What every movement that the grammar gives is: ten channels a bone, each that stands with a key, keys and pattern lines of their width, values and flags in range, and names that are strings of the text; by one law a reader.
use mathlib.Core.Path.{◌≡◌, refl, ◌∙◌}
use mathlib.Core.List.{List, [], ◌∷◌, ◌++◌, map}
use mathlib.Core.Option.{Option, none, some}
use Prim.Native.Nat.{ℕ, zero, suc, ◌<◌}
use Prim.Native.String.{String}
use native.Mathlib.Omega.{arith}
use lib.ListN.{length, get_or, drop, length-map, length-append}
use lib.Seq.{get_or_at}
use lib.IntN.{ℤ, pos}
use Rattle.text_bytes.specs.Bytes.{bytes}
use Rattle.text_bytes.specs.Internal.Every.{Every}
use Rattle.text_numerals.specs.Numbers.{INT, FLOAT}
use Rattle.text_tokens.specs.Tokens.{Lexeme}
use Rattle.text_bytes.proofs.Every.{every_as}
use Rattle.parse_spec.specs.Readers.{Name, absent, Reader, pure, starts, many⁺}
use Rattle.parse_spec.specs.Fields.{kind, fields}
use Rattle.parse_spec.proofs.Given.{GivesOn, Gives, free, Naming, AnyName, any_names, pure-gives, later_gives, either_gives, bind-gives, then_gives, gives_as, leaves_on, both_give, closed-gives, close_leaves, opened_leaves, end_leaves, head_leaves, more_give, many-gives, some_give, trailing-gives, name-gives}
use Rattle.parse_spec.proofs.FieldFits.{AllGive, AllFit, Whole, fields_fit}
use Rattle.parse_spec.proofs.Ranges.{InForm, number-gives, numbers_give, row_of-gives, choice_below, some_stand}
use Rattle.parse_rows.proofs.Widths.{Wide}
use Rattle.tra4_text.specs.Movement.{Key, Channel, Bone, Pattern, Movement}
use Rattle.tra4_text.specs.Grammar.{repeated_in, repeated, repeated⁺, key, channel, channel_names, channel_kinds, keys_in, bone, word, truth, pattern, movement}
use Rattle.tra4_text.specs.Internal.Names.{NamedMovement}

-- a key's value is in FLOAT's range
abbrev pub FloatValue : Key → Type 0
FloatValue k = InForm FLOAT (get_or k 1 (pos 0))

pub record WholeChannel (c : Channel) : Type 0 where
  pub wide : Wide 2 c
  pub values : Every FloatValue c

-- one that stands in the text
pub record Written (c : Channel) : Type 0 where
  pub whole : WholeChannel c
  pub some_key : 0 < length c

pub record WholeBone (b : Bone) : Type 0 where
  pub ten : length b.channels ≡ 10
  pub keys : Every (Wide 2) b.channels
  pub whole : Every WholeChannel b.channels

-- a pattern line's flag is 0 or 1
pub record Flagged (p : Pattern) : Type 0 where
  pub flag : ℕ
  pub is : get_or p 2 (pos 0) ≡ pos flag
  pub below : flag < 2

pub record WholeMovement (m : Movement) : Type 0 where
  pub bones : Every WholeBone m.bones
  pub patterns : Wide 3 m.patterns
  pub flags : Every Flagged m.patterns

-- ---- what has no name, of any tokens

second : (k : Key) → length k ≡ 2 → Every (InForm FLOAT) (drop 1 k) → FloatValue k
second [] e h = absurd (omega arith)
second (a ∷ []) e h = absurd (omega arith)
second (a ∷ b ∷ l) e h = h.0

abbrev WholeKey : Key → Type 0
WholeKey k = (length k ≡ 2) × FloatValue k

three : (zs : List ℤ) (z : ℤ) → length zs ≡ 2 → length (zs ++ (z ∷ [])) ≡ 3
three zs z h = length-append zs (z ∷ []) ∙ omega (arith, h)

abbrev Flag : ℤ → Type 0
Flag z = (n : ℕ) × (z ≡ pos n) × (n < 2)

abbrev Line : Pattern → Type 0
Line p = (length p ≡ 3) × Flagged p

module _ {Q : Lexeme → Type 0} where
  key-gives : GivesOn Q WholeKey key
  unfolding key
  key-gives = gives_as (row_of-gives (bytes "kf") 1 FLOAT 1) (λ k h. (h.0, second k h.0 h.1))

  pub channel-gives : GivesOn Q Written (many⁺ key)
  channel-gives = gives_as (both_give (some_give key-gives) (some_stand (leaves_on key-gives))) (λ c h. record { whole = record { wide = every_as (λ _ k. k.0) c h.0; values = every_as (λ _ k. k.1) c h.0 }; some_key = h.1 })

  truth-gives : GivesOn Q Flag truth
  unfolding truth word
  truth-gives = bind-gives (choice_below ("false" ∷ "true" ∷ [])) (λ n h. pure-gives {P = Flag} (pos n) (n, refl, h))

  pattern-gives : GivesOn Q Line pattern
  unfolding pattern
  pattern-gives =
      then_gives (opened_leaves "kgf") (closed-gives (bind-gives (numbers_give INT 2) (λ zs h. bind-gives truth-gives (λ z f.
      pure-gives {P = Line} (zs ++ (z ∷ [])) (three zs z h.0, record { flag = f.0; is = get_or_at zs z [] (pos 0) 2 h.0 ∙ f.1; below = f.2 })))))

  pub pattern_wide : GivesOn Q (λ p. length p ≡ 3) pattern
  pattern_wide = gives_as pattern-gives (λ _ h. h.0)

  -- chunks of one keyword
  module _ {A : Type 0} {P : A → Type 0} (k : String) {r : Reader A} (h : GivesOn Q P r) where
    repeated_in_lem : (n : ℕ) → GivesOn Q (Every P) (repeated_in n k r)
    unfolding repeated_in pure
    repeated_in_lem zero = pure-gives {P = Every P} [] tt
    repeated_in_lem (suc n) = either_gives (starts (bytes k)) (later_gives (later_gives (more_give h (repeated_in_lem n)))) (pure-gives {P = Every P} [] tt) (λ ms o. rw (o, repeated_in)) (λ ms o. rw (o, repeated_in))

    repeated-gives : GivesOn Q (Every P) (repeated⁺ k r)
    unfolding repeated⁺ repeated
    repeated-gives = more_give (then_gives (opened_leaves k) h) (record { each = λ ms. (repeated_in_lem (length ms)).each ms })

-- ---- the channels of a bone

-- those that stand, and those that are left out
all_whole : (i : ℕ) (fs : List (Option Channel)) → AllFit (λ _. Written) i fs → Every WholeChannel (map keys_in fs)
unfolding keys_in
all_whole i [] h = tt
all_whole i (none ∷ fs) h = (record { wide = tt; values = tt }, all_whole (suc i) fs h)
all_whole i (some c ∷ fs) h = (h.0.whole, all_whole (suc i) fs h.1)

names_give : (Q : Lexeme → Type 0) (i : ℕ) (ns : List String) → AllGive (λ _. Written) Q i (map channel ns)
unfolding channel kind
names_give Q i [] = tt
names_give Q i (n ∷ ns) = (channel-gives, names_give Q (suc i) ns)

-- what the chunks of a bone's channels leave
pub fields-written : {Q : Lexeme → Type 0} → GivesOn Q (Whole (λ _. Written) channel_kinds) (fields channel_kinds)
unfolding channel_kinds
fields-written {Q} = fields_fit (λ _. Written) channel_kinds (names_give Q 0 channel_names)

ten : (gs : List (Option Channel)) → Whole (λ _. Written) channel_kinds gs → (length gs ≡ 10) × Every WholeChannel (map keys_in gs)
unfolding channel_kinds channel_names
ten gs w = (w.count, all_whole 0 gs w.fit)

channels_give : {Q : Lexeme → Type 0} → GivesOn Q (λ gs. (length gs ≡ 10) × Every WholeChannel (map keys_in gs)) (fields channel_kinds)
channels_give = gives_as fields-written ten

pub wide_keys : (cs : List Channel) → Every WholeChannel cs → Every (Wide 2) cs
wide_keys [] h = tt
wide_keys (c ∷ cs) h = (h.0.wide, wide_keys cs h.1)

-- ---- what has a name, of tokens whose strings are names of P

module _ (P : Name → Type 0) (empty : P absent) {Q : Lexeme → Type 0} (h : Naming Q P) where
  bone-gives : GivesOn Q (λ b. WholeBone b × P b.name) bone
  unfolding bone
  bone-gives =
      bind-gives (name-gives empty h) (λ n p. bind-gives channels_give (λ gs q.
      pure-gives {P = λ b. WholeBone b × P b.name} _ (record { ten = length-map gs keys_in ∙ q.0; keys = wide_keys (map keys_in gs) q.1; whole = q.1 }, p)))

  pub movement-gives : GivesOn Q (λ m. WholeMovement m × NamedMovement P m) movement
  unfolding movement
  movement-gives =
      then_gives (head_leaves "traVersion" "4.0") (then_gives (opened_leaves "Figure")
      (bind-gives (name-gives empty h) (λ n hn.
      then_gives (opened_leaves "totalFrame")
      (bind-gives (closed-gives (number-gives INT)) (λ t _.
      bind-gives (repeated-gives "bone" bone-gives) (λ bs hbs.
      bind-gives (trailing-gives "DynamicPolygons" [] tt (many-gives pattern-gives)) (λ ps hps.
      then_gives close_leaves (then_gives end_leaves
      (pure-gives _ (record { bones = every_as (λ _ b. b.0) bs hbs; patterns = every_as (λ _ p. p.0) ps hps; flags = every_as (λ _ p. p.1) ps hps }, record { own = hn; bones = every_as (λ _ b. b.1) bs hbs }))))))))))

-- ---- of any tokens, whatever the names

pub movement-whole : Gives WholeMovement movement
movement-whole ms m l e = (free (movement-gives AnyName tt any_names) ms m l e).0
