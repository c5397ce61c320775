-- How many keys the channels have that have been read, and how wide the keys are: by list induction, and by what the readers give.
use mathlib.Core.Path.{◌≡◌, ◌∙◌}
use mathlib.Core.List.{List, [], ◌∷◌, map}
use mathlib.Core.Option.{Option, none, some}
use Prim.Native.Nat.{ℕ, zero, suc, ◌+◌, ◌*◌, ◌<◌}
use native.Mathlib.Omega.{arith}
use lib.ListN.{length, get_or, set, length-append}
use Rattle.parse_spec.specs.Readers.{many⁺}
use Rattle.table_rows.specs.Flat.{flat}
use Rattle.parse_spec.proofs.Given.{GivesOn, AnyToken, gives_as}
use Rattle.parse_rows.proofs.Widths.{Wide, flat-length}
use Rattle.tra4_text.specs.Movement.{Channel}
use Rattle.tra4_text.specs.Grammar.{key, keys_in}
use Rattle.tra4_text.specs.Rules.{all_keys}
use Rattle.tra4_text.proofs.Whole.{channel-gives}
use Rattle.tra4_channels.specs.Internal.Held.{keys_read}

-- ---- keys are two numbers wide

abbrev pub Pairs : Channel → Type 0
Pairs c = Wide 2 c

pub keys_give : GivesOn AnyToken Pairs (many⁺ key)
keys_give = gives_as channel-gives (λ _ c. c.whole.wide)

pub flat_pairs : (c : Channel) → Pairs c → length (flat c) ≡ length c * 2
flat_pairs c h = flat-length 2 c h

-- ---- the count

keys-read : (f : Option Channel) (fs : List (Option Channel)) → keys_read (f ∷ fs) ≡ length (keys_in f) + keys_read fs
unfolding keys_read all_keys
keys-read f fs = length-append (keys_in f) (all_keys (map keys_in fs))

-- a channel more
pub keys-set : (fs : List (Option Channel)) (k : ℕ) (c : Channel) → k < length fs → get_or fs k none ≡ none → keys_read (set fs k (some c)) ≡ keys_read fs + length c
unfolding keys_in
keys-set [] k c h e = absurd (omega arith)
keys-set (f ∷ fs) zero c h e = keys-read (some c) fs ∙ let none_yet : f ≡ none = e in rw none_yet (let z = keys-read none fs in rw z (omega arith))
keys-set (f ∷ fs) (suc k) c h e = keys-read f (set fs k (some c)) ∙ omega (arith, keys-set fs k c (omega arith) e, keys-read f fs)
