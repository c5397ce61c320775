-- A name's bytes, and its number with place and file, by cases on whether it exists.
use mathlib.Core.Path.{◌≡◌, refl}
use mathlib.Core.List.{List}
use mathlib.Core.Option.{Option, none, some}
use Prim.Native.Nat.{ℕ}
use Rattle.player_spec.specs.Answers.{numbered}
use Rattle.player_label.specs.Labels.{or_empty}
use Rattle.pair_labels.specs.Answers.{refusal_of, bytes_of}
use Rattle.pair_labels.specs.declared.Refusal.{Refusal}

pub bytes_some : (found : Option (List ℕ)) → or_empty found ≡ bytes_of (numbered found)
unfolding bytes_of numbered or_empty
bytes_some none = refl
bytes_some (some a) = refl

pub number-zeros : {A : Type 0} (found : Option A) → ◌≡◌ {A = Refusal} (record { number = (numbered found).0; place = 0; file = 0 }) (refusal_of (numbered found))
unfolding refusal_of numbered
number-zeros none = refl
number-zeros (some a) = refl
