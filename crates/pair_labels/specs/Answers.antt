-- Of an answer its number, place and file, and its bytes.
use Rattle.std.proofs.Math.Option.{Option}
use Rattle.std.specs.Prelude.{List, ℕ}
use Rattle.player_label.specs.Labels.{or_empty}
use Rattle.pair_labels.specs.declared.Refusal.{Refusal}

unfoldable pub refusal_of : {A : Type 0} → ℕ × ℕ × ℕ × Option A → Refusal
refusal_of a = record { number = a.0; place = a.1; file = a.2 }

-- none where it is refused
unfoldable pub bytes_of : ℕ × ℕ × ℕ × Option (List ℕ) → List ℕ
bytes_of a = or_empty a.3
