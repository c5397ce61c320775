-- What the code's answer says of a pair that was loaded and then played.
use Rattle.std.proofs.Math.Option as spec
use Rattle.std.specs.Prelude.{ℕ, Option, Some, None}
use Rattle.pair_played.specs.declared.answer.Played.{Played}

-- number, place and file, and what the value stands for
abbrev pub told : {T A : Type 0} → (Option T → ℕ × ℕ × ℕ × spec.Option A) → Played T → ℕ × ℕ × ℕ × spec.Option A
told f r = (r.refusal, r.place, r.file, (f r.value).3)

abbrev pub refused : {T : Type 0} → ℕ → ℕ → ℕ → Played T
refused n p file = record { refusal = n; place = p; file = file; value = None }

-- 21 where there is no value
abbrev pub answered : {T : Type 0} → Option T → Played T
answered (Some v) = record { refusal = 0; place = 0; file = 0; value = Some v }
answered None = record { refusal = 21; place = 0; file = 0; value = None }
