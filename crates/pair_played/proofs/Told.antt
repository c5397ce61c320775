-- What is told of a lookup's answer is what the lookup's own answer says: 21 and nothing, or zeros and the value.
use Rattle.std.proofs.Common.{◌≡◌, ℕ, sym, Option, Some, None}
use Rattle.std.proofs.Math.Option as spec
use Rattle.pair_played.specs.Answers.{told, answered}

pub told_answered :
    {T A : Type 0} (f : Option T → ℕ × ℕ × ℕ × spec.Option A) →
    f None ≡ (21, 0, 0, spec.none) →
    ((v : T) → f (Some v) ≡ (0, 0, 0, (f (Some v)).3)) →
    (v : Option T) →
    told f (answered v) ≡ f v
told_answered f n s None = rw n
told_answered f n s (Some v) = sym (s v)
