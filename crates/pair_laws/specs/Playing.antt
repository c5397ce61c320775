-- Loading a pair and then playing it: what the calls that take two texts answer, from the two texts alone.
use Rattle.std.proofs.Math.Option.{Option, none}
use Rattle.std.specs.Prelude.{ℕ}
use Rattle.bac6_text.specs.Figure.{Figure}
use Rattle.tra4_text.specs.Movement.{Movement}
use Rattle.player_spec.specs.Answers.{numbered}
use Rattle.pair_text.specs.Answer.{Loaded, refused, loaded}

-- number, place and file, and the value: the pair's refusal, or what is asked of the two texts, 21 where it does not exist
unfoldable pub played : {A : Type 0} → Loaded (Figure × Movement) → (Figure → Movement → Option A) → ℕ × ℕ × ℕ × Option A
played (refused n p file) asked = (n, p, file, none)
played (loaded (f, m)) asked = numbered (asked f m)
