-- A test of a token that its kind settles is a comparison of the kind with the one that passes: by cases on the kind.
use mathlib.Core.Path.{◌≡◌}
use mathlib.Core.List.{List}
use mathlib.Core.Bool.{Bool}
use Prim.Native.Nat.{ℕ}
use denote.Enum.Bare.{sameb}
use Rattle.text_tokens.specs.contracts.token.Kind.{the_type}
use Rattle.text_tokens.specs.Tokens.{Token, opening, closing, ending, quoted, plain}
use Rattle.text_tokens.specs.Internal.Answers.{token_of}
use Rattle.text_tokens.specs.declared.token.Kind.{Kind}
use Rattle.text_tokens.specs.declared.token.Kind.TheVariants.{Opening, Closing, Quoted, Plain, Ending}

-- a test that says of each kind whether it is v
pub record Told (v : Kind) (test : Token → Bool) : Type 0 where
  pub bracket : sameb the_type Opening v ≡ test opening
  pub end_bracket : sameb the_type Closing v ≡ test closing
  pub string : (bs : List ℕ) → sameb the_type Quoted v ≡ test (quoted bs)
  pub word : (bs : List ℕ) → sameb the_type Plain v ≡ test (plain bs)
  pub end : sameb the_type Ending v ≡ test ending

pub by_kind : (v : Kind) (test : Token → Bool) → Told v test → (k : Kind) (r : Bool) → r ≡ sameb the_type k v → (bs : List ℕ) → r ≡ test (token_of k bs)
unfolding token_of
by_kind v test t Opening r e bs = rw e t.bracket
by_kind v test t Closing r e bs = rw e t.end_bracket
by_kind v test t Quoted r e bs = rw e (t.string bs)
by_kind v test t Plain r e bs = rw e (t.word bs)
by_kind v test t Ending r e bs = rw e t.end
