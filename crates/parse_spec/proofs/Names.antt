-- Names stand in their text: each is a string among its tokens, or absent.
use mathlib.Core.Path.{◌≡◌}
use mathlib.Core.List.{List}
use Prim.Native.Nat.{ℕ, suc}
use native.Mathlib.Omega.{arith}
use Rattle.text_check.specs.Faults.{Format, text_fault}
use Rattle.refusal.specs.Faults.{clear}
use Rattle.text_check.specs.Internal.Strings.{StandsAt, Stands}
use Rattle.text_tokens.specs.Tokens.{quoted, Lexeme, lex}
use Rattle.text_runs.proofs.Parts.{part_none}
use Rattle.text_check.proofs.Strings.{strings_stand}
use Rattle.parse_spec.specs.Internal.Names.{NameStands}
use Rattle.parse_spec.specs.Readers.{got, Reader, absent}
use Rattle.parse_spec.proofs.Given.{GivesOn, Naming}

pub absent_stands : (text : List ℕ) → NameStands text absent
unfolding absent
absent_stands text = record { is = part_none text 0 0 (omega arith); most = omega arith; within = omega arith; content = tt }

pub names_stand : (text : List ℕ) → Naming (Stands text) (NameStands text)
names_stand text m bs e w = let s : StandsAt text (suc m.offset) (quoted bs) = rw e at w in s

-- what a grammar gives of the tokens of a text that passes the refusals 1 to 4
pub text-gives : {A : Type 0} {P : A → Type 0} {r : Reader A} (f : Format) (text : List ℕ) → text_fault f text ≡ clear → GivesOn (Stands text) P r → (a : A) (l : List Lexeme) → r (lex text) ≡ got a l → P a
text-gives f text c h a l e = (h.each (lex text) a l (strings_stand f text c) e).0
