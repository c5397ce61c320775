-- Every name of a movement stands in the movement's text, by the walk over the grammar with what the text's strings are.
use mathlib.Core.Path.{◌≡◌}
use mathlib.Core.List.{List}
use Prim.Native.Nat.{ℕ}
use lib.ListN.{length}
use Rattle.text_check.specs.Faults.{tra, text_fault}
use Rattle.refusal.specs.Faults.{clear}
use Rattle.text_tokens.specs.Tokens.{Lexeme, lex}
use Rattle.parse_spec.specs.Internal.Names.{NameStands}
use Rattle.parse_spec.specs.Readers.{got}
use Rattle.parse_spec.proofs.Names.{absent_stands, names_stand, text-gives}
use Rattle.parse_spec.proofs.Within.{Placed, absent-placed, names-placed, lex-within}
use Rattle.tra4_text.specs.Movement.{Movement}
use Rattle.tra4_text.specs.Grammar.{movement}
use Rattle.tra4_text.specs.Internal.Names.{NamedMovement}
use Rattle.tra4_text.proofs.Whole.{movement-gives}

-- in a text that passes the refusals 1 to 4
pub movement-names : (text : List ℕ) (m : Movement) (l : List Lexeme) → text_fault tra text ≡ clear → movement (lex text) ≡ got m l → NamedMovement (NameStands text) m
movement-names text m l c e = (text-gives tra text c (movement-gives (NameStands text) (absent_stands text) (names_stand text)) m l e).1

-- in any text their places and lengths are at most its length
pub movement-placed : (text : List ℕ) (m : Movement) (l : List Lexeme) → movement (lex text) ≡ got m l → NamedMovement (Placed (length text)) m
movement-placed text m l e = ((movement-gives (Placed (length text)) (absent-placed (length text)) (names-placed (length text))).each (lex text) m l (lex-within text) e).0.1
