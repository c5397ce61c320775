-- Every name of a figure stands in the figure's text, by the walk over the grammar with what the text's strings are.
use mathlib.Core.Path.{◌≡◌}
use mathlib.Core.List.{List}
use Prim.Native.Nat.{ℕ}
use lib.ListN.{length}
use Rattle.text_check.specs.Faults.{bac, text_fault}
use Rattle.refusal.specs.Faults.{clear}
use Rattle.text_tokens.specs.Tokens.{Lexeme, lex}
use Rattle.parse_spec.specs.Internal.Names.{NameStands}
use Rattle.parse_spec.specs.Readers.{got}
use Rattle.parse_spec.proofs.Names.{absent_stands, names_stand, text-gives}
use Rattle.parse_spec.proofs.Within.{Placed, absent-placed, names-placed, lex-within}
use Rattle.bac6_text.specs.Figure.{Figure}
use Rattle.bac6_text.specs.Grammar.{figure}
use Rattle.bac6_text.specs.Internal.Names.{NamedFigure}
use Rattle.bac6_text.proofs.Whole.{figure-gives}

-- in a text that passes the refusals 1 to 4
pub figure-names : (text : List ℕ) (f : Figure) (l : List Lexeme) → text_fault bac text ≡ clear → figure (lex text) ≡ got f l → NamedFigure (NameStands text) f
figure-names text f l c e = (text-gives bac text c (figure-gives (NameStands text) (absent_stands text) (names_stand text)) f l e).1

-- in any text their places and lengths are at most its length
pub figure-placed : (text : List ℕ) (f : Figure) (l : List Lexeme) → figure (lex text) ≡ got f l → NamedFigure (Placed (length text)) f
figure-placed text f l e = ((figure-gives (Placed (length text)) (absent-placed (length text)) (names-placed (length text))).each (lex text) f l (lex-within text) e).0.1
