-- A value and its closing bracket, by the reader of the value.
use mathlib.Core.Path.{◌≡◌, ap, sym, ◌∙◌}
use mathlib.Core.List.{List}
use Prim.Native.Nat.{ℕ}
use Prim.Native.String.{String}
use lib.IntN.{ℤ}
use lib.ListN.{length}
use Rattle.parse_spec.specs.Readers.{Got, Reader, closed}
use Rattle.parse_words.specs.Internal.Words.{words, word_in}
use Rattle.parse_cursor.specs.Internal.Cursors.{Cursor, from}
use Rattle.parse_cursor.proofs.Steps.{from-bind, from-same}
use Rattle.parse_words.proofs.Vocabulary.{word_list, one_word}
use Rattle.bac6_text.specs.Grammar.{word}
use Rattle.bac6_materials.specs.Internal.Closing.{close_with, then_closed}

-- a reader and the closing bracket after it
pub close_join : {A : Type 0} (text : List ℕ) (c : Cursor) (s : Reader A) {g x : Got A} → g ≡ from text c s → x ≡ then_closed g → x ≡ from text c (closed s)
unfolding close_with closed
close_join {A} text c s p q = q ∙ ap (λ (y : Got A). then_closed y) p ∙ sym (from-bind text close_with c s)

-- the same for a word of a list
pub close_word : (text : List ℕ) (c : Cursor) (ks : List String) (list : List ℕ) {g x : Got ℤ} → words list ≡ word_list ks → g ≡ from text c (word_in list (length ks)) → x ≡ then_closed g → x ≡ from text c (closed (word ks))
unfolding word
close_word text c ks list e p q = close_join text c (word ks) (p ∙ sym (from-same text c (word ks) (word_in list (length ks)) (λ ms. one_word ks list ms e))) q
