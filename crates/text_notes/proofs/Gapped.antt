-- A gap put directly after a word moves the tokens that stand after it, and changes none: the word's end is a cut of the text.
use mathlib.Core.Path.{◌≡◌, sym, ◌∙◌}
use mathlib.Core.List.{List, [], ◌∷◌}
use mathlib.Core.Bool.{true}
use Prim.Native.Nat.{ℕ, suc, ◌<◌}
use native.Mathlib.Nat.{zero-add}
use lib.ListN.{length, take-append-drop}
use Rattle.text_tokens.specs.Tokens.{lex}
use Rattle.refusal.specs.Faults.{clear}
use Rattle.refusal.proofs.Faults.{is-clear}
use Rattle.text_check.specs.Faults.{Format, text_fault}
use Rattle.text_check.proofs.Strings.{passes-bytes}
use Rattle.text_notes.specs.Notes.{is_gap, end_of, with_gap, moved, shifted}
use Rattle.text_notes.specs.Internal.Cuts.{Cut, sound}
use Rattle.text_notes.proofs.Gaps.{gap-letter}
use Rattle.text_notes.proofs.Moves.{moved_none}
use Rattle.text_notes.proofs.Inserted.{tokens_put}
use Rattle.text_notes.proofs.Sounds.{clear-sound}
use Rattle.text_notes.proofs.WordEnds.{cut_at}

-- no bytes put in
pub gap_none : (text : List ℕ) (at : ℕ) → with_gap text at [] ≡ text
unfolding with_gap
gap_none text at = take-append-drop at text

pub text-sound : (f : Format) (text : List ℕ) → text_fault f text ≡ clear → sound 0 text ≡ true
text-sound f text e = sym (clear-sound 0 0 text) ∙ sym (is-clear (passes-bytes f text e))

-- the end of a word is a cut
pub word_cut : (f : Format) (text : List ℕ) (i : ℕ) → text_fault f text ≡ clear → suc i < length (lex text) → Cut 0 true (end_of (lex text) i) text
unfolding lex
word_cut f text i e l =
    let r = cut_at 0 0 true text i (text-sound f text e) l in
    rw (← r.is, zero-add) r.cut

put_moved : (text : List ℕ) (n b : ℕ) (gap : List ℕ) → Cut 0 true n text → is_gap (b ∷ gap) ≡ true → lex (with_gap text n (b ∷ gap)) ≡ moved (shifted n (suc (length gap))) (lex text)
unfolding lex with_gap
put_moved text n b gap c h = tokens_put (b ∷ gap) h (gap-letter b gap h) 0 true n 0 text c ∙ rw zero-add

pub gap-moved : (f : Format) (text : List ℕ) (i : ℕ) (gap : List ℕ) → text_fault f text ≡ clear → suc i < length (lex text) → is_gap gap ≡ true → lex (with_gap text (end_of (lex text) i) gap) ≡ moved (shifted (end_of (lex text) i) (length gap)) (lex text)
gap-moved f text i [] e l h = rw gap_none (sym (moved_none (end_of (lex text) i) (lex text)))
gap-moved f text i (b ∷ gap) e l h = put_moved text (end_of (lex text) i) b gap (word_cut f text i e l) h
