-- A gap put directly after a word makes no fault: the mark stands before every word's end, and a cut leaves what is sound sound.
use mathlib.Core.Path.{◌≡◌, refl, ap, sym, subst, ◌∙◌}
use mathlib.Core.List.{List, [], ◌∷◌, ◌++◌}
use mathlib.Core.Bool.{Bool, true, false, false≢true}
use Prim.Native.Nat.{ℕ, suc, ◌≤◌, ◌<◌}
use native.Mathlib.Omega.{arith}
use borrow.Author.Tests.{le-leb}
use lib.ListN.{length, take, drop, get_or, length-append, length-take, take-append-drop, get_or-append}
use lib.Seq.{take-append-le, take-take, get_or-take, length-take-le}
use Rattle.text_bytes.specs.Bytes.{bytes, class_of, is_blank, in_line}
use Rattle.text_runs.specs.Runs.{run, same}
use Rattle.text_tokens.specs.Tokens.{tokens, lex}
use Rattle.refusal.specs.Faults.{clear}
use Rattle.refusal.proofs.Faults.{clear_true}
use Rattle.text_check.specs.Faults.{outside, fault_in, Format, bac, tra, mark_of, begins, marked, text_fault}
use Rattle.text_check.proofs.Scanning.{mark_no, mark_byte}
use Rattle.text_check.proofs.Strings.{text-passes}
use Rattle.text_runs.proofs.Parts.{same_true}
use Rattle.text_notes.specs.Notes.{is_gap, end_of, with_gap}
use Rattle.text_notes.specs.Internal.Cuts.{taken, Cut, fine, sound}
use Rattle.text_notes.proofs.Gaps.{gap-letter}
use Rattle.text_notes.proofs.Cutting.{cut-within}
use Rattle.text_notes.proofs.Inserted.{sound_put}
use Rattle.text_notes.proofs.Sounds.{clear-sound}
use Rattle.text_notes.proofs.WordEnds.{cut_at}
use Rattle.text_notes.proofs.Gapped.{gap_none, text-sound, word_cut}

-- ---- the mark

mark_stands : (mark text : List ℕ) → begins mark text ≡ true → same (take 4 text) mark ≡ true
mark_stands mark text e = go (same (take 4 text) mark) refl
  where
    go : (v : Bool) → same (take 4 text) mark ≡ v → same (take 4 text) mark ≡ true
    go true o = o
    go false o = absurd (false≢true (sym (mark_no mark text o) ∙ e))

-- no word ends before the mark and the byte after it
after_mark : (f : Format) (rest : List ℕ) (i : ℕ) → sound 0 (mark_of f ++ rest) ≡ true → suc i < length (lex (mark_of f ++ rest)) → 4 < end_of (lex (mark_of f ++ rest)) i
unfolding mark_of bytes lex tokens taken fine sound class_of is_blank run in_line
after_mark bac rest i s l = let r = cut_at (length (run in_line rest)) 4 false rest i s l in omega (arith, r.is)
after_mark tra rest i s l = let r = cut_at (length (run in_line rest)) 4 false rest i s l in omega (arith, r.is)

late : (f : Format) (text : List ℕ) (i : ℕ) → marked f text ≡ true → sound 0 text ≡ true → suc i < length (lex text) → 4 < end_of (lex text) i
unfolding marked
late f text i m = subst (λ (t : List ℕ). sound 0 t ≡ true → suc i < length (lex t) → 4 < end_of (lex t) i) is (after_mark f (drop 4 text) i)
  where
    is : mark_of f ++ drop 4 text ≡ text
    is = rw (← same_true (take 4 text) (mark_of f) (mark_stands (mark_of f) text m)) (take-append-drop 4 text)

-- bytes put in after them leave both
module _ (text gap : List ℕ) (at : ℕ) (h : 4 < at) (l : at ≤ length text) where
  first_four : take 4 (with_gap text at gap) ≡ take 4 text
  unfolding with_gap
  first_four = take-append-le 4 (take at text) (gap ++ drop at text) (rw (length-take-le at text l) (omega arith)) ∙ take-take 4 at text (omega arith)

  byte_after : get_or (with_gap text at gap) 4 0 ≡ get_or text 4 0
  unfolding with_gap
  byte_after = get_or-append (take at text) (gap ++ drop at text) 0 4 (rw (length-take-le at text l) h) ∙ get_or-take at text 4 0 h

  longer : 4 < length (with_gap text at gap)
  unfolding with_gap
  longer = simp (length-append, length-take) (omega arith)

  begins_still : (mark : List ℕ) → begins mark text ≡ true → begins mark (with_gap text at gap) ≡ true
  begins_still mark e =
      let s = mark_stands mark text e in
      mark_byte mark (with_gap text at gap) (rw first_four s) longer ∙ ap is_blank byte_after ∙ sym (mark_byte mark text s (omega arith)) ∙ e

-- ---- the rest

put_sound : (text : List ℕ) (n : ℕ) (gap : List ℕ) → Cut 0 true n text → is_gap gap ≡ true → sound 0 (with_gap text n gap) ≡ sound 0 text
unfolding with_gap
put_sound text n [] c h = rw gap_none
put_sound text n (b ∷ gap) c h = sound_put (b ∷ gap) h (gap-letter b gap h) 0 true n text c

clear_by : (f : Format) (text : List ℕ) → length text ≤ 65536 → marked f text ≡ true → sound 0 text ≡ true → text_fault f text ≡ clear
unfolding text_fault
clear_by f text l m s = rw (le-leb (length text) 65536 l, m, text_fault) (clear_true (fault_in outside 0 text) (clear-sound 0 0 text ∙ s))

pub gap-clear : (f : Format) (text : List ℕ) (i : ℕ) (gap : List ℕ) → text_fault f text ≡ clear → suc i < length (lex text) → is_gap gap ≡ true → length (with_gap text (end_of (lex text) i) gap) ≤ 65536 → text_fault f (with_gap text (end_of (lex text) i) gap) ≡ clear
unfolding marked
gap-clear f text i gap e l h m =
    let s = text-sound f text e in
    let k = (text-passes f text e).1 in
    let c = word_cut f text i e l in
    clear_by f (with_gap text (end_of (lex text) i) gap) m
    (begins_still text gap (end_of (lex text) i) (late f text i k s l) (cut-within 0 true (end_of (lex text) i) text c) (mark_of f) k)
    (put_sound text (end_of (lex text) i) gap c h ∙ s)
