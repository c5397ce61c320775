-- A text with notes passes where the text does, and has its tokens: by induction on the notes, each put into a text that has as many tokens.
use mathlib.Core.Path.{◌≡◌, refl, ap, sym, ◌∙◌}
use mathlib.Core.List.{List, [], ◌∷◌, ◌++◌}
use mathlib.Core.Bool.{true}
use Prim.Native.Nat.{ℕ, suc, ◌≤◌}
use native.Mathlib.Nat.{le_refl, le_trans}
use native.Mathlib.Omega.{arith}
use borrow.Author.Tests.{ltb-true}
use lib.Dec.{ltb}
use lib.ListN.{length, length-append, length-take, length-drop}
use Rattle.text_tokens.specs.Tokens.{Token, Lexeme, lexeme, lex}
use Rattle.refusal.specs.Faults.{clear}
use Rattle.refusal.specs.FirstBad.{all}
use Rattle.text_check.specs.Faults.{Format, text_fault}
use Rattle.text_numerals.proofs.Numerals.{and_true}
use Rattle.text_notes.specs.Notes.{is_gap, end_of, with_gap, Note, is_note, noted, annotated, Annotates, tokens_of, moved, shifted}
use Rattle.text_notes.proofs.Gapped.{gap-moved}
use Rattle.text_notes.proofs.GapFaults.{gap-clear}

-- ---- moved tokens

moved-tokens : (to : ℕ → ℕ) (ms : List Lexeme) → tokens_of (moved to ms) ≡ tokens_of ms
unfolding tokens_of moved lexeme
moved-tokens to [] = refl
moved-tokens to (m ∷ ms) = ap (λ (ts : List Token). m.token ∷ ts) (moved-tokens to ms)

tokens-length : (ms : List Lexeme) → length (tokens_of ms) ≡ length ms
unfolding tokens_of
tokens-length [] = refl
tokens-length (m ∷ ms) = ap suc (tokens-length ms)

-- the same tokens are as many
pub same_number_lem : (ms ns : List Lexeme) → tokens_of ms ≡ tokens_of ns → length ms ≡ length ns
same_number_lem ms ns e = sym (tokens-length ms) ∙ ap length e ∙ tokens-length ns

-- ---- a text is not made shorter

gap_longer : (text : List ℕ) (at : ℕ) (gap : List ℕ) → length text ≤ length (with_gap text at gap)
unfolding with_gap
gap_longer text at gap = simp (length-append, length-take, length-drop) (omega arith)

noted_longer : (n : Note) (text : List ℕ) → length text ≤ length (noted n text)
unfolding noted
noted_longer (i, gap) text = gap_longer text (end_of (lex text) i) gap

annotated_longer : (ns : List Note) (text : List ℕ) → length text ≤ length (annotated ns text)
unfolding annotated
annotated_longer [] text = le_refl _
annotated_longer (n ∷ ns) text = le_trans (noted_longer n text) (annotated_longer ns (noted n text))

-- ---- one note

notes_still : (ms ms' : List Lexeme) (ns : List Note) → length ms' ≡ length ms → all (is_note ms) ns ≡ all (is_note ms') ns
unfolding all is_note
notes_still ms ms' [] e = refl
notes_still ms ms' ((i, gap) ∷ ns) e = rw (e, notes_still ms ms' ns e)

module _ (f : Format) (text : List ℕ) (passes : text_fault f text ≡ clear) where
  noted-tokens : (n : Note) → is_note (lex text) n ≡ true → tokens_of (lex (noted n text)) ≡ tokens_of (lex text)
  unfolding is_note noted
  noted-tokens (i, gap) h =
      let q = and_true (ltb (suc i) (length (lex text))) (is_gap gap) h in
      ap tokens_of (gap-moved f text i gap passes (ltb-true (suc i) (length (lex text)) q.0) q.1) ∙ moved-tokens (shifted (end_of (lex text) i) (length gap)) (lex text)

  noted-clear : (n : Note) → is_note (lex text) n ≡ true → length (noted n text) ≤ 65536 → text_fault f (noted n text) ≡ clear
  unfolding is_note noted
  noted-clear (i, gap) h m =
      let q = and_true (ltb (suc i) (length (lex text))) (is_gap gap) h in
      gap-clear f text i gap passes (ltb-true (suc i) (length (lex text)) q.0) q.1 m

-- ---- all of them

record Kept (f : Format) (text after : List ℕ) : Type 0 where
  clears : text_fault f after ≡ clear
  tokens : tokens_of (lex after) ≡ tokens_of (lex text)

all-kept : (f : Format) (ns : List Note) (text : List ℕ) → text_fault f text ≡ clear → all (is_note (lex text)) ns ≡ true → length (annotated ns text) ≤ 65536 → Kept f text (annotated ns text)
unfolding annotated all
all-kept f [] text e h m = record { clears = e; tokens = refl }
all-kept f (n ∷ ns) text e h m =
    let q = and_true (is_note (lex text) n) (all (is_note (lex text)) ns) h in
    let t = noted-tokens f text e n q.0 in
    let r = all-kept f ns (noted n text) (noted-clear f text e n q.0 (le_trans (annotated_longer ns (noted n text)) m)) (sym (notes_still (lex text) (lex (noted n text)) ns (same_number_lem (lex (noted n text)) (lex text) t)) ∙ q.1) m in
    record { clears = r.clears; tokens = r.tokens ∙ t }

module _ {f : Format} {text text' : List ℕ} (a : Annotates f text text') where
  kept : Kept f text text'
  kept = rw (← a.made) (all-kept f a.notes text a.passes a.sound (rw a.made a.most))

  pub annotated-clear : text_fault f text' ≡ clear
  annotated-clear = kept.clears

  pub annotated-tokens : tokens_of (lex text') ≡ tokens_of (lex text)
  annotated-tokens = kept.tokens

-- ---- notes once more

annotated_both : (ns ms : List Note) (text : List ℕ) → annotated (ns ++ ms) text ≡ annotated ms (annotated ns text)
unfolding annotated
annotated_both [] ms text = refl
annotated_both (n ∷ ns) ms text = annotated_both ns ms (noted n text)

all_both : (ts : List Lexeme) (ns ms : List Note) → all (is_note ts) ns ≡ true → all (is_note ts) ms ≡ true → all (is_note ts) (ns ++ ms) ≡ true
unfolding all
all_both ts [] ms h k = k
all_both ts (n ∷ ns) ms h k = let q = and_true (is_note ts n) (all (is_note ts) ns) h in rw (q.0, all_both ts ns ms q.1 k)

pub annotates_again : {f : Format} {text text' last : List ℕ} → Annotates f text text' → Annotates f text' last → Annotates f text last
annotates_again {f} {text} {text'} a b =
    record {
      passes = a.passes;
      notes = a.notes ++ b.notes;
      sound = all_both (lex text) a.notes b.notes a.sound (notes_still (lex text) (lex text') b.notes (same_number_lem (lex text') (lex text) (annotated-tokens a)) ∙ b.sound);
      made = annotated_both a.notes b.notes text ∙ ap (annotated b.notes) a.made ∙ b.made;
      most = b.most;
    }
