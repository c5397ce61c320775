-- Bytes put in at a cut leave the run that stands before it: by induction on the bytes, and on the cut.
use mathlib.Core.Path.{◌≡◌, refl, ap, sym, ◌∙◌}
use mathlib.Core.List.{List, [], ◌∷◌, ◌++◌}
use mathlib.Core.Bool.{Bool, true, false, false≢true}
use Prim.Native.Nat.{ℕ, zero, suc, ◌≤◌, ◌<◌}
use native.Mathlib.Omega.{arith}
use lib.ListN.{length, take, drop}
use Rattle.text_bytes.specs.Bytes.{Class, quote, semicolon, letter, class_of, is_letter, in_line, in_string}
use Rattle.text_runs.specs.Runs.{run}
use Rattle.text_runs.proofs.Runs.{run_yes, run_no}
use Rattle.text_notes.specs.Internal.Cuts.{taken, no_comment, Cut}
use Rattle.text_notes.proofs.Gaps.{none_in}

-- a cut after a byte of a class
abbrev pub CutAfter : Class → ℕ → List ℕ → Type 0
CutAfter c n bs = Cut (taken c bs) (no_comment c) n bs

-- all that belongs to what stands before stands before the cut
pub cut_most : (k : ℕ) (w : Bool) (n : ℕ) (bs : List ℕ) → Cut k w n bs → k ≤ n
unfolding Cut
cut_most k w zero bs h = omega (arith, h.0)
cut_most k w (suc n) [] h = absurd h
cut_most zero w (suc n) (b ∷ bs) h = omega arith
cut_most (suc k) w (suc n) (b ∷ bs) h = omega (arith, cut_most k w n bs h)

-- and more than a comment
cut-comment : (k n : ℕ) (bs : List ℕ) → Cut k false n bs → k < n
unfolding Cut
cut-comment k zero bs h = absurd (false≢true h.1)
cut-comment k (suc n) [] h = absurd h
cut-comment zero (suc n) (b ∷ bs) h = omega arith
cut-comment (suc k) (suc n) (b ∷ bs) h = omega (arith, cut-comment k n bs h)

pub cut-within : (k : ℕ) (w : Bool) (n : ℕ) (bs : List ℕ) → Cut k w n bs → n ≤ length bs
unfolding Cut
cut-within k w zero bs h = omega arith
cut-within k w (suc n) [] h = absurd h
cut-within (suc k) w (suc n) (b ∷ bs) h = omega (arith, cut-within k w n bs h)
cut-within zero w (suc n) (b ∷ bs) h = omega (arith, cut-within (taken (class_of b) bs) (no_comment (class_of b)) n bs h)

-- ---- runs

-- bytes that do not go on with a run
abbrev pub Halts : (ℕ → Bool) → List ℕ → Type 0
Halts t [] = ⊥
Halts t (b ∷ bs) = t b ≡ false

-- a run that ends before the cut, or at it where the gap does not go on with it
run_stays : (t : ℕ → Bool) (n : ℕ) (gap bs : List ℕ) → length (run t bs) ≤ n → (length (run t bs) ≡ n → Halts t gap) → n ≤ length bs → run t (take n bs ++ (gap ++ drop n bs)) ≡ run t bs
run_stays t zero gap bs h s l = let e : length (run t bs) ≡ 0 = omega arith in halted gap (s e) ∙ sym (none_in (run t bs) e)
  where
    halted : (g : List ℕ) → Halts t g → run t (g ++ bs) ≡ []
    halted [] i = absurd i
    halted (c ∷ g) i = run_no t c (g ++ bs) i
run_stays t (suc n) gap [] h s l = absurd (omega arith)
run_stays t (suc n) gap (b ∷ bs) h s l = go (t b) refl (run_stays t n gap bs)
  where
    go : (v : Bool) → t b ≡ v → (length (run t bs) ≤ n → (length (run t bs) ≡ n → Halts t gap) → n ≤ length bs → run t (take n bs ++ (gap ++ drop n bs)) ≡ run t bs) → run t (b ∷ (take n bs ++ (gap ++ drop n bs))) ≡ run t (b ∷ bs)
    go true e ih =
        let q = ap length (run_yes t b bs e) in
        run_yes t b _ e ∙ ap (λ (l : List ℕ). b ∷ l) (ih (omega arith) (λ i. s (omega arith)) (omega arith)) ∙ sym (run_yes t b bs e)
    go false e ih = run_no t b _ e ∙ sym (run_no t b bs e)

-- by what the cut stands after
module _ (gap bs : List ℕ) (n : ℕ) where
  pub string_stays : CutAfter quote n bs → run in_string (take n bs ++ (gap ++ drop n bs)) ≡ run in_string bs
  unfolding taken
  string_stays h = let m = cut_most _ _ n bs h in run_stays in_string n gap bs (omega arith) (λ e. absurd (omega arith)) (cut-within _ _ n bs h)

  pub comment_stays : CutAfter semicolon n bs → run in_line (take n bs ++ (gap ++ drop n bs)) ≡ run in_line bs
  unfolding taken no_comment
  comment_stays h = let m = cut-comment _ n bs h in run_stays in_line n gap bs (omega arith) (λ e. absurd (omega arith)) (cut-within _ _ n bs h)

  pub word_stays : Halts is_letter gap → CutAfter letter n bs → run is_letter (take n bs ++ (gap ++ drop n bs)) ≡ run is_letter bs
  unfolding taken
  word_stays s h = run_stays is_letter n gap bs (cut_most _ _ n bs h) (λ e. s) (cut-within _ _ n bs h)
