-- `part` is the definition, by whether each offset is past the text's end or the other offset.
use Rattle.std.proofs.Common.{◌≡◌, ℕ, Bool, true, false, List, length, refl, sym, ◌∙◌, arith}
use Prim.Native.Nat.{min}
use lib.Dec.{leb}
use borrow.Author.Tests.{leb-true, leb-false}
use Rattle.text_runs.specs.Runs.{part}
use Rattle.text_runs.proofs.Parts.{part_none, part_past, part-rest}
use Rattle.text_parts.proofs.slice.part.Goals as goal

clamped : (text : List ℕ) (start end s e : ℕ) → e ≡ min end (length text) → s ≡ min start e → part text s e ≡ part text start end
clamped text start end s e p q = go (leb end start) refl (leb (length text) start) refl (leb (length text) end) refl
  where
    go : (u : Bool) → leb end start ≡ u → (v : Bool) → leb (length text) start ≡ v → (w : Bool) → leb (length text) end ≡ w → part text s e ≡ part text start end
    go true i v j w k = part_none text s e (omega (arith, leb-true _ _ i)) ∙ sym (part_none text start end (leb-true _ _ i))
    go false i true j w k = part_none text s e (omega (arith, leb-true _ _ j)) ∙ sym (part_past text start end (leb-true _ _ j))
    go false i false j true k =
        let h : s ≡ start = omega (arith, leb-false _ _ i, leb-false _ _ j) in
        let g : e ≡ length text = omega (arith, leb-true _ _ k) in
        rw (h, g) (sym (part-rest text start end (leb-true _ _ k)))
    go false i false j false k =
        let h : s ≡ start = omega (arith, leb-false _ _ i, leb-false _ _ j) in
        let g : e ≡ end = omega (arith, leb-false _ _ k) in
        rw (h, g) refl

pub returns : goal.returns
unfolding part
returns c = clamped c.args.text.now c.args.start c.args.end c.min.result c.min-end.result c.min-end.ensures c.min.ensures
