-- A blank is of its own class, and no letter: by the tests of the class in order.
use mathlib.Core.Path.{◌≡◌, refl, sym, ◌∙◌}
use mathlib.Core.Bool.{Bool, true, false, false≢true}
use Prim.Native.Nat.{ℕ}
use Rattle.text_bytes.specs.Bytes.{blank, class_of, is_blank, is_letter}
use Rattle.text_check.proofs.Strings.{letter_parts}

pub blank_class : (b : ℕ) → is_blank b ≡ true → class_of b ≡ blank
unfolding class_of
blank_class b e = rw e

pub blank-letter : (b : ℕ) → is_blank b ≡ true → is_letter b ≡ false
blank-letter b e = go (is_letter b) refl
  where
    go : (v : Bool) → is_letter b ≡ v → is_letter b ≡ false
    go true o = absurd (false≢true (sym (letter_parts b o).0 ∙ e))
    go false o = o
