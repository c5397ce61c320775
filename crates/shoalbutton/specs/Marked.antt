-- Document 01's cases marked ● ("Both sides of each line"), one list: what the rules say of each, and what 01 says.
use Rattle.std.specs.Prelude.{List, [], ◌∷◌, ℕ, ℤ, pos, negsuc}
use Prim.Native.String.{String}
use Rattle.text_bytes.specs.Bytes.{bytes}
use Rattle.text_numerals.specs.Numbers.{Number, value, beyond, wrong, Form, INT, FLOAT, number_of, refusal_of}
use Rattle.refusal.specs.Faults.{Fault, clear, fault}
use Rattle.bac6_text.specs.Rules.{Flags, bones_fault, whole_list, parents_in}
use Rattle.tra4_text.specs.Movement.{Channel}
use Rattle.player_spec.specs.Fractions.{Fraction}
use Rattle.player_spec.specs.Samples.{sample_of}

-- a word where a number of a form is wanted; the child and brother flags of bones; the keys of roll by frame and word, and a frame
pub data Case : Type 0 where
  word : Form → String → Case
  bones : List Flags → Case
  keys : List (ℕ × String) → ℕ → Case

-- a number taken, a refusal's number, a refusal's number and row, the parents, or a sample
pub data Says : Type 0 where
  taken : ℤ → Says
  refused : ℕ → Says
  refused_at : ℕ → ℕ → Says
  parents : List ℤ → Says
  sample : ℤ → ℕ → Says

unfoldable pub says_number : Number → Says
says_number (value z) = taken z
says_number beyond = refused (refusal_of beyond)
says_number wrong = refused (refusal_of wrong)

unfoldable pub says_bones : Fault → List ℤ → Says
says_bones clear ps = parents ps
says_bones (fault n p) ps = refused_at n p

unfoldable pub value_of : Number → ℤ
value_of (value z) = z
value_of beyond = pos 0
value_of wrong = pos 0

unfoldable pub channel : List (ℕ × String) → Channel
channel [] = []
channel ((f, w) ∷ ks) = (pos f ∷ value_of (number_of FLOAT (bytes w)) ∷ []) ∷ channel ks

unfoldable pub says_sample : Fraction → Says
says_sample r = sample r.numerator r.denominator

-- by the rules themselves
unfoldable pub ruled : Case → Says
ruled (word f w) = says_number (number_of f (bytes w))
ruled (bones fs) = says_bones (bones_fault fs) (parents_in (whole_list fs))
ruled (keys ks at) = says_sample (sample_of 9 (channel ks) at)

abbrev pub T : ℤ
T = pos 1

abbrev pub F : ℤ
F = pos 0

abbrev pub marked : List (Case × Says)
marked =
    (word FLOAT "9999999.999999", taken (pos 9999999999999))
    ∷ (word FLOAT "10000000", refused 6)
    ∷ (word FLOAT "0.0000001", refused 6)
    ∷ (word FLOAT ".5", refused 5)
    ∷ (word INT "2147483648", refused 6)
    ∷ (bones ((T, F) ∷ (F, T) ∷ (F, F) ∷ []), parents (negsuc 0 ∷ pos 0 ∷ pos 0 ∷ []))
    ∷ (bones ((T, T) ∷ (F, F) ∷ (F, F) ∷ []), parents (negsuc 0 ∷ pos 0 ∷ negsuc 0 ∷ []))
    ∷ (bones ((T, F) ∷ []), refused_at 10 1)
    ∷ (bones ((F, F) ∷ (F, F) ∷ []), refused_at 10 1)
    ∷ (keys ((0, "0") ∷ (3, "-0.000001") ∷ []) 1, sample (negsuc 0) 3)
    ∷ (keys ((0, "0") ∷ (3, "46.406628") ∷ (6, "132.590363") ∷ []) 4, sample (pos 225403619) 3)
    ∷ []
