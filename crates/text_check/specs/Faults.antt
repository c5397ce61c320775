-- The faults 1 to 4 of a text, in document 01's order.
use Rattle.std.specs.Prelude.{List, [], ◌∷◌, Bool, true, false, ℕ, suc, leb, ltb, eqb, length, take, drop}
use Rattle.text_bytes.specs.Bytes.{blank, opener, closer, quote, semicolon, letter, other, class_of, is_blank, is_content, bytes}
use Rattle.text_runs.specs.Runs.{same}
use Rattle.refusal.specs.Faults.{Fault, clear, fault}

-- where a byte stands: outside strings and comments, in a comment, or in the string whose quote stands at an offset, after so many bytes of it
pub data Within : Type 0 where
  outside comment : Within
  string : ℕ → ℕ → Within

-- the first fault 3 or 4 of the bytes that stand at offset p
unfoldable pub fault_in : Within → ℕ → List ℕ → Fault
fault_in outside p [] = clear
fault_in comment p [] = clear
fault_in (string q n) p [] = fault 4 q
fault_in outside p (b ∷ bs) =
    elim (class_of b) [
      | blank ↦ fault_in outside (suc p) bs
      | opener ↦ fault_in outside (suc p) bs
      | closer ↦ fault_in outside (suc p) bs
      | quote ↦ fault_in (string p 0) (suc p) bs
      | semicolon ↦ fault_in comment (suc p) bs
      | letter ↦ fault_in outside (suc p) bs
      | other ↦ fault 3 p
    ]
fault_in comment p (b ∷ bs) = elim (eqb b 10) [ true ↦ fault_in outside (suc p) bs | false ↦ fault_in comment (suc p) bs ]
fault_in (string q n) p (b ∷ bs) =
    elim (eqb b 34) [
      | true ↦ fault_in outside (suc p) bs
      | false ↦ elim (ltb n 255) [
        | true ↦ elim (is_content b) [ true ↦ fault_in (string q (suc n)) (suc p) bs | false ↦ fault 3 p ]
        | false ↦ fault 4 q
      ]
    ]

-- the two formats, by the first four bytes of their texts
pub data Format : Type 0 where
  bac tra : Format

unfoldable pub mark_of : Format → List ℕ
mark_of bac = bytes ";BAC"
mark_of tra = bytes ";TRA"

unfoldable pub blank_or_end : List ℕ → Bool
blank_or_end [] = true
blank_or_end (b ∷ bs) = is_blank b

-- a mark of four bytes, and then a blank or the text's end
unfoldable pub begins : List ℕ → List ℕ → Bool
begins mark text = elim (same (take 4 text) mark) [ true ↦ blank_or_end (drop 4 text) | false ↦ false ]

unfoldable pub marked : Format → List ℕ → Bool
marked f text = begins (mark_of f) text

unfoldable pub text_fault : Format → List ℕ → Fault
text_fault f text =
    elim (leb (length text) 65536) [
      | true ↦ elim (marked f text) [ true ↦ fault_in outside 0 text | false ↦ fault 2 0 ]
      | false ↦ fault 1 0
    ]
