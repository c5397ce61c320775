-- Where a walk over bytes is between two words, and whether bytes have no fault, by the runs that `tokens` goes by.
use Rattle.std.specs.Prelude.{◌≡◌, List, [], ◌∷◌, Bool, true, false, ◌&&◌, ℕ, zero, suc, ◌+◌, leb, ltb, length}
use Rattle.text_bytes.specs.Bytes.{Class, blank, opener, closer, quote, semicolon, letter, other, class_of, is_letter, in_line, in_string, is_content}
use Rattle.text_runs.specs.Runs.{run}
use Rattle.refusal.specs.FirstBad.{all}

-- how many of the bytes after one of a class belong to it
unfoldable pub taken : Class → List ℕ → ℕ
taken blank bs = 0
taken opener bs = 0
taken closer bs = 0
taken quote bs = suc (length (run in_string bs))
taken semicolon bs = length (run in_line bs)
taken letter bs = length (run is_letter bs)
taken other bs = 0

-- whether they are no comment
unfoldable pub no_comment : Class → Bool
no_comment blank = true
no_comment opener = true
no_comment closer = true
no_comment quote = true
no_comment semicolon = false
no_comment letter = true
no_comment other = true

-- a word's end stands n bytes on, where the next k bytes belong to what stands before them; w: that is no comment
unfoldable pub Cut : ℕ → Bool → ℕ → List ℕ → Type 0
Cut k w zero bs = (k ≡ 0) × (w ≡ true)
Cut k w (suc n) [] = ⊥
Cut (suc k) w (suc n) (b ∷ bs) = Cut k w n bs
Cut zero w (suc n) (b ∷ bs) = Cut (taken (class_of b) bs) (no_comment (class_of b)) n bs

-- the bytes rs after n others make a string, which ends before bs does
unfoldable pub is_string : ℕ → List ℕ → List ℕ → Bool
is_string n rs bs = ltb (length rs) (length bs) && (leb (n + length rs) 255 && all is_content rs)

-- no fault of a byte of a class, before bytes bs
unfoldable pub fine : Class → List ℕ → Bool
fine blank bs = true
fine opener bs = true
fine closer bs = true
fine quote bs = is_string 0 (run in_string bs) bs
fine semicolon bs = true
fine letter bs = true
fine other bs = false

-- no fault 3 or 4 in bytes of which the first k belong to what stands before them
unfoldable pub sound : ℕ → List ℕ → Bool
sound k [] = true
sound (suc k) (b ∷ bs) = sound k bs
sound zero (b ∷ bs) = fine (class_of b) bs && sound (taken (class_of b) bs) bs
