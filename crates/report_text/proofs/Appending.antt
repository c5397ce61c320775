-- Laws of bytes put into a buffer: whether they fit, and one piece after another.
use mathlib.Core.Path.{◌≡◌, refl, ap, sym, ◌∙◌}
use mathlib.Core.List.{List, ◌++◌, append_assoc}
use mathlib.Core.Bool.{Bool, true, false}
use Prim.Native.Nat.{ℕ, ◌+◌, ◌≤◌, ◌<◌}
use native.Mathlib.Nat.{add_assoc}
use native.Mathlib.Omega.{arith}
use borrow.Author.Tests.{le-leb, lt-leb, leb-true, leb-false}
use lib.Dec.{leb}
use lib.ListN.{length, take, drop, length-append, length-drop}
use lib.Seq.{take_at, drop_at, drop-drop, length-take-le}
use Rattle.report_text.specs.Output.{Output, output, appended}

module _ (n : ℕ) (buf bs : List ℕ) where
  -- the buffer with the bytes in it
  abbrev pub filled : List ℕ
  filled = take n buf ++ bs ++ drop (n + length bs) buf

  pub put : n + length bs ≤ length buf → appended (output n buf) bs ≡ output (n + length bs) filled
  unfolding appended
  put h = rw (le-leb _ _ h, appended)

  pub kept : length buf < n + length bs → appended (output n buf) bs ≡ output n buf
  unfolding appended
  kept h = rw (lt-leb _ _ h, appended)

  head-length : n + length bs ≤ length buf → length (take n buf ++ bs) ≡ n + length bs
  head-length h = length-append (take n buf) bs ∙ ap (λ (k : ℕ). k + length bs) (length-take-le n buf (omega arith))

  pub filled-length : n + length bs ≤ length buf → length filled ≡ length buf
  filled-length h = omega (arith, length-append (take n buf ++ bs) (drop (n + length bs) buf), head-length h, length-drop (n + length bs) buf)

  filled-take : n + length bs ≤ length buf → take (n + length bs) filled ≡ take n buf ++ bs
  filled-take h = take_at (take n buf ++ bs) _ (n + length bs) (head-length h)

  filled-drop : n + length bs ≤ length buf → drop (n + length bs) filled ≡ drop (n + length bs) buf
  filled-drop h = drop_at (take n buf ++ bs) _ (n + length bs) (head-length h)

-- what a test for the room of w bytes says
module _ (n w : ℕ) (buf bs : List ℕ) {v : Bool} (e : w ≡ length bs) (t : v ≡ leb (n + w) (length buf)) where
  pub no_room : v ≡ false → output n buf ≡ appended (output n buf) bs
  no_room h =
      let l : length buf < n + w = leb-false _ _ (sym t ∙ h) in
      sym (kept n buf bs (omega arith))

  pub has_room : v ≡ true → n + length bs ≤ length buf
  has_room h =
      let l : n + w ≤ length buf = leb-true _ _ (sym t ∙ h) in
      omega arith

-- the bytes copied over the k of the buffer after its first n
pub copied : (n k : ℕ) (buf bs : List ℕ) → k ≡ length bs → n + length bs ≤ length buf → output (n + length bs) (take n buf ++ (bs ++ drop k (drop n buf))) ≡ appended (output n buf) bs
copied n k buf bs e fits =
    let d : drop k (drop n buf) ≡ drop (n + length bs) buf = drop-drop k n buf ∙ ap (λ (m : ℕ). drop (n + m) buf) e in
    rw (d, ← append_assoc (take n buf) bs (drop (n + length bs) buf)) (sym (put n buf bs fits))

-- two pieces that fit together are one
filled_twice : (n : ℕ) (buf a b : List ℕ) → n + length (a ++ b) ≤ length buf → filled (n + length a) (filled n buf a) b ≡ filled n buf (a ++ b)
filled_twice n buf a b h =
    let l : length (a ++ b) ≡ length a + length b = length-append a b in
    let fits : n + length a ≤ length buf = omega arith in
    let d : drop (n + length a + length b) (filled n buf a) ≡ drop (n + length (a ++ b)) buf =
    sym (drop-drop (length b) (n + length a) (filled n buf a))
    ∙ ap (drop (length b)) (filled-drop n buf a fits)
    ∙ drop-drop (length b) (n + length a) buf
    ∙ ap (λ (k : ℕ). drop k buf) (add_assoc n (length a) (length b) ∙ ap (λ (k : ℕ). n + k) (sym l)) in
    rw (filled-take n buf a fits, d, append_assoc (take n buf) a b)

pub split : (n : ℕ) (buf a b : List ℕ) → n + length (a ++ b) ≤ length buf → appended (output n buf) (a ++ b) ≡ appended (appended (output n buf) a) b
split n buf a b h =
    let l : length (a ++ b) ≡ length a + length b = length-append a b in
    let fits : n + length a ≤ length buf = omega arith in
    let fits' : n + length a + length b ≤ length (filled n buf a) = omega (arith, filled-length n buf a fits) in
    let e : n + length (a ++ b) ≡ n + length a + length b = omega arith in
    put n buf (a ++ b) h
    ∙ rw (put n buf a fits, put (n + length a) (filled n buf a) b fits', filled_twice n buf a b h) (ap (λ (k : ℕ). output k (filled n buf (a ++ b))) e)

-- how many bytes are filled, how many there are, and those that are filled
abbrev pub count : Output → ℕ
count (output n buf) = n

abbrev pub size : Output → ℕ
size (output n buf) = length buf

abbrev content : Output → List ℕ
content (output n buf) = take n buf

-- one piece of several that fit: the others fit after it, and go there
module _ (n m : ℕ) (buf buf' a b : List ℕ) (h : n + length (a ++ b) ≤ length buf) (e : output m buf' ≡ appended (output n buf) a) where
  pub goes_on : appended (output n buf) (a ++ b) ≡ appended (output m buf') b
  goes_on = split n buf a b h ∙ ap (λ (o : Output). appended o b) (sym e)

  pub fits_on : m + length b ≤ length buf'
  fits_on =
      let l : length (a ++ b) ≡ length a + length b = length-append a b in
      let fits : n + length a ≤ length buf = omega arith in
      let o : output m buf' ≡ output (n + length a) (filled n buf a) = e ∙ put n buf a fits in
      let c : m ≡ n + length a = ap count o in
      let s : length buf' ≡ length (filled n buf a) = ap size o in
      omega (arith, filled-length n buf a fits)

  pub both : (r : ℕ) (buf'' : List ℕ) → output r buf'' ≡ appended (output m buf') b → output r buf'' ≡ appended (output n buf) (a ++ b)
  both r buf'' q = q ∙ sym goes_on

-- where bytes fit, what is filled then is what was filled and the bytes
pub filled_then : (n m : ℕ) (buf buf' bs : List ℕ) → output m buf' ≡ appended (output n buf) bs → n + length bs ≤ length buf → take m buf' ≡ take n buf ++ bs
filled_then n m buf buf' bs e h = ap content (e ∙ put n buf bs h) ∙ filled-take n buf bs h

-- what is filled stays within the buffer
pub within : (n m : ℕ) (buf buf' bs : List ℕ) → output m buf' ≡ appended (output n buf) bs → n ≤ length buf → (m ≤ length buf') × (length buf' ≡ length buf)
within n m buf buf' bs e h = go (leb (n + length bs) (length buf)) refl
  where
    go : (v : Bool) → leb (n + length bs) (length buf) ≡ v → (m ≤ length buf') × (length buf' ≡ length buf)
    go true t =
        let fits : n + length bs ≤ length buf = leb-true _ _ t in
        let o : output m buf' ≡ output (n + length bs) (filled n buf bs) = e ∙ put n buf bs fits in
        let c : m ≡ n + length bs = ap count o in
        let s : length buf' ≡ length (filled n buf bs) = ap size o in
        let l : length (filled n buf bs) ≡ length buf = filled-length n buf bs fits in
        (omega arith, s ∙ l)
    go false t =
        let o : output m buf' ≡ output n buf = e ∙ kept n buf bs (leb-false _ _ t) in
        let c : m ≡ n = ap count o in
        let s : length buf' ≡ length buf = ap size o in
        (omega arith, s)
