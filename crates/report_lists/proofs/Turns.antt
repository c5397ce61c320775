-- Lines of one thing after another, put turn by turn: what a loop over the things keeps, and what it says at the end.
use Rattle.std.proofs.Common.{◌≡◌, refl, ap, sym, ◌∙◌, List, [], ◌∷◌, ◌++◌, append-nil, ℕ, suc, ◌+◌, ◌-◌, ◌*◌, ◌≤◌, ◌<◌, suc-mul, add-one, arith, length, take}
use Rattle.report_text.specs.Output.{Output, output, appended}
use Rattle.report_lists.specs.Lists.{appended_each, text_of}
use Rattle.report_lists.specs.Parts.{lines_from}
use Rattle.report_lists.proofs.Texts.{each_both, each_within, each_whole, text_both}

pub one_line : (l : List ℕ) (w : ℕ) → length l ≤ w → length (text_of (l ∷ [])) ≤ w
unfolding text_of
one_line l w h = rw (append-nil l) h

-- the lines that are left are a thing's and those after it
more : (f : ℕ → List (List ℕ)) (at end : ℕ) → at < end → lines_from f at (end - at) ≡ f at ++ lines_from f (suc at) (end - suc at)
unfolding lines_from
more f at end h = let e : end - at ≡ suc (end - suc at) = omega arith in rw e refl

no_more : (f : ℕ → List (List ℕ)) (at end : ℕ) → end ≤ at → lines_from f at (end - at) ≡ []
unfolding lines_from
no_more f at end h = let e : end - at ≡ 0 = omega arith in rw e refl

-- f gives a thing's lines, of at most w bytes; the things are those from first on and before end. At a thing, m bytes of buf' are filled, where n of buf were at the first.
pub record Turn (f : ℕ → List (List ℕ)) (w first end n : ℕ) (buf : List ℕ) (at m : ℕ) (buf' : List ℕ) : Type 0 where
  -- the lines that are left, put after those that are, are all lines
  put : appended_each (output n buf) (lines_from f first (end - first)) ≡ appended_each (output m buf') (lines_from f at (end - at))
  -- all lines are short if those that are left are
  short : length (text_of (lines_from f first (end - first))) + (end - at) * w ≤ (end - first) * w + length (text_of (lines_from f at (end - at)))

module _ {f : ℕ → List (List ℕ)} {w first end n : ℕ} {buf : List ℕ} where
  pub begin : Turn f w first end n buf first n buf
  begin = record { put = refl; short = omega arith }

  module _ {at m : ℕ} {buf' : List ℕ} (t : Turn f w first end n buf at m buf') where
    -- a thing's lines are put
    pub next : {k : ℕ} {part : List ℕ} (ls : List (List ℕ)) → ls ≡ f at → at < end → output k part ≡ appended_each (output m buf') ls → length (text_of ls) ≤ w → Turn f w first end n buf (at + 1) k part
    next {k} {part} ls e h p s =
        let rest = lines_from f (suc at) (end - suc at) in
        let g : end - at ≡ suc (end - suc at) = omega arith in
        let long : length (text_of (lines_from f at (end - at))) ≡ length (text_of ls) + length (text_of rest) = rw (more f at end h, ← e) (text_both ls rest) in
        let room : (end - at) * w ≡ w + (end - suc at) * w = rw g (omega (arith, suc-mul (end - suc at) w)) in
        let left : length (text_of (lines_from f first (end - first))) + (end - suc at) * w ≤ (end - first) * w + length (text_of rest) = omega (arith, t.short) in
        rw add-one (record {
          put = t.put ∙ rw (more f at end h, ← e) (each_both (output m buf') ls rest ∙ ap (λ (o : Output). appended_each o rest) (sym p));
          short = left;
        })

    -- a thing's only line is put
    pub next_line : {k : ℕ} {part : List ℕ} (l : List ℕ) → l ∷ [] ≡ f at → at < end → output k part ≡ appended (output m buf') l → length l ≤ w → Turn f w first end n buf (at + 1) k part
    unfolding appended_each
    next_line l e h p s = next (l ∷ []) e h p (one_line l w s)

    -- what is said at the end
    pub all_put : end ≤ at → output m buf' ≡ appended_each (output n buf) (lines_from f first (end - first))
    unfolding appended_each
    all_put h = sym (rw (no_more f at end h) at t.put)

    pub all_short : end ≤ at → length (text_of (lines_from f first (end - first))) ≤ (end - first) * w
    unfolding text_of
    all_short h =
        let none : length (text_of (lines_from f at (end - at))) ≡ 0 = rw (no_more f at end h) refl in
        omega (arith, t.short)

-- the same of a buffer of which no bytes were filled
module _ {f : ℕ → List (List ℕ)} {w first end at m : ℕ} {buf buf' : List ℕ} (t : Turn f w first end 0 buf at m buf') where
  pub all_within : end ≤ at → m ≤ length buf'
  all_within h = each_within 0 m buf buf' _ (all_put t h) (omega arith)

  pub all_whole : end ≤ at → (end - first) * w ≤ length buf → take m buf' ≡ text_of (lines_from f first (end - first))
  all_whole h fits = each_whole m buf buf' _ (all_put t h) (omega (arith, all_short t h))
