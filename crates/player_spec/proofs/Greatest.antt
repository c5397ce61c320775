-- What decides is of greatest frame and the later among equals, and nothing else is; by one line more at a time. Where frames never fall it is the last line that applies.
use mathlib.Core.Path.{◌≡◌, refl, ap, sym, ◌∙◌}
use mathlib.Core.Logic.{◌↔◌}
use mathlib.Core.List.{List, [], ◌∷◌}
use mathlib.Core.Bool.{Bool, true, false, false≢true, ◌&&◌}
use mathlib.Core.Option.{Option, none, some}
use Prim.Native.Nat.{ℕ, zero, suc, ◌+◌, ◌≤◌, ◌<◌}
use native.Mathlib.Omega.{arith}
use borrow.Author.Tests.{leb-true, leb-false, le-leb, lt-leb, eqb-true, eqb-false}
use lib.Dec.{leb, eqb}
use lib.ListN.{length, get_or, drop}
use Rattle.text_numerals.proofs.Numerals.{and_true}
use Rattle.tra4_text.specs.Movement.{Pattern}
use Rattle.player_spec.specs.Deciding.{line_frame, applies, Line, not_after, better, deciding_from, deciding, state_by, GivesWay, smaller, earlier, Decides}
use Rattle.player_spec.specs.InOrder.{never_falls, last_flag}

-- ---- one line more

module _ (l : Line) (p : Pattern) where
  is-before : line_frame p < line_frame l.1 → not_after (some l) p ≡ false
  unfolding not_after
  is-before h = lt-leb _ _ h

  not-before : line_frame l.1 ≤ line_frame p → not_after (some l) p ≡ true
  unfolding not_after
  not-before h = le-leb _ _ h

module _ (g at row : ℕ) (best : Option Line) (p : Pattern) where
  pub better_yes : (applies g at p && not_after best p) ≡ true → better g at row best p ≡ some (row, p)
  unfolding better
  better_yes e = rw (e, better)

  pub better_no : (applies g at p && not_after best p) ≡ false → better g at row best p ≡ best
  unfolding better
  better_no e = rw (e, better)

gives_on : (j row : ℕ) (q p : Pattern) (l : Line) → j < row → line_frame l.1 ≤ line_frame p → GivesWay j q l → GivesWay j q (row, p)
gives_on j row q p l h k (smaller e) = smaller (omega arith)
gives_on j row q p l h k (earlier e f) = go (leb (line_frame p) (line_frame q)) refl
  where
    go : (v : Bool) → leb (line_frame p) (line_frame q) ≡ v → GivesWay j q (row, p)
    go true o = let z = leb-true (line_frame p) (line_frame q) o in earlier (omega arith) (omega arith)
    go false o = let z = leb-false (line_frame p) (line_frame q) o in smaller (omega arith)

module _ (g at : ℕ) (ps : List Pattern) (n : ℕ) (p : Pattern) (here : get_or ps n [] ≡ p) where
  -- rows below n, and row n
  below_or : (P : ℕ → Type 0) → ((j : ℕ) → j < n → P j) → P n → (j : ℕ) → j < suc n → P j
  below_or P h k j l = go (eqb j n) refl
    where
      go : (v : Bool) → eqb j n ≡ v → P j
      go true e = let z : n ≡ j = sym (eqb-true j n e) in rw z at k
      go false e = let d = eqb-false j n e in h j (omega arith)

  abbrev Way : Line → ℕ → Type 0
  Way l j = applies g at (get_or ps j []) ≡ true → GivesWay j (get_or ps j []) l

  taken-first : applies g at p ≡ true → Decides g at ps n none → Decides g at ps (suc n) (some (n, p))
  taken-first a h =
      (omega arith, here, a, below_or (Way (n, p)) (λ j l e. absurd (false≢true (sym (h j l) ∙ e))) (λ e. rw here (earlier refl (omega arith))))

  taken-over : (l : Line) → applies g at p ≡ true → line_frame l.1 ≤ line_frame p → Decides g at ps n (some l) → Decides g at ps (suc n) (some (n, p))
  taken-over l a f h =
      (omega arith, here, a, below_or (Way (n, p)) (λ j k e. gives_on j n (get_or ps j []) p l k f (h.3 j k e)) (λ e. rw here (earlier refl (omega arith))))

  passed_none : applies g at p ≡ false → Decides g at ps n none → Decides g at ps (suc n) none
  passed_none a h = below_or (λ j. applies g at (get_or ps j []) ≡ false) h (rw here a)

  passed_line : (l : Line) → (applies g at p ≡ true → line_frame p < line_frame l.1) → Decides g at ps n (some l) → Decides g at ps (suc n) (some l)
  passed_line l a h = (let z = h.0 in omega arith, h.1, h.2, below_or (Way l) h.3 (λ e. rw here (smaller (a (rw here at e)))))

  one_more : (best : Option Line) → Decides g at ps n best → Decides g at ps (suc n) (better g at n best p)
  one_more none h = go (applies g at p) refl
    where
      go : (v : Bool) → applies g at p ≡ v → Decides g at ps (suc n) (better g at n none p)
      go true a = rw (better_yes g at n none p (unfold not_after in (rw a))) (taken-first a h)
      go false a = rw (better_no g at n none p (rw a)) (passed_none a h)
  one_more (some l) h = go (applies g at p) (leb (line_frame l.1) (line_frame p)) refl refl
    where
      go : (v w : Bool) → applies g at p ≡ v → leb (line_frame l.1) (line_frame p) ≡ w → Decides g at ps (suc n) (better g at n (some l) p)
      go true true a b = let f = leb-true _ _ b in rw (better_yes g at n (some l) p (rw (a, not-before l p f))) (taken-over l a f h)
      go true false a b = let f = leb-false _ _ b in rw (better_no g at n (some l) p (rw (a, is-before l p f))) (passed_line l (λ _. f) h)
      go false w a b = rw (better_no g at n (some l) p (rw a)) (passed_line l (λ e. absurd (false≢true (sym a ∙ e))) h)

-- ---- all lines

nil_cons : (p : Pattern) (qs : List Pattern) → ◌≡◌ {A = List Pattern} [] (p ∷ qs) → ⊥
nil_cons p qs e = let z : ◌≡◌ {A = ℕ} 0 (suc (length qs)) = ap length e in omega arith

first-left : (ps : List Pattern) (n : ℕ) (p : Pattern) (qs : List Pattern) → drop n ps ≡ p ∷ qs → get_or ps n [] ≡ p
first-left [] zero p qs e = absurd (nil_cons p qs e)
first-left [] (suc n) p qs e = absurd (nil_cons p qs e)
first-left (x ∷ ps) zero p qs e = ap (λ (l : List Pattern). get_or l 0 []) e
first-left (x ∷ ps) (suc n) p qs e = first-left ps n p qs e

rest-left : (ps : List Pattern) (n : ℕ) (p : Pattern) (qs : List Pattern) → drop n ps ≡ p ∷ qs → drop (suc n) ps ≡ qs
rest-left [] zero p qs e = absurd (nil_cons p qs e)
rest-left [] (suc n) p qs e = absurd (nil_cons p qs e)
rest-left (x ∷ ps) zero p qs e = ap (λ (l : List Pattern). drop 1 l) e
rest-left (x ∷ ps) (suc n) p qs e = rest-left ps n p qs e

from-here : (g at : ℕ) (ps : List Pattern) (n : ℕ) (best : Option Line) (qs : List Pattern) → drop n ps ≡ qs → Decides g at ps n best → Decides g at ps (n + length qs) (deciding_from g at n best qs)
unfolding deciding_from
from-here g at ps n best [] e h = let z : n + 0 ≡ n = omega arith in rw z h
from-here g at ps n best (p ∷ qs) e h =
    let z : n + suc (length qs) ≡ suc n + length qs = omega arith in
    rw z (from-here g at ps (suc n) (better g at n best p) qs (rest-left ps n p qs e) (one_more g at ps n p (first-left ps n p qs e) best h))

module _ (g at : ℕ) (ps : List Pattern) where
  greatest : Decides g at ps (length ps) (deciding g at ps)
  unfolding deciding
  greatest = let z : 0 + length ps ≡ length ps = omega arith in rw z at (from-here g at ps 0 none ps refl (λ j l. absurd (omega arith)))

  -- two lines that give way to each other are one
  same_row : (l k : Line) → GivesWay l.0 l.1 k → GivesWay k.0 k.1 l → l.0 ≡ k.0
  same_row l k (smaller e) (smaller f) = absurd (omega arith)
  same_row l k (smaller e) (earlier f h) = absurd (omega arith)
  same_row l k (earlier e h) (smaller f) = absurd (omega arith)
  same_row l k (earlier e h) (earlier f i) = omega arith

  same_line : (l k : Line) → l.0 ≡ k.0 → get_or ps l.0 [] ≡ l.1 → get_or ps k.0 [] ≡ k.1 → l ≡ k
  same_line (i, p) (j, q) e f h = let d : p ≡ q = sym f ∙ ap (λ (n : ℕ). get_or ps n []) e ∙ h in rw (e, d)

  only : (a b : Option Line) → Decides g at ps (length ps) a → Decides g at ps (length ps) b → a ≡ b
  only none none h k = refl
  only none (some l) h k = absurd (false≢true (sym (h l.0 k.0) ∙ (rw (← k.1) at k.2)))
  only (some l) none h k = absurd (false≢true (sym (k l.0 h.0) ∙ (rw (← h.1) at h.2)))
  only (some l) (some k) h d =
      let way = d.3 l.0 h.0 (rw h.1 h.2) in
      let back = h.3 k.0 d.0 (rw d.1 d.2) in
      ap some (same_line l k (same_row l k (rw h.1 at way) (rw d.1 at back)) h.1 d.1)

  pub deciding-greatest : (best : Option Line) → deciding g at ps ≡ best ↔ Decides g at ps (length ps) best
  deciding-greatest best = (λ e. rw e at greatest, λ d. only (deciding g at ps) best greatest d)

-- ---- frames that never fall

module _ (g at : ℕ) where
  in_order : (before row : ℕ) (best : Option Line) (ps : List Pattern) → ((q : Pattern) → before ≤ line_frame q → not_after best q ≡ true) → never_falls before ps ≡ true → state_by (deciding_from g at row best ps) ≡ last_flag g at (state_by best) ps
  unfolding deciding_from last_flag never_falls
  in_order before row best [] h e = refl
  in_order before row best (p ∷ ps) h e =
      let fall = and_true (leb before (line_frame p)) (never_falls (line_frame p) ps) e in
      let after = leb-true before (line_frame p) fall.0 in
      go (applies g at p) refl (h p after) (λ b k. in_order (line_frame p) (suc row) b ps k fall.1) (λ q k. h q (omega arith))
    where
      go : (v : Bool) → applies g at p ≡ v → not_after best p ≡ true → ((b : Option Line) → ((q : Pattern) → line_frame p ≤ line_frame q → not_after b q ≡ true) → state_by (deciding_from g at (suc row) b ps) ≡ last_flag g at (state_by b) ps) → ((q : Pattern) → line_frame p ≤ line_frame q → not_after best q ≡ true) → state_by (deciding_from g at (suc row) (better g at row best p) ps) ≡ last_flag g at (state_by best) (p ∷ ps)
      go true a n ih k =
          rw (better_yes g at row best p (rw (a, n)), a, last_flag) (ih (some (row, p)) (λ q l. not-before (row, p) q l) ∙ unfold state_by in refl)
      go false a n ih k = rw (better_no g at row best p (rw a), a, last_flag) (ih best k)

  pub unfallen : (ps : List Pattern) → never_falls 0 ps ≡ true → state_by (deciding g at ps) ≡ last_flag g at false ps
  unfolding deciding
  unfallen ps e = in_order 0 0 none ps (λ q k. unfold not_after in refl) e ∙ unfold state_by in refl
