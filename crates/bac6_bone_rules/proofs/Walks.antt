-- Laws of a walk over a table of bones: its flags are not altered by parents, and each turn of the code is a turn of the definition.
use mathlib.Core.Path.{◌≡◌, refl, ap, ap₂, sym, ◌∙◌}
use mathlib.Core.List.{List, [], ◌∷◌, ◌++◌}
use mathlib.Core.Bool.{Bool, true, false}
use Prim.Native.Nat.{ℕ, zero, suc, ◌+◌, ◌-◌, ◌*◌, ◌^◌, ◌≤◌, ◌<◌}
use native.Mathlib.Nat.{add-zero}
use native.Mathlib.Omega.{arith}
use borrow.Author.Tests.{leb-true, leb-false, ltb-true, ltb-false}
use lib.Dec.{leb, ltb}
use lib.ListN.{length, drop, get_or, set, length-set, length-drop, length-append, drop_of_length-le}
use lib.Seq.{drop-cons, get_or-take, get_or-drop, get_or-set_other, drop-set-lt, drop-set-add}
use lib.IntN.{ℤ, pos, negsuc}
use mir.Syntax.{w64}
use mir.Val.{SFits, of_z}
use Rattle.bac6_text.specs.Rules.{Flags, Placed, placed, short, is_set, joined, then_if, bone_list, parents_in}
use Rattle.std.proofs.Common.{Option, Some, None}
use Rattle.table_columns.specs.Parts.{rows_of}
use Rattle.bac6_bone_rules.specs.Internal.Bones.{row_flags, flags_in, parents_from, one_bone, Walked}
use Rattle.table_columns.proofs.Rows.{rows_more, rows_short}
use Rattle.bac6_bone_rules.proofs.Placing.{list_step, turns}

-- ---- a table's flags

pub flags_more : (n : ℕ) (t : List ℤ) → 14 ≤ length t → flags_in (suc n) t ≡ (get_or t 9 (pos 0), get_or t 10 (pos 0)) ∷ flags_in n (drop 14 t)
unfolding flags_in row_flags
flags_more n t h = rw (rows_more 14 n t h, get_or-take 14 t 9 (pos 0) (omega arith), get_or-take 14 t 10 (pos 0) (omega arith))

pub flags_short : (n : ℕ) (t : List ℤ) → length t < 14 → flags_in n t ≡ []
unfolding flags_in
flags_short n t h = rw (rows_short 14 n t h)

pub flags_none : (t : List ℤ) → flags_in 0 t ≡ []
unfolding flags_in rows_of
flags_none t = refl

-- n whole rows
pub flags_length : (n : ℕ) (t : List ℤ) → n * 14 ≤ length t → length (flags_in n t) ≡ n
flags_length zero t h = rw (flags_none t)
flags_length (suc n) t h = rw (flags_more n t (omega arith)) (ap suc (flags_length n (drop 14 t) (rw length-drop (omega arith))))

get_or-same : (t : List ℤ) (i j : ℕ) → i ≡ j → get_or t i (pos 0) ≡ get_or t j (pos 0)
get_or-same t i j e = rw e

abbrev flags_at_lem : ℕ → List ℤ → Flags
flags_at_lem row t = (get_or t (row * 14 + 9) (pos 0), get_or t (row * 14 + 10) (pos 0))

flags_at : (n row : ℕ) (t : List ℤ) (d : Flags) → row < n → n * 14 ≤ length t → get_or (flags_in n t) row d ≡ flags_at_lem row t
flags_at zero row t d k h = absurd (omega arith)
flags_at (suc n) zero t d k h = rw (flags_more n t (omega arith))
flags_at (suc n) (suc row) t d k h =
    rw (flags_more n t (omega arith))
    (flags_at n row (drop 14 t) d (omega arith) (rw length-drop (omega arith))
    ∙ ap₂ (λ (a b : ℤ). (a, b)) (get_or-drop 14 t (row * 14 + 9) (pos 0) ∙ get_or-same t _ _ (omega arith)) (get_or-drop 14 t (row * 14 + 10) (pos 0) ∙ get_or-same t _ _ (omega arith)))

pub flags_drop : (n row : ℕ) (t : List ℤ) → row < n → n * 14 ≤ length t → drop row (flags_in n t) ≡ flags_at_lem row t ∷ drop (suc row) (flags_in n t)
flags_drop n row t k h = rw (drop-cons (flags_in n t) row (pos 0, pos 0) (rw (flags_length n t h) k), flags_at n row t (pos 0, pos 0) k h)

pub flags_past : (n row : ℕ) (t : List ℤ) → n ≤ row → n * 14 ≤ length t → drop row (flags_in n t) ≡ []
flags_past n row t k h = drop_of_length-le (flags_in n t) {i = row} (rw (flags_length n t h) k)

-- a parent alters no flag
flags_first : (n : ℕ) (t : List ℤ) (v : ℤ) → 14 ≤ length t → flags_in (suc n) (set t 11 v) ≡ flags_in (suc n) t
flags_first n t v h =
    flags_more n (set t 11 v) (rw length-set h)
    ∙ rw (get_or-set_other t 11 9 v (pos 0) (omega arith), get_or-set_other t 11 10 v (pos 0) (omega arith), drop-set-lt 14 t 11 v (omega arith)) (sym (flags_more n t h))

flags_later : (n i : ℕ) (t : List ℤ) (v : ℤ) → 14 ≤ length t → flags_in (suc n) (set t (14 + i) v) ≡ (get_or t 9 (pos 0), get_or t 10 (pos 0)) ∷ flags_in n (set (drop 14 t) i v)
flags_later n i t v h =
    flags_more n (set t (14 + i) v) (rw length-set h)
    ∙ rw (get_or-set_other t (14 + i) 9 v (pos 0) (omega arith), get_or-set_other t (14 + i) 10 v (pos 0) (omega arith), drop-set-add 14 t i v)

pub flags_set : (n row : ℕ) (t : List ℤ) (v : ℤ) → flags_in n (set t (row * 14 + 11) v) ≡ flags_in n t
flags_set zero row t v = flags_none _ ∙ sym (flags_none t)
flags_set (suc n) row t v = go (leb 14 (length t)) refl row (λ r. flags_set n r (drop 14 t) v)
  where
    go : (b : Bool) → leb 14 (length t) ≡ b → (r : ℕ) → ((r : ℕ) → flags_in n (set (drop 14 t) (r * 14 + 11) v) ≡ flags_in n (drop 14 t)) → flags_in (suc n) (set t (r * 14 + 11) v) ≡ flags_in (suc n) t
    go true e zero ih = flags_first n t v (leb-true 14 (length t) e)
    go true e (suc r) ih =
        let i : suc r * 14 + 11 ≡ 14 + (r * 14 + 11) = omega arith in
        let h = leb-true 14 (length t) e in
        rw i (flags_later n (r * 14 + 11) t v h ∙ rw (ih r) (sym (flags_more n t h)))
    go false e r ih =
        let h = leb-false 14 (length t) e in
        flags_short (suc n) (set t (r * 14 + 11) v) (rw length-set h) ∙ sym (flags_short (suc n) t h)

-- ---- parents

pub parents-length : (row : ℕ) (ps t : List ℤ) → length (parents_from row ps t) ≡ length t
unfolding parents_from
parents-length row [] t = refl
parents-length row (p ∷ ps) t = parents-length (suc row) ps (set t (row * 14 + 11) p) ∙ length-set t (row * 14 + 11) p

pub parents_flags : (n row : ℕ) (ps t : List ℤ) → flags_in n (parents_from row ps t) ≡ flags_in n t
unfolding parents_from
parents_flags n row [] t = refl
parents_flags n row (p ∷ ps) t = parents_flags n (suc row) ps (set t (row * 14 + 11) p) ∙ flags_set n row t p

pub parents-append : (row : ℕ) (ps qs t : List ℤ) → parents_from row (ps ++ qs) t ≡ parents_from (row + length ps) qs (parents_from row ps t)
unfolding parents_from
parents-append row [] qs t = rw (add-zero row)
parents-append row (p ∷ ps) qs t = let e : row + suc (length ps) ≡ suc row + length ps = omega arith in rw e (parents-append (suc row) ps qs (set t (row * 14 + 11) p))

-- ---- flags by their bits

pub clear_bits : (z : ℤ) → SFits w64 z → of_z w64 z ≡ 0 → is_set z ≡ false
unfolding is_set
clear_bits (pos zero) f e = refl
clear_bits (pos (suc n)) f e = absurd (omega (arith, e))
clear_bits (negsuc n) f e = let h : n < 2 ^ 63 = f.sfits in let g : 2 ^ 64 - suc n ≡ 0 = e in absurd (omega arith)

pub set_bits : (z : ℤ) → (of_z w64 z ≡ 0 → ⊥) → is_set z ≡ true
unfolding is_set
set_bits (pos zero) e = absurd (e refl)
set_bits (pos (suc n)) e = refl
set_bits (negsuc n) e = refl

-- ---- walks

pub joined-short : (ps : List ℤ) → joined ps short ≡ short
unfolding joined
joined-short ps = refl

pub joined-placed : (ps qs : List ℤ) (row : ℕ) (fs : List Flags) → joined ps (placed qs row fs) ≡ placed (ps ++ qs) row fs
unfolding joined
joined-placed ps qs row fs = refl

parents-first : (row : ℕ) (p : ℤ) (ps t : List ℤ) → parents_from row (p ∷ ps) t ≡ parents_from (suc row) ps (set t (row * 14 + 11) p)
unfolding parents_from
parents-first row p ps t = refl

module _ (n row : ℕ) (entry exit : List ℤ) where
  -- what a walk is, of parents that are known
  pub walked_at : (p : Placed) (ps : List ℤ) (next : ℕ) → p ≡ placed ps next (drop next (flags_in n entry)) → exit ≡ parents_from row ps entry → next ≡ row + length ps → row < next → next ≤ n → Walked n row entry exit p (Some next)
  unfolding Walked parents_in
  walked_at p ps next e x k l h = rw e (refl, x, k, l, h)

  pub walked_short : (p : Placed) (ps : List ℤ) → p ≡ short → exit ≡ parents_from row ps entry → length ps ≤ n - row → Walked n row entry exit p None
  unfolding Walked
  walked_short p ps e x h = (e, (ps, x, h))

  -- and what it says
  pub at_told : (p : Placed) (next : ℕ) → Walked n row entry exit p (Some next) → (p ≡ placed (parents_in p) next (drop next (flags_in n entry))) × (exit ≡ parents_from row (parents_in p) entry) × (next ≡ row + length (parents_in p)) × (row < next) × (next ≤ n)
  unfolding Walked
  at_told p next w = w

  pub short_told : (p : Placed) → Walked n row entry exit p None → (p ≡ short) × ((ps : List ℤ) × (exit ≡ parents_from row ps entry) × (length ps ≤ n - row))
  unfolding Walked
  short_told p w = w

-- no row is there
pub no_bone : (n row k : ℕ) (parent : ℤ) (t : List ℤ) → n ≤ row → n * 14 ≤ length t → Walked n row t t (one_bone k parent row (drop row (flags_in n t))) None
unfolding one_bone
no_bone n row k parent t h w = rw (flags_past n row t h w) (walked_short n row t t short [] refl (unfold parents_from in refl) (omega arith))

module _ (n row : ℕ) (parent : ℤ) (t : List ℤ) (h : row < n) (w : n * 14 ≤ length t) where
  -- a bone with no child
  pub bone_leaf : (k : ℕ) → is_set (get_or t (row * 14 + 9) (pos 0)) ≡ false → Walked n row t (set t (row * 14 + 11) parent) (one_bone k parent row (drop row (flags_in n t))) (Some (suc row))
  bone_leaf k e =
      rw (flags_drop n row t h w) (walked_at n row t (set t (row * 14 + 11) parent) _ (parent ∷ []) (suc row) alone (unfold parents_from in refl) (omega arith) (omega arith) (omega arith))
    where
      alone : one_bone k parent row (flags_at_lem row t ∷ drop (suc row) (flags_in n t)) ≡ placed (parent ∷ []) (suc row) (drop (suc row) (flags_in n t))
      alone = unfold one_bone joined in rw e

  -- a bone with a child's list
  pub bone-child : (exit : List ℤ) (r : Option ℕ) → is_set (get_or t (row * 14 + 9) (pos 0)) ≡ true → Walked n (suc row) (set t (row * 14 + 11) parent) exit (bone_list (n - suc row) (pos row) (suc row) (drop (suc row) (flags_in n (set t (row * 14 + 11) parent)))) r → Walked n row t exit (one_bone (n - suc row) parent row (drop row (flags_in n t))) r
  bone-child exit r e q = rw (flags_drop n row t h w) (go r (rw (flags_set n row t parent) at q))
    where
      child : one_bone (n - suc row) parent row (flags_at_lem row t ∷ drop (suc row) (flags_in n t)) ≡ joined (parent ∷ []) (bone_list (n - suc row) (pos row) (suc row) (drop (suc row) (flags_in n t)))
      child = unfold one_bone in rw e

      list : Placed
      list = bone_list (n - suc row) (pos row) (suc row) (drop (suc row) (flags_in n t))

      go : (r : Option ℕ) → Walked n (suc row) (set t (row * 14 + 11) parent) exit (bone_list (n - suc row) (pos row) (suc row) (drop (suc row) (flags_in n t))) r → Walked n row t exit (one_bone (n - suc row) parent row (flags_at_lem row t ∷ drop (suc row) (flags_in n t))) r
      go (Some next) q =
          let w = at_told n (suc row) (set t (row * 14 + 11) parent) exit list next q in
          walked_at n row t exit _ (parent ∷ parents_in list) next (child ∙ ap (joined (parent ∷ [])) w.0 ∙ joined-placed (parent ∷ []) _ next _ ∙ rw (flags_set n row t parent)) (w.1 ∙ sym (parents-first row parent _ t)) (omega (arith, w.2)) (omega (arith, w.3)) w.4
      go None q =
          let w = short_told n (suc row) (set t (row * 14 + 11) parent) exit list q in
          walked_short n row t exit _ (parent ∷ w.1.0) (child ∙ ap (joined (parent ∷ [])) w.0 ∙ joined-short _) (w.1.1 ∙ sym (parents-first row parent _ t)) (omega (arith, w.1.2))

-- a bone's child flag is not altered by its parent
pub child-kept : (row : ℕ) (t : List ℤ) (v : ℤ) → get_or (set t (row * 14 + 11) v) (row * 14 + 9) (pos 0) ≡ get_or t (row * 14 + 9) (pos 0)
child-kept row t v = get_or-set_other t (row * 14 + 11) (row * 14 + 9) v (pos 0) (omega arith)

-- nor its brother flag by any
brother-kept : (n row : ℕ) (ps t : List ℤ) → row < n → n * 14 ≤ length t → get_or (parents_from row ps t) (row * 14 + 10) (pos 0) ≡ get_or t (row * 14 + 10) (pos 0)
brother-kept n row ps t h w =
    ap (λ (f : Flags). f.1)
    (sym (flags_at n row (parents_from row ps t) (pos 0, pos 0) h (rw (parents-length row ps t) w))
    ∙ ap (λ (l : List Flags). get_or l row (pos 0, pos 0)) (parents_flags n row ps t)
    ∙ flags_at n row t (pos 0, pos 0) h w)

then_short : (b : Bool) (k : ℕ → List Flags → Placed) → then_if b short k ≡ short
unfolding then_if
then_short true k = refl
then_short false k = refl

then_no : (ps : List ℤ) (row : ℕ) (fs : List Flags) (k : ℕ → List Flags → Placed) → then_if false (placed ps row fs) k ≡ placed ps row fs
unfolding then_if
then_no ps row fs k = refl

then_yes : (ps : List ℤ) (row : ℕ) (fs : List Flags) (k : ℕ → List Flags → Placed) → then_if true (placed ps row fs) k ≡ joined ps (k row fs)
unfolding then_if
then_yes ps row fs k = refl

module _ (n row : ℕ) (parent : ℤ) (t : List ℤ) (w : n * 14 ≤ length t) where
  list_at_lem : row < n → bone_list (n - row) parent row (drop row (flags_in n t)) ≡ then_if (is_set (get_or t (row * 14 + 10) (pos 0))) (one_bone (n - suc row) parent row (drop row (flags_in n t))) (bone_list (n - suc row) parent)
  list_at_lem h =
      let e : n - row ≡ suc (n - suc row) = omega arith in
      rw (e, flags_drop n row t h w) (list_step (n - suc row) parent row (flags_at_lem row t) (drop (suc row) (flags_in n t)))

  list_none : n ≤ row → bone_list (n - row) parent row (drop row (flags_in n t)) ≡ short
  unfolding bone_list
  list_none h = let e : n - row ≡ 0 = omega arith in rw e

  -- the rows run out in the bone
  pub list_short : (exit : List ℤ) → Walked n row t exit (one_bone (n - suc row) parent row (drop row (flags_in n t))) None → Walked n row t exit (bone_list (n - row) parent row (drop row (flags_in n t))) None
  list_short exit q =
      let s = short_told n row t exit _ q in
      walked_short n row t exit _ s.1.0 (go (ltb row n) refl s.0) s.1.1 s.1.2
    where
      go : (b : Bool) → ltb row n ≡ b → one_bone (n - suc row) parent row (drop row (flags_in n t)) ≡ short → bone_list (n - row) parent row (drop row (flags_in n t)) ≡ short
      go true e q = list_at_lem (ltb-true row n e) ∙ ap (λ (p : Placed). then_if (is_set (get_or t (row * 14 + 10) (pos 0))) p (bone_list (n - suc row) parent)) q ∙ then_short _ _
      go false e q = list_none (ltb-false row n e)

  module _ (mid : List ℤ) (next : ℕ) (q : Walked n row t mid (one_bone (n - suc row) parent row (drop row (flags_in n t))) (Some next)) where
    abbrev bone : Placed
    bone = one_bone (n - suc row) parent row (drop row (flags_in n t))

    pub row_there : row < n
    row_there = let s = at_told n row t mid _ next q in omega (arith, s.3, s.4)

    pub next_within : (row < next) × (next ≤ n)
    next_within = let s = at_told n row t mid _ next q in (s.3, s.4)

    brother : get_or mid (row * 14 + 10) (pos 0) ≡ get_or t (row * 14 + 10) (pos 0)
    brother = rw (at_told n row t mid _ next q).1 (brother-kept n row _ t row_there w)

    mid_flags : flags_in n mid ≡ flags_in n t
    mid_flags = rw (at_told n row t mid _ next q).1 (parents_flags n row _ t)

    then_at : (b : Bool) → is_set (get_or mid (row * 14 + 10) (pos 0)) ≡ b → bone_list (n - row) parent row (drop row (flags_in n t)) ≡ then_if b (placed (parents_in bone) next (drop next (flags_in n t))) (bone_list (n - suc row) parent)
    then_at b e =
        list_at_lem row_there
        ∙ rw (sym (ap is_set brother) ∙ e) (ap (λ (p : Placed). then_if b p (bone_list (n - suc row) parent)) (at_told n row t mid bone next q).0)

    -- the bone is the last of its list
    pub list_last : is_set (get_or mid (row * 14 + 10) (pos 0)) ≡ false → Walked n row t mid (bone_list (n - row) parent row (drop row (flags_in n t))) (Some next)
    list_last e =
        let s = at_told n row t mid bone next q in
        walked_at n row t mid _ (parents_in bone) next (then_at false e ∙ then_no _ _ _ _) s.1 s.2 s.3 s.4

    -- or the rest of the list follows
    rest-same : bone_list (n - suc row) parent next (drop next (flags_in n t)) ≡ bone_list (n - next) parent next (drop next (flags_in n mid))
    rest-same =
        let l : length (drop next (flags_in n t)) ≡ n - next = rw (length-drop, flags_length n t w) in
        rw mid_flags (turns (n - suc row) (n - next) parent next (drop next (flags_in n t)) (omega (arith, next_within, l)) (omega (arith, l)))

    pub list_more : (exit : List ℤ) (r : Option ℕ) → is_set (get_or mid (row * 14 + 10) (pos 0)) ≡ true → Walked n next mid exit (bone_list (n - next) parent next (drop next (flags_in n mid))) r → Walked n row t exit (bone_list (n - row) parent row (drop row (flags_in n t))) r
    list_more exit r e v = go r v
      where
        rest : Placed
        rest = bone_list (n - next) parent next (drop next (flags_in n mid))

        whole : bone_list (n - row) parent row (drop row (flags_in n t)) ≡ joined (parents_in bone) rest
        whole = then_at true e ∙ then_yes _ _ _ _ ∙ ap (joined (parents_in bone)) rest-same

        all-parents : (qs : List ℤ) → exit ≡ parents_from next qs mid → exit ≡ parents_from row (parents_in bone ++ qs) t
        all-parents qs x = let s = at_told n row t mid bone next q in x ∙ rw (s.1, s.2) (sym (parents-append row (parents_in bone) qs t))

        go : (r : Option ℕ) → Walked n next mid exit rest r → Walked n row t exit (bone_list (n - row) parent row (drop row (flags_in n t))) r
        go (Some last) v =
            let s = at_told n row t mid bone next q in
            let u = at_told n next mid exit rest last v in
            walked_at n row t exit _ (parents_in bone ++ parents_in rest) last
            (whole ∙ ap (joined (parents_in bone)) u.0 ∙ joined-placed _ _ last _ ∙ rw mid_flags)
            (all-parents (parents_in rest) u.1)
            (rw (length-append (parents_in bone) (parents_in rest)) (omega (arith, u.2, s.2)))
            (omega (arith, s.3, u.3))
            u.4
        go None v =
            let s = at_told n row t mid bone next q in
            let u = short_told n next mid exit rest v in
            walked_short n row t exit _ (parents_in bone ++ u.1.0)
            (whole ∙ ap (joined (parents_in bone)) u.0 ∙ joined-short _)
            (all-parents u.1.0 u.1.1)
            (rw (length-append (parents_in bone) u.1.0) (omega (arith, u.1.2, s.2, s.4)))

-- the same walk, of what is known to be the same
pub walked_as : (n row : ℕ) (entry exit : List ℤ) {p q : Placed} {r s : Option ℕ} → Walked n row entry exit p r → p ≡ q → r ≡ s → Walked n row entry exit q s
walked_as n row entry exit {p} {q} {r} {s} w e f = rw (← e, ← f) w
