-- Rule 11 of a whole figure: claims in order find the fault that the rule names, and leave the owners of the layout.
-- A caller that folds entry by entry cites `claimed_none`, `claimed-one`, `one_tried`, `one_passed`;
-- bone by bone, `bones_none`, `bones-one`, `bone-clear`, `bone_passed`; and at the end `claims-fault` and `claims_owners`.
use mathlib.Core.Path.{◌≡◌, refl, ap, ap₂, sym, ◌∙◌}
use mathlib.Core.List.{List, [], ◌∷◌, ◌++◌}
use mathlib.Core.Bool.{Bool, true, false, not, ◌&&◌, ◌||◌, false≢true}
use Prim.Native.Nat.{ℕ, zero, suc, min, ◌+◌, ◌≤◌, ◌<◌}
use native.Mathlib.Nat.{add-zero, zero-add}
use native.Mathlib.Omega.{arith}
use borrow.Author.Tests.{ltb-true, eq-eqb, ne_eqb, eqb-true, eqb-false}
use lib.Dec.{ltb, eqb}
use lib.ListN.{length, take, drop, get_or, set, replicate, length-set, length-take, length-append, length-replicate, get_or-replicate, get_or-append, take-append-drop}
use lib.Seq.{get_or-set_same, get_or-set_other, drop-set-lt, get_or-take, ext_get_or, drop_at}
use lib.IntN.{ℤ, pos, negsuc, nat_abs}
use Rattle.text_numerals.proofs.Numerals.{and_true}
use Rattle.refusal.specs.Faults.{Fault, clear, fault}
use Rattle.bac6_text.specs.Figure.{Bone}
use Rattle.bac6_text.specs.Rules.{entries_fine, vertices_fault, owner_from, owner_of}
use Rattle.table_references.specs.References.{is_row, is_none, same_number, member}
use Rattle.bac6_text.specs.Layout.{owners_from}
use Rattle.bac6_owners.specs.Internal.Claims.{is_free, after_claim, claimed_one, claimed, fault_at, after_bone, claimed_bone, claimed_bones}
use Rattle.bac6_text.proofs.Parents.{fault-not-clear}
use Rattle.bac6_owners.proofs.Owners.{row_below, claim_free, claim_taken}

-- ---- entry by entry

module _ (n : ℕ) (bone : ℤ) where
  pub claimed_none : (s : Bool × List ℤ) → claimed n bone s [] ≡ s
  unfolding claimed
  claimed_none s = refl

  pub claimed-one : (s : Bool × List ℤ) (zs : List ℤ) (z : ℤ) → claimed n bone s (zs ++ (z ∷ [])) ≡ claimed_one n bone (claimed n bone s zs) z
  unfolding claimed
  claimed-one s [] z = refl
  claimed-one s (y ∷ zs) z = claimed-one (claimed_one n bone s y) zs z

  -- an entry is tried while those before it are free
  pub one_tried : (owners : List ℤ) (z : ℤ) → claimed_one n bone (true, owners) z ≡ (is_free n z owners, after_claim n bone z owners)
  unfolding claimed_one
  one_tried owners z = refl

  pub one_passed : (owners : List ℤ) (z : ℤ) → claimed_one n bone (false, owners) z ≡ (false, owners)
  unfolding claimed_one
  one_passed owners z = refl

  -- once an entry is faulty nothing changes
  claimed_faulty : (owners zs : List ℤ) → claimed n bone (false, owners) zs ≡ (false, owners)
  unfolding claimed claimed_one
  claimed_faulty owners [] = refl
  claimed_faulty owners (z ∷ zs) = claimed_faulty owners zs

  claimed_free : (owners : List ℤ) (z : ℤ) (zs : List ℤ) → is_free n z owners ≡ true → claimed n bone (true, owners) (z ∷ zs) ≡ claimed n bone (true, after_claim n bone z owners) zs
  unfolding claimed claimed_one
  claimed_free owners z zs e = rw e

  claimed-taken : (owners : List ℤ) (z : ℤ) (zs : List ℤ) → is_free n z owners ≡ false → claimed n bone (true, owners) (z ∷ zs) ≡ (false, after_claim n bone z owners)
  unfolding claimed claimed_one
  claimed-taken owners z zs e = rw e (claimed_faulty (after_claim n bone z owners) zs)

-- ---- bone by bone

module _ (n : ℕ) where
  pub bones_none : (row : ℕ) (s : Fault × List ℤ) → claimed_bones n row s [] ≡ s
  unfolding claimed_bones
  bones_none row s = refl

  pub bones-one : (row : ℕ) (s : Fault × List ℤ) (bs : List Bone) (b : Bone) → claimed_bones n row s (bs ++ (b ∷ [])) ≡ claimed_bone n (row + length bs) (claimed_bones n row s bs) b.vertices
  unfolding claimed_bones
  bones-one row s [] b = rw (add-zero row)
  bones-one row s (c ∷ bs) b = let e : row + suc (length bs) ≡ suc row + length bs = omega arith in rw e (bones-one (suc row) (claimed_bone n row s c.vertices) bs b)

  -- once a bone is faulty nothing changes
  bones_faulty : (row k p : ℕ) (owners : List ℤ) (bs : List Bone) → claimed_bones n row (fault k p, owners) bs ≡ (fault k p, owners)
  unfolding claimed_bones claimed_bone
  bones_faulty row k p owners [] = refl
  bones_faulty row k p owners (b ∷ bs) = bones_faulty (suc row) k p owners bs

  -- a bone is tried while those before it are clear
  pub bone-clear : (row : ℕ) (owners zs : List ℤ) → claimed_bone n row (clear, owners) zs ≡ after_bone row (claimed n (pos row) (true, owners) zs)
  unfolding claimed_bone
  bone-clear row owners zs = refl

  pub bone_passed : (row k p : ℕ) (owners zs : List ℤ) → claimed_bone n row (fault k p, owners) zs ≡ (fault k p, owners)
  unfolding claimed_bone
  bone_passed row k p owners zs = refl

-- ---- numbers

same_eq : (a b : ℤ) → same_number a b ≡ true → a ≡ b
unfolding same_number
same_eq (pos a) (pos b) e = ap pos (eqb-true a b e)
same_eq (pos a) (negsuc b) e = absurd (false≢true e)
same_eq (negsuc a) (pos b) e = absurd (false≢true e)
same_eq (negsuc a) (negsuc b) e = ap negsuc (eqb-true a b e)

or_false : (a b : Bool) → (a || b) ≡ false → (a ≡ false) × (b ≡ false)
or_false true b e = absurd (false≢true (sym e))
or_false false b e = (refl, e)

not_true : (a : Bool) → not a ≡ true → a ≡ false
not_true true e = absurd (false≢true e)
not_true false e = refl

or_swap : (a b c : Bool) → (a || (b || c)) ≡ (b || (a || c))
or_swap true true c = refl
or_swap true false c = refl
or_swap false b c = refl

-- an entry may be counted before or after others
member_swap : (q z : ℤ) (zs earlier : List ℤ) → member q (zs ++ (z ∷ earlier)) ≡ member q (z ∷ (zs ++ earlier))
unfolding member
member_swap q z [] earlier = refl
member_swap q z (y ∷ zs) earlier = ap (λ (b : Bool). same_number q y || b) (member_swap q z zs earlier) ∙ or_swap (same_number q y) (same_number q z) (member q (zs ++ earlier))

none_is : (z : ℤ) → is_none z ≡ true → z ≡ negsuc 0
unfolding is_none
none_is (pos k) e = absurd (false≢true e)
none_is (negsuc k) e = ap negsuc (eqb-true k 0 e)

free_row : (n : ℕ) (z : ℤ) (owners : List ℤ) → is_free n z owners ≡ true → is_row (min n (length owners)) z ≡ true
unfolding is_free
free_row n z owners e = (and_true (is_row (min n (length owners)) z) (is_none (get_or owners (nat_abs z) (pos 0))) e).0

-- ---- owners that say which vertices are named

-- of the first n, those that are unclaimed are those that no earlier entry names
pub record Agrees (n : ℕ) (earlier owners : List ℤ) : Type 0 where
  pub long : n ≤ length owners
  pub says : (p : ℕ) → p < n → is_none (get_or owners p (pos 0)) ≡ not (member (pos p) earlier)

module _ (n : ℕ) (earlier owners : List ℤ) (a : Agrees n earlier owners) where
  free_is : (z : ℤ) → is_free n z owners ≡ (is_row n z && not (member z earlier))
  unfolding is_free is_row
  free_is (pos k) = rw m (go (ltb k n) refl)
    where
      m : min n (length owners) ≡ n
      m = let h = a.long in omega arith

      go : (b : Bool) → ltb k n ≡ b → (ltb k n && is_none (get_or owners k (pos 0))) ≡ (ltb k n && not (member (pos k) earlier))
      go true e = rw e (a.says k (ltb-true k n e))
      go false e = rw e
  free_is (negsuc k) = refl

  set_agrees : (bone k : ℕ) → k < n → Agrees n (pos k ∷ earlier) (set owners k (pos bone))
  unfolding member same_number is_none
  set_agrees bone k h = record { long = rw length-set a.long; says = λ p g. go p g (eqb p k) refl }
    where
      go : (p : ℕ) → p < n → (b : Bool) → eqb p k ≡ b → is_none (get_or (set owners k (pos bone)) p (pos 0)) ≡ not (member (pos p) (pos k ∷ earlier))
      go p g true e =
          let l = a.long in
          rw e (ap (λ (i : ℕ). is_none (get_or (set owners k (pos bone)) i (pos 0))) (eqb-true p k e) ∙ ap is_none (get_or-set_same owners k (pos bone) (pos 0) (omega arith)))
      go p g false e = rw (e, get_or-set_other owners k p (pos bone) (pos 0) (eqb-false p k e)) (a.says p g)

  claim_agrees : (bone : ℕ) (z : ℤ) → is_free n z owners ≡ true → Agrees n (z ∷ earlier) (after_claim n (pos bone) z owners)
  claim_agrees bone (pos k) e =
      rw (claim_free n (pos k) owners (pos bone) e) (set_agrees bone k (row_below n (pos k) (and_true (is_row n (pos k)) _ (sym (free_is (pos k)) ∙ e)).0))
  claim_agrees bone (negsuc k) e = absurd (false≢true (unfold is_free is_row in e))

-- ---- a bone's entries

module _ (n bone : ℕ) where
  entries_fault : (earlier owners zs : List ℤ) → Agrees n earlier owners → (claimed n (pos bone) (true, owners) zs).0 ≡ entries_fine n earlier zs
  unfolding entries_fine
  entries_fault earlier owners [] a = ap (λ (s : Bool × List ℤ). s.0) (claimed_none n (pos bone) (true, owners))
  entries_fault earlier owners (z ∷ zs) a = go (is_free n z owners) refl (λ e. entries_fault (z ∷ earlier) (after_claim n (pos bone) z owners) zs (claim_agrees n earlier owners a bone z e))
    where
      go : (b : Bool) → is_free n z owners ≡ b → (is_free n z owners ≡ true → (claimed n (pos bone) (true, after_claim n (pos bone) z owners) zs).0 ≡ entries_fine n (z ∷ earlier) zs) → (claimed n (pos bone) (true, owners) (z ∷ zs)).0 ≡ entries_fine n earlier (z ∷ zs)
      go true e ih = rw (claimed_free n (pos bone) owners z zs e, ← free_is n earlier owners a z, e) (ih e)
      go false e ih = rw (claimed-taken n (pos bone) owners z zs e, ← free_is n earlier owners a z, e)

  module _ (earlier owners : List ℤ) (a : Agrees n earlier owners) (z : ℤ) (zs : List ℤ) where
    -- entries that are fine: the first is free, and the others are fine after it
    first_free : entries_fine n earlier (z ∷ zs) ≡ true → is_free n z owners ≡ true
    unfolding entries_fine
    first_free e = free_is n earlier owners a z ∙ (and_true (is_row n z && not (member z earlier)) _ e).0

    others_fine : entries_fine n earlier (z ∷ zs) ≡ true → entries_fine n (z ∷ earlier) zs ≡ true
    unfolding entries_fine
    others_fine e = (and_true (is_row n z && not (member z earlier)) _ e).1

  -- the state that fine entries leave
  entries_agree : (earlier owners zs : List ℤ) → Agrees n earlier owners → entries_fine n earlier zs ≡ true → Agrees n (zs ++ earlier) (claimed n (pos bone) (true, owners) zs).1
  entries_agree earlier owners [] a e = rw (claimed_none n (pos bone) (true, owners)) a
  entries_agree earlier owners (z ∷ zs) a e =
      let f = first_free earlier owners a z zs e in
      let r = entries_agree (z ∷ earlier) (after_claim n (pos bone) z owners) zs (claim_agrees n earlier owners a bone z f) (others_fine earlier owners a z zs e) in
      rw (claimed_free n (pos bone) owners z zs f) (record { long = r.long; says = λ p h. r.says p h ∙ ap not (member_swap (pos p) z zs earlier) })

  -- and the owner of each vertex
  unfoldable owner_after : ℕ → List ℤ → ℤ → ℤ
  owner_after p zs o = elim (member (pos p) zs) [ true ↦ pos bone | false ↦ o ]

  owner-first : (p : ℕ) (zs : List ℤ) (k : ℕ) (o : ℤ) → p ≡ k → owner_after p (pos k ∷ zs) o ≡ pos bone
  unfolding owner_after member same_number
  owner-first p zs k o e = rw (eq-eqb p k e, owner_after)

  owner-same : (p : ℕ) (zs : List ℤ) → owner_after p zs (pos bone) ≡ pos bone
  unfolding owner_after
  owner-same p zs = go (member (pos p) zs) refl
    where
      go : (b : Bool) → member (pos p) zs ≡ b → owner_after p zs (pos bone) ≡ pos bone
      go true e = rw (e, owner_after)
      go false e = rw (e, owner_after)

  owner-other : (p : ℕ) (zs : List ℤ) (k : ℕ) (o : ℤ) → (p ≡ k → ⊥) → owner_after p (pos k ∷ zs) o ≡ owner_after p zs o
  unfolding owner_after
  owner-other p zs k o e = rw (others, owner_after)
    where
      others : member (pos p) (pos k ∷ zs) ≡ member (pos p) zs
      others = unfold member same_number in rw (ne_eqb p k e)

  claim_owner : (owners : List ℤ) (z : ℤ) (zs : List ℤ) → n ≤ length owners → is_free n z owners ≡ true → (p : ℕ) → owner_after p zs (get_or (after_claim n (pos bone) z owners) p (pos 0)) ≡ owner_after p (z ∷ zs) (get_or owners p (pos 0))
  claim_owner owners (pos k) zs l e p = rw (claim_free n (pos k) owners (pos bone) e) (go (eqb p k) refl)
    where
      below : k < length owners
      below = let h = row_below (min n (length owners)) (pos k) (free_row n (pos k) owners e) in omega arith

      go : (b : Bool) → eqb p k ≡ b → owner_after p zs (get_or (set owners k (pos bone)) p (pos 0)) ≡ owner_after p (pos k ∷ zs) (get_or owners p (pos 0))
      go true f =
          ap (owner_after p zs) (ap (λ (i : ℕ). get_or (set owners k (pos bone)) i (pos 0)) (eqb-true p k f) ∙ get_or-set_same owners k (pos bone) (pos 0) below)
          ∙ owner-same p zs
          ∙ sym (owner-first p zs k (get_or owners p (pos 0)) (eqb-true p k f))
      go false f = rw (get_or-set_other owners k p (pos bone) (pos 0) (eqb-false p k f)) (sym (owner-other p zs k (get_or owners p (pos 0)) (eqb-false p k f)))
  claim_owner owners (negsuc k) zs l e p = absurd (false≢true (unfold is_free is_row in e))

  entries_owner : (earlier owners zs : List ℤ) → Agrees n earlier owners → entries_fine n earlier zs ≡ true → (p : ℕ) → get_or (claimed n (pos bone) (true, owners) zs).1 p (pos 0) ≡ owner_after p zs (get_or owners p (pos 0))
  entries_owner earlier owners [] a e p = rw (claimed_none n (pos bone) (true, owners)) (unfold owner_after member in refl)
  entries_owner earlier owners (z ∷ zs) a e p =
      let f = first_free earlier owners a z zs e in
      rw (claimed_free n (pos bone) owners z zs f)
      (entries_owner (z ∷ earlier) (after_claim n (pos bone) z owners) zs (claim_agrees n earlier owners a bone z f) (others_fine earlier owners a z zs e) p
      ∙ claim_owner owners z zs a.long f p)

  -- a vertex that fine entries name is named by no earlier one
  entries_fresh : (earlier zs : List ℤ) (z : ℤ) → entries_fine n earlier zs ≡ true → member z zs ≡ true → member z earlier ≡ false
  unfolding member entries_fine
  entries_fresh earlier [] z e m = absurd (false≢true m)
  entries_fresh earlier (y ∷ zs) z e m = go (same_number z y) refl (entries_fresh (y ∷ earlier) zs z (and_true (is_row n y && not (member y earlier)) _ e).1)
    where
      go : (b : Bool) → same_number z y ≡ b → (member z zs ≡ true → member z (y ∷ earlier) ≡ false) → member z earlier ≡ false
      go true s ih = rw (same_eq z y s) (not_true (member y earlier) (and_true (is_row n y) _ (and_true (is_row n y && not (member y earlier)) _ e).0).1)
      go false s ih = (or_false (same_number z y) (member z earlier) (ih (ap (λ (b : Bool). b || member z zs) (sym s) ∙ m))).1

-- ---- all bones

module _ (n : ℕ) where
  pub fine-bone : (row : ℕ) (s : Bool × List ℤ) → s.0 ≡ true → after_bone row s ≡ (clear, s.1)
  unfolding after_bone fault_at
  fine-bone row s e = rw e

  pub faulty_bone : (row : ℕ) (s : Bool × List ℤ) → s.0 ≡ false → after_bone row s ≡ (fault 11 row, s.1)
  unfolding after_bone fault_at
  faulty_bone row s e = rw e

  -- the first bone, where its entries are fine, and where they are not
  module _ (row : ℕ) (earlier owners : List ℤ) (b : Bone) (bs : List Bone) (a : Agrees n earlier owners) where
    abbrev after : List ℤ
    after = (claimed n (pos row) (true, owners) b.vertices).1

    bones-fine : entries_fine n earlier b.vertices ≡ true → claimed_bones n row (clear, owners) (b ∷ bs) ≡ claimed_bones n (suc row) (clear, after) bs
    unfolding claimed_bones
    bones-fine e = rw (bone-clear n row owners b.vertices, fine-bone row (claimed n (pos row) (true, owners) b.vertices) (entries_fault n row earlier owners b.vertices a ∙ e))

    bones-stop : entries_fine n earlier b.vertices ≡ false → claimed_bones n row (clear, owners) (b ∷ bs) ≡ (fault 11 row, after)
    unfolding claimed_bones
    bones-stop e = rw (bone-clear n row owners b.vertices, faulty_bone row (claimed n (pos row) (true, owners) b.vertices) (entries_fault n row earlier owners b.vertices a ∙ e)) (bones_faulty n (suc row) 11 row after bs)

    vertices-fine : entries_fine n earlier b.vertices ≡ true → vertices_fault n earlier row (b ∷ bs) ≡ vertices_fault n (b.vertices ++ earlier) (suc row) bs
    unfolding vertices_fault
    vertices-fine e = rw (e, vertices_fault)

    vertices-stop : entries_fine n earlier b.vertices ≡ false → vertices_fault n earlier row (b ∷ bs) ≡ fault 11 row
    unfolding vertices_fault
    vertices-stop e = rw (e, vertices_fault)

  bones-fault : (row : ℕ) (earlier owners : List ℤ) (bs : List Bone) → Agrees n earlier owners → (claimed_bones n row (clear, owners) bs).0 ≡ vertices_fault n earlier row bs
  bones-fault row earlier owners [] a = rw (bones_none n row (clear, owners)) (unfold vertices_fault in refl)
  bones-fault row earlier owners (b ∷ bs) a = go (entries_fine n earlier b.vertices) refl (λ e. bones-fault (suc row) (b.vertices ++ earlier) (after row earlier owners b bs a) bs (entries_agree n row earlier owners b.vertices a e))
    where
      go : (v : Bool) → entries_fine n earlier b.vertices ≡ v → (entries_fine n earlier b.vertices ≡ true → (claimed_bones n (suc row) (clear, after row earlier owners b bs a) bs).0 ≡ vertices_fault n (b.vertices ++ earlier) (suc row) bs) → (claimed_bones n row (clear, owners) (b ∷ bs)).0 ≡ vertices_fault n earlier row (b ∷ bs)
      go true e ih = rw (bones-fine row earlier owners b bs a e, vertices-fine row earlier owners b bs a e) (ih e)
      go false e ih = rw (bones-stop row earlier owners b bs a e, vertices-stop row earlier owners b bs a e)

  -- a vertex's owner: the one that it had, or the bone that names it
  unfoldable pick : Bool → ℤ → ℤ → ℤ
  pick true a b = a
  pick false a b = b

  pick_none : (o : ℤ) → pick (is_none o) (negsuc 0) o ≡ o
  unfolding pick
  pick_none o = go (is_none o) refl
    where
      go : (v : Bool) → is_none o ≡ v → pick (is_none o) (negsuc 0) o ≡ o
      go true e = rw e (sym (none_is o e))
      go false e = rw e

  owner_step : (row p : ℕ) (b : Bone) (bs : List Bone) (o : ℤ) → (member (pos p) b.vertices ≡ true → is_none o ≡ true) → pick (is_none (owner_after n row p b.vertices o)) (owner_from (suc row) (pos p) bs) (owner_after n row p b.vertices o) ≡ pick (is_none o) (owner_from row (pos p) (b ∷ bs)) o
  unfolding owner_after owner_from pick is_none
  owner_step row p b bs o k = go (member (pos p) b.vertices) refl
    where
      go : (v : Bool) → member (pos p) b.vertices ≡ v → pick (is_none (owner_after n row p b.vertices o)) (owner_from (suc row) (pos p) bs) (owner_after n row p b.vertices o) ≡ pick (is_none o) (owner_from row (pos p) (b ∷ bs)) o
      go true m = rw (k m, m, owner_after, owner_from)
      go false m = rw (m, owner_after, owner_from)

  bones-owner : (row : ℕ) (earlier owners : List ℤ) (bs : List Bone) → Agrees n earlier owners → vertices_fault n earlier row bs ≡ clear → (p : ℕ) → p < n → get_or (claimed_bones n row (clear, owners) bs).1 p (pos 0) ≡ pick (is_none (get_or owners p (pos 0))) (owner_from row (pos p) bs) (get_or owners p (pos 0))
  bones-owner row earlier owners [] a f p h = rw (bones_none n row (clear, owners)) (unfold owner_from in sym (pick_none (get_or owners p (pos 0))))
  bones-owner row earlier owners (b ∷ bs) a f p h = go (entries_fine n earlier b.vertices) refl (λ e g. bones-owner (suc row) (b.vertices ++ earlier) (after row earlier owners b bs a) bs (entries_agree n row earlier owners b.vertices a e) g p h)
    where
      go : (v : Bool) → entries_fine n earlier b.vertices ≡ v → (entries_fine n earlier b.vertices ≡ true → vertices_fault n (b.vertices ++ earlier) (suc row) bs ≡ clear → get_or (claimed_bones n (suc row) (clear, after row earlier owners b bs a) bs).1 p (pos 0) ≡ pick (is_none (get_or (after row earlier owners b bs a) p (pos 0))) (owner_from (suc row) (pos p) bs) (get_or (after row earlier owners b bs a) p (pos 0))) → get_or (claimed_bones n row (clear, owners) (b ∷ bs)).1 p (pos 0) ≡ pick (is_none (get_or owners p (pos 0))) (owner_from row (pos p) (b ∷ bs)) (get_or owners p (pos 0))
      go true e ih = rw (bones-fine row earlier owners b bs a e) (ih e (sym (vertices-fine row earlier owners b bs a e) ∙ f) ∙ rw (entries_owner n row earlier owners b.vertices a e p) (owner_step row p b bs (get_or owners p (pos 0)) (λ m. a.says p h ∙ ap not (entries_fresh n row earlier b.vertices (pos p) e m))))
      go false e ih = absurd (fault-not-clear 11 row (sym (vertices-stop row earlier owners b bs a e) ∙ f))

-- ---- what no claim alters

module _ (n : ℕ) where
  module _ (bone : ℤ) where
    claim_length : (z : ℤ) (owners : List ℤ) → length (after_claim n bone z owners) ≡ length owners
    claim_length z owners = go (is_free n z owners) refl
      where
        go : (v : Bool) → is_free n z owners ≡ v → length (after_claim n bone z owners) ≡ length owners
        go true e = rw (claim_free n z owners bone e) (length-set owners (nat_abs z) bone)
        go false e = rw (claim_taken n z owners bone e)

    claim_rest : (z : ℤ) (owners : List ℤ) → drop n (after_claim n bone z owners) ≡ drop n owners
    claim_rest z owners = go (is_free n z owners) refl
      where
        go : (v : Bool) → is_free n z owners ≡ v → drop n (after_claim n bone z owners) ≡ drop n owners
        go true e =
            let k : nat_abs z < min n (length owners) = row_below (min n (length owners)) z (free_row n z owners e) in
            rw (claim_free n z owners bone e) (drop-set-lt n owners (nat_abs z) bone (omega arith))
        go false e = rw (claim_taken n z owners bone e)

    one_kept : (fine : Bool) (owners : List ℤ) (z : ℤ) → (length (claimed_one n bone (fine, owners) z).1 ≡ length owners) × (drop n (claimed_one n bone (fine, owners) z).1 ≡ drop n owners)
    unfolding claimed_one
    one_kept true owners z = (claim_length z owners, claim_rest z owners)
    one_kept false owners z = (refl, refl)

    pub claimed-length : (s : Bool × List ℤ) (zs : List ℤ) → length (claimed n bone s zs).1 ≡ length s.1
    unfolding claimed
    claimed-length s [] = refl
    claimed-length s (z ∷ zs) = claimed-length (claimed_one n bone s z) zs ∙ (one_kept s.0 s.1 z).0

    pub claimed-rest : (s : Bool × List ℤ) (zs : List ℤ) → drop n (claimed n bone s zs).1 ≡ drop n s.1
    unfolding claimed
    claimed-rest s [] = refl
    claimed-rest s (z ∷ zs) = claimed-rest (claimed_one n bone s z) zs ∙ (one_kept s.0 s.1 z).1

  bone-kept : (row : ℕ) (f : Fault) (owners zs : List ℤ) → (length (claimed_bone n row (f, owners) zs).1 ≡ length owners) × (drop n (claimed_bone n row (f, owners) zs).1 ≡ drop n owners)
  unfolding claimed_bone after_bone
  bone-kept row clear owners zs = (claimed-length (pos row) (true, owners) zs, claimed-rest (pos row) (true, owners) zs)
  bone-kept row (fault k p) owners zs = (refl, refl)

  pub bones-length : (row : ℕ) (s : Fault × List ℤ) (bs : List Bone) → length (claimed_bones n row s bs).1 ≡ length s.1
  unfolding claimed_bones
  bones-length row s [] = refl
  bones-length row s (b ∷ bs) = bones-length (suc row) (claimed_bone n row s b.vertices) bs ∙ (bone-kept row s.0 s.1 b.vertices).0

  pub bones-rest : (row : ℕ) (s : Fault × List ℤ) (bs : List Bone) → drop n (claimed_bones n row s bs).1 ≡ drop n s.1
  unfolding claimed_bones
  bones-rest row s [] = refl
  bones-rest row s (b ∷ bs) = bones-rest (suc row) (claimed_bone n row s b.vertices) bs ∙ (bone-kept row s.0 s.1 b.vertices).1

-- ---- a whole figure: n vertices, all unclaimed at first, and whatever stands after them

pub owners_length : (bs : List Bone) (i n : ℕ) → length (owners_from bs i n) ≡ n
unfolding owners_from
owners_length bs i zero = refl
owners_length bs i (suc n) = ap suc (owners_length bs (suc i) n)

owners_at : (bs : List Bone) (i n p : ℕ) → p < n → get_or (owners_from bs i n) p (pos 0) ≡ owner_of bs (pos (i + p))
unfolding owners_from
owners_at bs i zero p h = absurd (omega arith)
owners_at bs i (suc n) zero h = rw (add-zero i)
owners_at bs i (suc n) (suc p) h = owners_at bs (suc i) n p (omega arith) ∙ ap (λ (k : ℕ). owner_of bs (pos k)) (omega arith)

module _ (n : ℕ) (rest : List ℤ) where
  abbrev pub unclaimed : List ℤ
  unclaimed = replicate n (negsuc 0) ++ rest

  unclaimed_at : (p : ℕ) → p < n → get_or unclaimed p (pos 0) ≡ negsuc 0
  unclaimed_at p h = get_or-append (replicate n (negsuc 0)) rest (pos 0) p (rw length-replicate h) ∙ get_or-replicate n p (negsuc 0) (pos 0) h

  unclaimed_agrees : Agrees n [] unclaimed
  unfolding member is_none
  unclaimed_agrees = record { long = rw (length-append, length-replicate) (omega arith); says = λ p h. rw (unclaimed_at p h) }

  pub claims-fault : (bs : List Bone) → (claimed_bones n 0 (clear, unclaimed) bs).0 ≡ vertices_fault n [] 0 bs
  claims-fault bs = bones-fault n 0 [] unclaimed bs unclaimed_agrees

  owner-is : (bs : List Bone) → vertices_fault n [] 0 bs ≡ clear → (p : ℕ) → p < n → get_or (claimed_bones n 0 (clear, unclaimed) bs).1 p (pos 0) ≡ get_or (owners_from bs 0 n) p (pos 0)
  unfolding pick is_none owner_of
  owner-is bs e p h = bones-owner n 0 [] unclaimed bs unclaimed_agrees e p h ∙ rw (unclaimed_at p h) (sym (owners_at bs 0 n p h ∙ ap (λ (k : ℕ). owner_of bs (pos k)) (zero-add p)))

  pub claims_owners : (bs : List Bone) → vertices_fault n [] 0 bs ≡ clear → (claimed_bones n 0 (clear, unclaimed) bs).1 ≡ owners_from bs 0 n ++ rest
  claims_owners bs e =
      sym (take-append-drop n owners)
      ∙ ap₂ (λ (a b : List ℤ). a ++ b)
      (ext_get_or (pos 0) (take n owners) (owners_from bs 0 n) (lengths ∙ sym (owners_length bs 0 n)) (λ p h. let k : p < n = omega (arith, h, lengths) in get_or-take n owners p (pos 0) k ∙ owner-is bs e p k))
      (bones-rest n 0 (clear, unclaimed) bs ∙ drop_at (replicate n (negsuc 0)) rest n (length-replicate n (negsuc 0)))
    where
      owners : List ℤ
      owners = (claimed_bones n 0 (clear, unclaimed) bs).1

      lengths : length (take n owners) ≡ n
      lengths = rw (length-take, bones-length n 0 (clear, unclaimed) bs, length-append, length-replicate) (omega arith)
