-- A channel more in what the code holds: the parts of the table below the new keys are kept, and the new keys stand after them.
use mathlib.Core.Path.{◌≡◌, refl, ap, sym, ◌∙◌}
use mathlib.Core.List.{List}
use mathlib.Core.Bool.{Bool, true, false, false≢true, true≢false}
use mathlib.Core.Option.{Option, none, some}
use Prim.Native.Nat.{ℕ, ◌+◌, ◌*◌, ◌-◌, ◌≤◌, ◌<◌}
use native.Mathlib.Omega.{arith}
use borrow.Author.Tests.{eqb-true, eqb-false}
use lib.Dec.{eqb}
use lib.IntN.{ℤ, pos}
use lib.ListN.{length, get_or, set, take, drop, length-set}
use lib.Seq.{get_or-set_same, get_or-set_other}
use Rattle.table_rows.specs.Internal.Overlay.{overlay_at}
use Rattle.table_rows.specs.Flat.{flat}
use Rattle.table_rows.proofs.Tables.{overlay_at-length, overlay_at-part, overlay_at-below}
use Rattle.tra4_text.specs.Movement.{Channel}
use Rattle.tra4_text.specs.Grammar.{keys_in}
use Rattle.tra4_channels.specs.Internal.Held.{keys_read, Stored, Held}
use Rattle.tra4_channels.proofs.Counts.{Pairs, flat_pairs, keys-set}

none_some : {A : Type 0} (a : A) → none ≡ some a → ⊥
none_some a e = let z : ◌≡◌ {A = ℕ} 0 1 = cc in omega arith

-- a channel's keys and range are as they were
stored_still : (keys : List ℤ) (n m : ℕ) (zs : List ℤ) (f g f' g' : ℤ) (c : Channel) → f' ≡ f → g' ≡ g → n ≤ m → Stored keys n f g c → Stored (overlay_at (n * 2) zs keys) m f' g' c
stored_still keys n m zs f g f' g' c p q h s =
    record {
      row = s.row;
      first_is = p ∙ s.first_is;
      count_is = q ∙ s.count_is;
      below = omega (arith, s.below);
      content = overlay_at-below (s.row * 2) (length c * 2) (n * 2) zs keys (omega (arith, s.below)) ∙ s.content;
    }

-- the new channel's
stored_new : (keys : List ℤ) (n : ℕ) (c : Channel) (f g : ℤ) → f ≡ pos n → g ≡ pos (length c) → Pairs c → n * 2 + length c * 2 ≤ length keys → Stored (overlay_at (n * 2) (flat c) keys) (n + length c) f g c
stored_new keys n c f g p q w h =
    let l = flat_pairs c w in
    record {
      row = n;
      first_is = p;
      count_is = q;
      below = omega arith;
      content = ap (λ (m : ℕ). take m (drop (n * 2) (overlay_at (n * 2) (flat c) keys))) (sym l) ∙ overlay_at-part (n * 2) (flat c) keys (rw l h);
    }

module _ (fs : List (Option Channel)) (ranges keys : List ℤ) (n : ℕ) (over : Bool) (k : ℕ) (b : k < 10) (u : get_or fs k none ≡ none) (h : Held fs ranges keys n over) (c : Channel) where
  here : k < length fs
  here = rw h.ten b

  ten_still : length (set fs k (some c)) ≡ 10
  ten_still = length-set fs k (some c) ∙ h.ten

  -- of the channels that have not been read now it is none
  other_none : (j : ℕ) → get_or (set fs k (some c)) j none ≡ none → (j ≡ k → ⊥) × (get_or fs j none ≡ none)
  other_none j e = go (eqb j k) refl
    where
      go : (v : Bool) → eqb j k ≡ v → (j ≡ k → ⊥) × (get_or fs j none ≡ none)
      go true q = absurd (none_some c (sym e ∙ ap (λ (i : ℕ). get_or (set fs k (some c)) i none) (eqb-true j k q) ∙ get_or-set_same fs k (some c) none here))
      go false q = let other = eqb-false j k q in (other, sym (get_or-set_other fs k j (some c) none other) ∙ e)

  counted_more : keys_read (set fs k (some c)) ≡ keys_read fs + length c
  counted_more = keys-set fs k c here u

  -- too many, before or now: nothing is told of the table
  too_many_lem : 4096 < keys_read fs + length c → Held (set fs k (some c)) ranges (overlay_at (n * 2) (flat c) keys) n true
  too_many_lem m =
      record {
        ten = ten_still;
        width = h.width;
        room = overlay_at-length (n * 2) (flat c) keys ∙ h.room;
        most = h.most;
        counted = λ e. absurd (true≢false e);
        many = λ e. rw counted_more m;
        stored = λ e. absurd (true≢false e);
        zeros = λ j l e. h.zeros j l (other_none j e).1;
      }

  -- the table with the keys, and how many they are
  module _ (keys' : List ℤ) (m : ℕ) (t : overlay_at (n * 2) (flat c) keys ≡ keys') (q : length c ≡ m) where
    pub held-over : over ≡ true → Held (set fs k (some c)) ranges keys' n over
    held-over e = rw (e, ← t) (too_many_lem (omega (arith, h.many e)))

    pub held-many : over ≡ false → 4096 - n < m → Held (set fs k (some c)) ranges keys' n true
    held-many e f = rw (← t) (too_many_lem (omega (arith, q, h.counted e, h.most)))

  -- room for all
  module _ (w : Pairs c) (e : over ≡ false) (m : length c ≤ 4096 - n) where
    abbrev ranges' : List ℤ
    ranges' = set (set ranges (k * 2) (pos n)) (k * 2 + 1) (pos (length c))

    all_held : Held (set fs k (some c)) ranges' (overlay_at (n * 2) (flat c) keys) (n + length c) false
    unfolding keys_in
    all_held =
        record {
          ten = ten_still;
          width = length-set (set ranges (k * 2) (pos n)) (k * 2 + 1) (pos (length c)) ∙ length-set ranges (k * 2) (pos n) ∙ h.width;
          room = overlay_at-length (n * 2) (flat c) keys ∙ h.room;
          most = omega (arith, h.most);
          counted = λ _. counted_more ∙ ap (λ (x : ℕ). x + length c) (h.counted e);
          many = λ x. absurd (false≢true x);
          stored = λ _ j l. go j l (eqb j k) refl;
          zeros = λ j l e. left j l (other_none j e);
        }
      where
        first : get_or ranges' (k * 2) (pos 0) ≡ pos n
        first = get_or-set_other (set ranges (k * 2) (pos n)) (k * 2 + 1) (k * 2) (pos (length c)) (pos 0) (λ q. omega arith) ∙ get_or-set_same ranges (k * 2) (pos n) (pos 0) (omega (arith, h.width))

        count : get_or ranges' (k * 2 + 1) (pos 0) ≡ pos (length c)
        count = get_or-set_same (set ranges (k * 2) (pos n)) (k * 2 + 1) (pos (length c)) (pos 0) (rw length-set (omega (arith, h.width)))

        others : (i : ℕ) → (i ≡ k * 2 → ⊥) → (i ≡ k * 2 + 1 → ⊥) → get_or ranges' i (pos 0) ≡ get_or ranges i (pos 0)
        others i p q = get_or-set_other (set ranges (k * 2) (pos n)) (k * 2 + 1) i (pos (length c)) (pos 0) q ∙ get_or-set_other ranges (k * 2) i (pos n) (pos 0) p

        left : (j : ℕ) → j < 10 → (j ≡ k → ⊥) × (get_or fs j none ≡ none) → (get_or ranges' (j * 2) (pos 0) ≡ pos 0) × (get_or ranges' (j * 2 + 1) (pos 0) ≡ pos 0)
        left j l n =
            let z = h.zeros j l n.1 in
            (others (j * 2) (λ q. n.0 (omega arith)) (λ q. omega arith) ∙ z.0, others (j * 2 + 1) (λ q. omega arith) (λ q. n.0 (omega arith)) ∙ z.1)

        go : (j : ℕ) → j < 10 → (v : Bool) → eqb j k ≡ v → Stored (overlay_at (n * 2) (flat c) keys) (n + length c) (get_or ranges' (j * 2) (pos 0)) (get_or ranges' (j * 2 + 1) (pos 0)) (keys_in (get_or (set fs k (some c)) j none))
        go j l true q = rw (eqb-true j k q, get_or-set_same fs k (some c) none here) (stored_new keys n c _ _ first count w (omega (arith, h.room, h.most)))
        go j l false q =
            let other = eqb-false _ _ q in
            rw (get_or-set_other fs k j (some c) none other)
            (stored_still keys n (n + length c) (flat c) _ _ _ _ _ (others (j * 2) (λ z. other (omega arith)) (λ z. omega arith)) (others (j * 2 + 1) (λ z. omega arith) (λ z. other (omega arith))) (omega arith) (h.stored e j l))

  pub held_more : (keys' : List ℤ) (m : ℕ) → overlay_at (n * 2) (flat c) keys ≡ keys' → length c ≡ m → Pairs c → over ≡ false → m ≤ 4096 - n → Held (set fs k (some c)) (set (set ranges (k * 2) (pos n)) (k * 2 + 1) (pos m)) keys' (n + m) over
  held_more keys' m t q w e f = rw (e, ← t, ← q) (all_held w e (omega arith))

-- how many there are does not matter where there are too many
pub uncounted : {fs : List (Option Channel)} {ranges keys : List ℤ} {n : ℕ} → Held fs ranges keys n true → Held fs ranges keys 0 true
uncounted h =
    record {
      ten = h.ten;
      width = h.width;
      room = h.room;
      most = omega arith;
      counted = λ e. absurd (false≢true (sym e));
      many = h.many;
      stored = λ e. absurd (false≢true (sym e));
      zeros = h.zeros;
    }
