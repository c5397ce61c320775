-- What holds of a rule's fault, if there is one, where it holds of the rule's number at every place; one law a rule.
use mathlib.Core.List.{List, [], ◌∷◌, ◌++◌}
use mathlib.Core.Bool.{Bool, true, false, cond, ◌&&◌}
use mathlib.Core.Option.{Option, some}
use Prim.Native.Nat.{ℕ, suc, ◌+◌}
use lib.Dec.{leb, eqb}
use lib.IntN.{ℤ, pos}
use lib.Signed.{le_z}
use lib.ListN.{length}
use Rattle.refusal.specs.Faults.{Fault, clear, fault}
use Rattle.refusal.specs.Rules.{or_else, too_many}
use Rattle.bac6_text.specs.Figure as bac6
use Rattle.bac6_text.specs.Rules as figures
use Rattle.bac6_text.specs.Rules.{Placed, placed, short, normals_fault, placed_fault, bones_fault, entries_fine, vertices_fault, figure_fault}
use Rattle.refusal.specs.FirstBad.{first_bad}
use Rattle.tra4_text.specs.Movement as tra4
use Rattle.tra4_text.specs.Movement.{frame_of}
use Rattle.tra4_text.specs.Rules.{total_fault, channel_fault, key_fine, keys_fault, has_start, start_fault, patterns_fault, movement_fault}
use Rattle.pair_text.specs.Rules as pairs
use Rattle.pair_text.specs.Rules.{names_agree, names_fault, groups_fault, pair_fault}
use Rattle.refusal_laws.proofs.Texts.{Faulty}

module _ (R : ℕ → ℕ → Type 0) where
  -- at every place
  abbrev pub Anywhere : ℕ → Type 0
  Anywhere n = (p : ℕ) → R n p

  or_faulty : (a c : Fault) → Faulty R a → Faulty R c → Faulty R (or_else a c)
  unfolding or_else
  or_faulty clear c h k = k
  or_faulty (fault n p) c h k = h

  -- a test that passes on to the next fault, or fails
  test_faulty : (v : Bool) (a : Fault) {n p : ℕ} → Faulty R a → R n p → Faulty R (elim v as (λ x. Fault) [ true ↦ a | false ↦ fault n p ])
  test_faulty true a h k = h
  test_faulty false a h k = k

  unless : (v : Bool) (n p : ℕ) → Anywhere n → Faulty R (cond v clear (fault n p))
  unless true n p h = tt
  unless false n p h = h p

  many_faulty : (i : ℕ) (ns ms : List ℕ) → Anywhere 8 → Faulty R (too_many i ns ms)
  unfolding too_many
  many_faulty i [] ms h = tt
  many_faulty i (n ∷ ns) [] h = tt
  many_faulty i (n ∷ ns) (m ∷ ms) h = test_faulty (leb n m) _ (many_faulty (suc i) ns ms h) (h i)

  first_faulty : {A : Type 0} (n : ℕ) (t : A → Bool) (row : ℕ) (l : List A) → Anywhere n → Faulty R (first_bad n t row l)
  unfolding first_bad
  first_faulty n t row [] h = tt
  first_faulty n t row (a ∷ l) h = test_faulty (t a) _ (first_faulty n t (suc row) l h) (h row)

  -- ---- a figure's: 8 to 13

  placed_faulty : (n : ℕ) (q : Placed) → Anywhere 10 → Faulty R (placed_fault n q)
  unfolding placed_fault
  placed_faulty n short h = h n
  placed_faulty n (placed ps row []) h = tt
  placed_faulty n (placed ps row (f ∷ flags)) h = h row

  vertices_faulty : (n : ℕ) (earlier : List ℤ) (row : ℕ) (bs : List bac6.Bone) → Anywhere 11 → Faulty R (vertices_fault n earlier row bs)
  unfolding vertices_fault
  vertices_faulty n earlier row [] h = tt
  vertices_faulty n earlier row (x ∷ bs) h = test_faulty (entries_fine n earlier x.vertices) _ (vertices_faulty n (x.vertices ++ earlier) (suc row) bs h) (h row)

  pub figure_faulty : (f : bac6.Figure) → Anywhere 8 → Anywhere 9 → Anywhere 10 → Anywhere 11 → Anywhere 12 → Anywhere 13 → Faulty R (figure_fault f)
  unfolding figure_fault normals_fault bones_fault
  figure_faulty f h8 h9 h10 h11 h12 h13 =
      or_faulty _ _ (many_faulty 0 _ _ h8)
      (or_faulty _ _ (unless (eqb (length f.points) (length f.normals)) 9 _ h9)
      (or_faulty _ _ (placed_faulty _ _ h10)
      (or_faulty _ _ (vertices_faulty _ [] 0 f.bones h11)
      (or_faulty _ _ (first_faulty 12 _ 0 f.materials h12)
      (first_faulty 13 _ 0 (figures.faces_of f) h13)))))

  -- ---- a movement's: 8 and 14 to 16

  channel_faulty : (total : ℤ) (before : Option ℤ) (row : ℕ) (ks : tra4.Channel) → Anywhere 15 → Faulty R (channel_fault total before row ks)
  unfolding channel_fault
  channel_faulty total before row [] h = tt
  channel_faulty total before row (k ∷ ks) h = test_faulty (key_fine total before k) _ (channel_faulty total (some (frame_of k)) (suc row) ks h) (h row)

  keys_faulty : (total : ℤ) (row : ℕ) (cs : List tra4.Channel) → Anywhere 15 → Faulty R (keys_fault total row cs)
  unfolding keys_fault
  keys_faulty total row [] h = tt
  keys_faulty total row (c ∷ cs) h = or_faulty _ _ (channel_faulty total _ row c h) (keys_faulty total (row + length c) cs h)

  start_faulty : (ps : List tra4.Pattern) → Anywhere 16 → Faulty R (start_fault ps)
  unfolding start_fault
  start_faulty [] h = tt
  start_faulty (p ∷ ps) h = unless (has_start (p ∷ ps)) 16 0 h

  pub movement_faulty : (m : tra4.Movement) → Anywhere 8 → Anywhere 14 → Anywhere 15 → Anywhere 16 → Faulty R (movement_fault m)
  unfolding movement_fault total_fault patterns_fault
  movement_faulty m h8 h14 h15 h16 =
      or_faulty _ _ (many_faulty 0 _ _ h8)
      (or_faulty _ _ (unless (le_z (pos 1) m.total_frames && le_z m.total_frames (pos 32767)) 14 0 h14)
      (or_faulty _ _ (keys_faulty _ 0 _ h15)
      (or_faulty _ _ (start_faulty m.patterns h16) (first_faulty 16 _ 0 m.patterns h16))))

  -- ---- a pair's: 18 to 20

  names_faulty : (row : ℕ) (names moved : List (List ℕ)) → Anywhere 19 → Faulty R (names_fault row names moved)
  unfolding names_fault
  names_faulty row [] moved h = tt
  names_faulty row (a ∷ names) [] h = tt
  names_faulty row (a ∷ names) (c ∷ moved) h = test_faulty (names_agree a c) _ (names_faulty (suc row) names moved h) (h row)

  pub pair_faulty : (names : List (List ℕ)) (groups : ℕ) (m : tra4.Movement) → Anywhere 18 → Anywhere 19 → Anywhere 20 → Faulty R (pair_fault names groups m)
  unfolding pair_fault pairs.bones_fault groups_fault
  pair_faulty names groups m h18 h19 h20 =
      or_faulty _ _ (unless (eqb (length names) (length m.bones)) 18 _ h18)
      (or_faulty _ _ (names_faulty 0 names _ h19)
      (first_faulty 20 _ 0 m.patterns h20))
