-- Where a channel of a bone stands: its pair in the bone's row says its first key row and its count, by induction on the channels and on the bones.
use mathlib.Core.Path.{◌≡◌, refl, ap, sym, ◌∙◌}
use mathlib.Core.List.{List, [], ◌∷◌, ◌++◌, map, append_assoc}
use Prim.Native.Nat.{ℕ, zero, suc, ◌+◌, ◌*◌, ◌<◌}
use native.Mathlib.Omega.{arith}
use lib.IntN.{ℤ, pos, nat_abs}
use lib.ListN.{length, get_or, length-append}
use Rattle.parse_spec.proofs.Given.{Every}
use Rattle.tra4_text.specs.Movement.{Channel, Bone}
use Rattle.tra4_text.specs.Rules.{all_keys, channels_of}
use Rattle.tra4_text.specs.Layout.{name_numbers, first_row, key_ranges, bone_row, bone_rows}
use Rattle.tra4_text.proofs.Whole.{WholeBone}
use Rattle.tra4_text.proofs.Layouts.{keys-append}

-- a channel among others, with the pair of numbers that says where its keys are, if those of the first begin at a row
pub record Found (cs : List Channel) (row : ℕ) (c : Channel) (first count : ℤ) : Type 0 where
  pub before : List Channel
  pub behind : List Channel
  pub splits : cs ≡ before ++ (c ∷ behind)
  pub first_is : first ≡ pos (first_row (row + length (all_keys before)) (length c))
  pub count_is : count ≡ pos (length c)

-- its pair is 0 and 0 exactly where it has no keys
module _ {cs : List Channel} {row : ℕ} {f n : ℤ} where
  pub found_none : (c : Channel) → Found cs row c f n → c ≡ [] → (f ≡ pos 0) × (n ≡ pos 0)
  unfolding first_row
  found_none [] s e = (s.first_is, s.count_is)
  found_none (k ∷ c) s e = absurd (let z = ap length e in omega arith)

  pub none_found : (c : Channel) → Found cs row c f n → n ≡ pos 0 → c ≡ []
  none_found [] s e = refl
  none_found (k ∷ c) s e = absurd (let z = ap nat_abs (sym s.count_is ∙ e) in omega arith)

-- the same with channels before all of these, and after
found_later : (a cs : List Channel) (row next : ℕ) (c : Channel) (f n : ℤ) → next ≡ row + length (all_keys a) → Found cs next c f n → Found (a ++ cs) row c f n
found_later a cs row next c f n e s =
    let counted : length (all_keys (a ++ s.before)) ≡ length (all_keys a) + length (all_keys s.before) = ap length (keys-append a s.before) ∙ length-append (all_keys a) (all_keys s.before) in
    let rows : next + length (all_keys s.before) ≡ row + length (all_keys (a ++ s.before)) = omega arith in
    record {
      before = a ++ s.before;
      behind = s.behind;
      splits = ap (λ (l : List Channel). a ++ l) s.splits ∙ sym (append_assoc a s.before (c ∷ s.behind));
      first_is = s.first_is ∙ ap (λ (r : ℕ). pos (first_row r (length c))) rows;
      count_is = s.count_is;
    }

found_sooner : (cs a : List Channel) (row : ℕ) (c : Channel) (f n : ℤ) → Found cs row c f n → Found (cs ++ a) row c f n
found_sooner cs a row c f n s =
    record {
      before = s.before;
      behind = s.behind ++ a;
      splits = ap (λ (l : List Channel). l ++ a) s.splits ∙ append_assoc s.before (c ∷ s.behind) a;
      first_is = s.first_is;
      count_is = s.count_is;
    }

-- ---- among the channels of a bone

in-ranges : (row : ℕ) (cs : List Channel) (k j : ℕ) → k < length cs → j ≡ k * 2 → Found cs row (get_or cs k []) (get_or (key_ranges row cs) j (pos 0)) (get_or (key_ranges row cs) (suc j) (pos 0))
unfolding key_ranges all_keys
in-ranges row [] k j h e = absurd (omega arith)
in-ranges row (c ∷ cs) zero zero h e = let z : row ≡ row + 0 = omega arith in record { before = []; behind = cs; splits = refl; first_is = ap (λ (r : ℕ). pos (first_row r (length c))) z; count_is = refl }
in-ranges row (c ∷ cs) zero (suc j) h e = absurd (omega arith)
in-ranges row (c ∷ cs) (suc k) zero h e = absurd (omega arith)
in-ranges row (c ∷ cs) (suc k) (suc zero) h e = absurd (omega arith)
in-ranges row (c ∷ cs) (suc k) (suc (suc j)) h e =
    found_later (c ∷ []) cs row (row + length c) _ _ _ (let l = length-append c [] in omega arith) (in-ranges (row + length c) cs k j (omega arith) (omega arith))

-- ---- among those of all bones

abbrev pub channels_at : List Bone → ℕ → List Channel
channels_at bs bone = get_or (map (λ (b : Bone). b.channels) bs) bone []

pub in_rows : (row : ℕ) (bs : List Bone) (bone k j : ℕ) → Every WholeBone bs → bone < length bs → k < 10 → j ≡ k * 2 → Found (channels_of bs) row (get_or (channels_at bs bone) k []) (get_or (get_or (bone_rows row bs) bone []) (suc (suc j)) (pos 0)) (get_or (get_or (bone_rows row bs) bone []) (suc (suc (suc j))) (pos 0))
unfolding bone_rows bone_row name_numbers channels_of
in_rows row [] bone k j w h l e = absurd (omega arith)
in_rows row (b ∷ bs) zero k j w h l e = found_sooner b.channels (channels_of bs) row _ _ _ (in-ranges row b.channels k j (omega (arith, w.0.ten)) e)
in_rows row (b ∷ bs) (suc bone) k j w h l e =
    found_later b.channels (channels_of bs) row (row + length (all_keys b.channels)) _ _ _ refl (in_rows (row + length (all_keys b.channels)) bs bone k j w.1 (omega arith) l e)
