-- What reading answers at each of its ends is the definition's: the text refused, a rule broken, the lists set down.
use mathlib.Core.Path.{◌≡◌, refl, ap, sym, ◌∙◌}
use mathlib.Core.List.{List, [], ◌∷◌, ◌++◌}
use mathlib.Core.Bool.{Bool, true, false}
use mathlib.Core.Option.{none, some}
use Rattle.std.proofs.Common.{Option as Count, Some, None, unwrap_or}
use Prim.Native.Nat.{ℕ, ◌+◌, ◌*◌, ◌≤◌, ◌<◌}
use native.Mathlib.Omega.{arith}
use borrow.Author.Tests.{leb-true, leb-false}
use lib.Dec.{leb}
use lib.IntN.{ℤ, pos}
use lib.ListN.{length, take}
use Rattle.refusal.specs.Faults.{clear, fault}
use Rattle.text_tokens.specs.Tokens.{lex}
use Rattle.parse_spec.specs.Internal.Places.{place_of}
use Rattle.table_rows.specs.Flat.{flat}
use Rattle.table_rows.specs.Internal.Overlay.{overlay_at}
use Rattle.parse_rows.specs.Internal.Folds.{fold}
use Rattle.refusal.specs.Rules.{too_many}
use Rattle.refusal.specs.Outcomes.{Outcome, rejected, accepted, ruled, fitted, laid}
use Rattle.refusal.proofs.Rules.{or-first, count_clear}
use Rattle.parse_spec.proofs.Given.{Every}
use Rattle.parse_rows.proofs.Widths.{Wide, held, part-is, room-is}
use Rattle.tra4_text.specs.Movement.{Bone, Movement}
use Rattle.tra4_text.specs.Rules.{all_keys, channels_of, key_rows, counts_of, movement_counts, movement_fault}
use Rattle.tra4_text.specs.Layout.{name_numbers, bone_rows, layout_of}
use Rattle.tra4_bones.specs.Internal.Into.{bone_step}
use Rattle.tra4_bone.specs.Internal.Into.{Kept, kept}
use Rattle.tra4_parse.specs.declared.shape.Shape.{Shape}
use Rattle.tra4_parse.specs.Internal.Parse.{MovementValue, movement_value}
use Rattle.tra4_rules.specs.Internal.Order.{tables_fault}
use Rattle.tra4_rules.proofs.Laid.{Tenfold, in_tables, keys-beyond, tables_over, tables_within, tables_laid}
use Rattle.tra4.specs.Internal.Parse.{value_of}
use Rattle.tra4.specs.declared.setting.MovementAnswer.{MovementAnswer}
use Rattle.tra4.specs.Answers.{refused_with, answer_of}
use Rattle.tra4.specs.Internal.Answers.{Answered, total_of, counts_answer, down_answer, down_table, parts_of, Fits}
use Rattle.tra4.specs.Internal.Checks.{rules_fault, parsed_as, Held}
use Rattle.tra4_text.proofs.Names.{movement-placed}
use Rattle.tra4_text.proofs.Whole.{WholeBone, WholeMovement, movement-whole}
use Rattle.tra4_text.proofs.Layouts.{all_wide, rows_wide, rows_count, layout_length}
use Rattle.tra4.proofs.Bones.{fold-bones, fold_over}
use Rattle.tra4.proofs.Settings.{answer-is, table_is, refused_answered}
use Rattle.table_counts.specs.Counts.{movement_mosts, movement_lists}

-- ---- what is kept of bones

kept_some : (o : Count ℕ) (rows keys : List ℤ) (x : List ℤ × ℕ × List ℤ) → kept o rows keys ≡ some x → (o ≡ Some (unwrap_or o 0)) × (x ≡ (rows, unwrap_or o 0, keys))
unfolding kept
kept_some None rows keys x e = let z : ◌≡◌ {A = ℕ} 0 1 = cc in absurd (omega (arith, z))
kept_some (Some n) rows keys x e = (refl, cc)

kept_none : (o : Count ℕ) (rows keys : List ℤ) → kept o rows keys ≡ none → o ≡ None
unfolding kept
kept_none None rows keys e = refl
kept_none (Some n) rows keys e = let z : ◌≡◌ {A = ℕ} 0 1 = cc in absurd (omega (arith, z))

tenfold : (bs : List Bone) → Every WholeBone bs → Tenfold bs
tenfold [] h = tt
tenfold (b ∷ bs) h = (h.0.ten, tenfold bs h.1)

-- ---- the most rows of each list

bounds : (m : Movement) → too_many 0 (counts_of m) movement_mosts ≡ clear → (length m.bones ≤ 128) × (length (key_rows m) ≤ 4096) × (length m.patterns ≤ 256)
unfolding counts_of movement_counts movement_lists movement_mosts
bounds m h =
    let b = count_clear 0 (length m.bones) 128 _ _ h in
    let k = count_clear 1 (length (key_rows m)) 4096 _ _ b.1 in
    let p = count_clear 2 (length m.patterns) 256 _ _ k.1 in
    (b.0, k.0, p.0)

-- ---- the rules by equal counts and tables

same_tables : (t t' : ℤ) (n n' k k' p p' : ℕ) (bs ks ps : List ℤ) → t' ≡ t → n' ≡ n → k' ≡ k → p' ≡ p → tables_fault t' n' k' p' bs ks ps ≡ tables_fault t n k p bs ks ps
same_tables t t' n n' k k' p p' bs ks ps e f h i = rw (e, f, h, i)

held_rules : (m : Movement) (bs ks ps rb rk rp : List ℤ) → bs ≡ flat (bone_rows 0 m.bones) ++ rb → ks ≡ flat (key_rows m) ++ rk → ps ≡ flat m.patterns ++ rp → Tenfold m.bones → Wide 2 (key_rows m) → Wide 3 m.patterns → in_tables m bs ks ps ≡ movement_fault m
held_rules m bs ks ps rb rk rp e f h t w v = rw (e, f, h) (tables_laid m rb rk rp t w v)

same_parts : (t t' : ℤ) (a a' s s' : ℕ) (b b' k k' g g' : List ℤ) → t ≡ t' → a ≡ a' → s ≡ s' → b ≡ b' → k ≡ k' → g ≡ g' → (t ∷ pos a ∷ pos s ∷ []) ++ b ++ k ++ g ≡ (t' ∷ pos a' ∷ pos s' ∷ []) ++ b' ++ k' ++ g'
same_parts t t' a a' s s' b b' k k' g g' et ea es eb ek eg = rw (et, ea, es, eb, ek, eg)

count_few : (o : Count ℕ) (k : ℕ) → o ≡ Some (unwrap_or o 0) → k ≡ unwrap_or o 0 → unwrap_or o 4097 ≡ k
count_few None k e f = let z : ◌≡◌ {A = ℕ} 0 1 = cc in absurd (omega (arith, z))
count_few (Some n) k e f = sym f

count_over : (o : Count ℕ) → o ≡ None → unwrap_or o 4097 ≡ 4097
count_over o e = rw e

module _ {p : Shape} {b' k' g' : List ℤ} (h : Held p b' k' g') where
  -- how many keys were kept
  abbrev m : ℕ
  m = unwrap_or p.keys 0

  abbrev read : Movement
  read = h.read

  abbrev bones : List Bone
  bones = h.read.bones

  abbrev b : List ℤ
  b = h.bones_entry

  abbrev k : List ℤ
  k = h.keys_entry

  abbrev g : List ℤ
  g = h.patterns_entry

  whole : WholeMovement read
  whole = movement-whole (lex h.text) read h.left h.gives

  frames_are : read.total_frames ≡ p.total
  unfolding parsed_as value_of movement_value
  frames_are = ap (λ (v : MovementValue). v.total) h.kept_as

  name-is : place_of read.name ≡ (p.place, p.length)
  unfolding parsed_as value_of movement_value
  name-is = ap (λ (v : MovementValue). v.name) h.kept_as

  bones_are : fold bone_step (0, some (b, 0, k)) bones ≡ (p.bones, kept p.keys b' k')
  unfolding parsed_as value_of movement_value
  bones_are = ap (λ (v : MovementValue). v.bones) h.kept_as

  patterns_are : (length read.patterns ≡ p.patterns) × (overlay_at 0 (flat read.patterns) g ≡ g')
  unfolding parsed_as value_of movement_value
  patterns_are = (ap (λ (v : MovementValue). v.patterns.0) h.kept_as, ap (λ (v : MovementValue). v.patterns.1) h.kept_as)

  -- not too many keys: the tables begin with the rows
  module _ (few : length (key_rows read) ≤ 4096) where
    unfolded : (length bones ≡ p.bones) × (kept p.keys b' k' ≡ some (overlay_at 0 (flat (bone_rows 0 bones)) b, length (key_rows read), overlay_at 0 (flat (key_rows read)) k))
    unfolding key_rows
    unfolded =
        let q = sym (fold-bones 0 0 b k bones whole.bones (omega (arith, few))) ∙ bones_are in
        let i : 0 + length bones ≡ length bones = omega arith in
        let j : 0 + length (all_keys (channels_of bones)) ≡ length (all_keys (channels_of bones)) = omega arith in
        (sym i ∙ ap (λ (x : ℕ × Kept). x.0) q, sym (rw j at (ap (λ (x : ℕ × Kept). x.1) q)))

    not-over : p.keys ≡ Some m
    not-over = (kept_some p.keys b' k' _ unfolded.1).0

    tables : ◌≡◌ {A = List ℤ × ℕ × List ℤ} (overlay_at 0 (flat (bone_rows 0 bones)) b, length (key_rows read), overlay_at 0 (flat (key_rows read)) k) (b', m, k')
    tables = (kept_some p.keys b' k' _ unfolded.1).1

    bones-held : (length (bone_rows 0 bones) ≡ p.bones) × (overlay_at 0 (flat (bone_rows 0 bones)) b ≡ b')
    bones-held = (rows_count 0 bones ∙ unfolded.0, ap (λ (x : List ℤ × ℕ × List ℤ). x.0) tables)

    keys-held : (length (key_rows read) ≡ m) × (overlay_at 0 (flat (key_rows read)) k ≡ k')
    keys-held = (ap (λ (x : List ℤ × ℕ × List ℤ). x.1) tables, ap (λ (x : List ℤ × ℕ × List ℤ). x.2) tables)

    -- the rules over the tables are the movement's
    rules_few : rules_fault p b' k' g' ≡ movement_fault read
    unfolding rules_fault
    rules_few = same_tables read.total_frames p.total (length bones) p.bones (length (key_rows read)) (unwrap_or p.keys 4097) (length read.patterns) p.patterns b' k' g' (sym frames_are) (sym unfolded.0) (count_few p.keys (length (key_rows read)) not-over keys-held.0) (sym patterns_are.0) ∙ tables_within read b' k' g' laid_rules
      where
        laid_rules : too_many 0 (counts_of read) movement_mosts ≡ clear → in_tables read b' k' g' ≡ movement_fault read
        laid_rules o =
            let w = bounds read o in
            held_rules read b' k' g' _ _ _
            (sym bones-held.1 ∙ held 22 128 (bone_rows 0 bones) b (rows_wide 0 bones whole.bones) (omega (arith, rows_count 0 bones, w.0)) (omega (arith, h.bones_most)))
            (sym keys-held.1 ∙ held 2 4096 (key_rows read) k (unfold key_rows in (all_wide bones whole.bones)) few (omega (arith, h.keys_most)))
            (sym patterns_are.1 ∙ held 3 256 read.patterns g whole.patterns w.2 (omega (arith, h.patterns_most)))
            (tenfold bones whole.bones)
            (unfold key_rows in (all_wide bones whole.bones))
            whole.patterns

  -- too many
  rules_over : 4096 < length (key_rows read) → rules_fault p b' k' g' ≡ movement_fault read
  unfolding rules_fault key_rows counts_of movement_counts movement_lists
  rules_over many =
      let q = sym (fold_over 0 0 b k bones (omega arith) (omega (arith, many))) ∙ bones_are in
      let i : 0 + length bones ≡ length bones = omega arith in
      let o = kept_none p.keys b' k' (sym (ap (λ (x : ℕ × Kept). x.1) q)) in
      let c : length bones ≡ p.bones = sym i ∙ ap (λ (x : ℕ × Kept). x.0) q in
      same_tables p.total p.total (length bones) p.bones 4097 (unwrap_or p.keys 4097) p.patterns p.patterns b' k' g' refl (sym c) (count_over p.keys o) refl
      ∙ tables_over read (keys-beyond (length bones) (length (key_rows read)) (length read.patterns) many) p.total (length bones) 4097 p.patterns b' k' g' (keys-beyond (length bones) 4097 p.patterns (omega arith))

  rules : rules_fault p b' k' g' ≡ movement_fault read
  rules = go (leb (length (key_rows read)) 4096) refl
    where
      go : (v : Bool) → leb (length (key_rows read)) 4096 ≡ v → rules_fault p b' k' g' ≡ movement_fault read
      go true o = rules_few (leb-true _ _ o)
      go false o = rules_over (leb-false _ _ o)

  -- a rule is broken
  module _ {n i : ℕ} (e : rules_fault p b' k' g' ≡ fault n i) where
    broken : ruled read (movement_fault read) ≡ rejected n i
    unfolding ruled
    broken = rw (sym rules ∙ e)

    pub broken_rows : {r : MovementAnswer} → r ≡ refused_with n i → (table : List ℤ) → Answered (ruled read (movement_fault read)) table table r
    broken_rows a table = refused_answered broken a table

  -- none is
  module _ (e : rules_fault p b' k' g' ≡ clear) where
    clean : movement_fault read ≡ clear
    clean = sym rules ∙ e

    taken : ruled read (movement_fault read) ≡ accepted read
    unfolding ruled
    taken = rw clean

    within : (length read.bones ≤ 128) × (length (key_rows read) ≤ 4096) × (length read.patterns ≤ 256)
    unfolding movement_fault
    within = bounds read (or-first _ _ clean)

    keys_two : Wide 2 (key_rows read)
    unfolding key_rows
    keys_two = all_wide bones whole.bones

    rows_few : length (bone_rows 0 bones) ≤ 128
    rows_few = rw (rows_count 0 bones) within.0

    bones-part : take (p.bones * 22) b' ≡ flat (bone_rows 0 bones)
    bones-part = part-is 22 128 p.bones (bone_rows 0 bones) b b' (rows_wide 0 bones whole.bones) rows_few (omega (arith, h.bones_most)) (bones-held within.1)

    keys-part : take (m * 2) k' ≡ flat (key_rows read)
    keys-part = part-is 2 4096 m (key_rows read) k k' keys_two within.1 (omega (arith, h.keys_most)) (keys-held within.1)

    patterns-part : take (p.patterns * 3) g' ≡ flat read.patterns
    patterns-part = part-is 3 256 p.patterns read.patterns g g' whole.patterns within.2 (omega (arith, h.patterns_most)) patterns_are

    parts : parts_of p b' k' g' ≡ layout_of read
    unfolding parts_of layout_of name_numbers place_of
    parts = same_parts _ _ _ _ _ _ _ _ _ _ _ _ (sym frames_are) (sym (ap (λ (x : ℕ × ℕ). x.0) name-is)) (sym (ap (λ (x : ℕ × ℕ). x.1) name-is)) bones-part keys-part patterns-part

    total : total_of p ≡ length (layout_of read)
    unfolding total_of
    total = rw (layout_length read whole, (unfolded within.1).0, (keys-held within.1).0, patterns_are.0)

    counts : counts_answer p ≡ answer_of (accepted read)
    unfolding counts_answer answer_of movement_counts
    counts = rw (total, (unfolded within.1).0, (keys-held within.1).0, patterns_are.0)

    pub rows_fit : Fits p b' k' g'
    unfolding total_of place_of
    rows_fit =
        let n = (movement-placed h.text read h.left h.gives).own in
        let at : read.name.at ≡ p.place = ap (λ (x : ℕ × ℕ). x.0) name-is in
        let size : length read.name.bytes ≡ p.length = ap (λ (x : ℕ × ℕ). x.1) name-is in
        record {
          place = rw (← at) (omega (arith, n.0, h.short));
          size = rw (← size) (omega (arith, n.1, h.short));
          total = omega (arith, within.0, within.1, within.2, (unfolded within.1).0, (keys-held within.1).0, patterns_are.0);
          bones = room-is 22 128 p.bones (bone_rows 0 bones) b b' (rows_wide 0 bones whole.bones) rows_few (omega (arith, h.bones_most)) (bones-held within.1);
          keys = room-is 2 4096 m (key_rows read) k k' keys_two within.1 (omega (arith, h.keys_most)) (keys-held within.1);
          patterns = room-is 3 256 p.patterns read.patterns g g' whole.patterns within.2 (omega (arith, h.patterns_most)) patterns_are;
        }

    pub down_rows : (table exit : List ℤ) {r : MovementAnswer} → r ≡ down_answer p (length table) → exit ≡ down_table p (parts_of p b' k' g') table → Answered (ruled read (movement_fault read)) table exit r
    down_rows table exit a c =
        record {
          answer = a ∙ answer-is read p total counts (length table) ∙ ap (λ (o : Outcome Movement). answer_of (fitted layout_of (length table) o)) (sym taken);
          content = c ∙ ap (λ (l : List ℤ). down_table p l table) parts ∙ table_is read p total table ∙ ap (λ (o : Outcome Movement). laid layout_of table (fitted layout_of (length table) o)) (sym taken);
        }
