-- What was parsed of a figure: its counts and parts are the figure's, so are the rules over them, and where none is broken, the numbers that are laid are its layout.
use mathlib.Core.Path.{◌≡◌, ap, ap₂, subst, sym, ◌∙◌}
use mathlib.Core.List.{List, [], ◌∷◌, ◌++◌}
use Prim.Native.Nat.{ℕ, zero, suc, ◌-◌, ◌*◌, ◌≤◌, ◌<◌}
use native.Mathlib.Omega.{arith}
use lib.IntN.{ℤ, pos, negsuc}
use lib.ListN.{length, take, drop, replicate}
use lib.Seq.{take_at}
use Rattle.refusal.specs.Faults.{Fault, clear, fault}
use Rattle.refusal.specs.Rules.{too_many}
use Rattle.refusal.specs.Outcomes.{Outcome, rejected, accepted, ruled}
use Rattle.refusal.proofs.Rules.{or-first, or_second}
use Rattle.table_counts.specs.declared.counts.FigureCounts.{FigureCounts}
use Rattle.table_counts.specs.Counts.{figure_mosts}
use Rattle.table_rows.specs.Flat.{flat}
use Rattle.table_rows.specs.Internal.Overlay.{overlay_at}
use Rattle.table_rows.proofs.Chains.{overlay-whole}
use Rattle.text_tokens.specs.Tokens.{lex}
use Rattle.parse_spec.specs.Internal.Places.{place_of}
use Rattle.parse_rows.proofs.Widths.{part-is}
use Rattle.bac6_text.specs.Figure.{Figure}
use Rattle.bac6_text.specs.Rules.{counts_of, figure_counts, flags_of, whole_list, bones_fault, vertices_fault, figure_fault}
use Rattle.bac6_text.specs.Layout.{layout_of, name_numbers, bone_rows, owners_from, face_rows, group_names}
use Rattle.bac6_text.proofs.Names.{figure-placed}
use Rattle.bac6_text.proofs.Parents.{whole_length}
use Rattle.bac6_text.proofs.Rows.{flags_count}
use Rattle.bac6_text.proofs.Whole.{WholeFigure, figure-whole, faces-whole}
use Rattle.bac6_bones.specs.Internal.Into.{fault_of}
use Rattle.bac6_bone_rules.specs.Internal.Bones.{flags_in, Settled}
use Rattle.bac6_owners.specs.Internal.Claims.{claimed_bones}
use Rattle.bac6_rules.specs.Internal.Order.{counts_fault, tables_fault}
use Rattle.bac6_owners.proofs.Claims.{unclaimed, claims-fault, claims_owners, owners_length}
use Rattle.bac6_rules.proofs.Orders.{tables_within, tables_laid, bones-left}
use Rattle.bac6_shape.specs.declared.shape.Parsed.{Parsed}
use Rattle.bac6_shape.specs.Internal.Parse.{Kept, kept_of, row_numbers}
use Rattle.bac6_shape.specs.Internal.Answers.{kept_by}
use Rattle.bac6_layout.specs.Internal.Places.{materials_from, bones_from, faces_from}
use Rattle.bac6_layout.specs.Internal.Numbers.{numbers_of}
use Rattle.bac6_check.specs.Internal.Rows.{rows_fault, PlacedIn, RowsLeft}
use Rattle.bac6_check.proofs.Parts.{placed-left}
use Rattle.bac6.specs.Internal.Places.{Within, total_of}
use Rattle.bac6.specs.declared.setting.FigureAnswer.{FigureAnswer}
use Rattle.bac6.specs.Answers.{refused_with}
use Rattle.bac6.specs.Internal.Answers.{Answered, laid_numbers}
use Rattle.bac6.specs.Internal.Checks.{rules_fault, Held}
use Rattle.bac6.proofs.Limits.{within_by, within-counts, rows_few}
use Rattle.bac6.proofs.Numbers.{front, after, zeros, zeros_count, rows_same, rows-length, materials-part, bones-part, front_part, faces-part, first_part, second_part, parents, layout_parts, layout_length, groups_wide, groups_count}
use Rattle.bac6.proofs.Settings.{refused_answered, short_answered, long_answered}

-- as many unclaimed vertices as there are points, and the others
unclaimed_parts : (n k : ℕ) → n ≤ k → replicate k (negsuc 0) ≡ unclaimed n (replicate (k - n) (negsuc 0))
unclaimed_parts zero k h = let z : k - 0 ≡ k = omega arith in rw z
unclaimed_parts (suc n) zero h = absurd (omega arith)
unclaimed_parts (suc n) (suc k) h =
    let z : suc k - suc n ≡ k - n = omega arith in
    let i : n ≤ k = omega arith in
    rw z (ap (λ (l : List ℤ). negsuc 0 ∷ l) (unclaimed_parts n k i))

-- ---- a figure whose rows stand at the start of a table

module _ (f : Figure) (w : WholeFigure f) (rest : List ℤ) where
  abbrev entry : List ℤ
  entry = (front f w ++ flat (bone_rows f.bones (zeros f w)) ++ flat f.uvs ++ flat (face_rows f)) ++ rest

  -- the rules over its parts are its own
  tables_same : (claims : Fault) → claims ≡ vertices_fault (length f.points) [] 0 f.bones → tables_fault (figure_counts f) claims (drop (materials_from (figure_counts f)) entry) (drop (bones_from (figure_counts f)) entry) (drop (faces_from (figure_counts f)) entry) ≡ figure_fault f
  tables_same claims e =
      rw (e, materials-part f w (zeros f w) (zeros_count f w) rest, bones-part f w (zeros f w) (zeros_count f w) rest, faces-part f w (zeros f w) (zeros_count f w) rest)
      (tables_laid f (zeros f w) _ _ _ w.materials w.bones (faces-whole f w) (zeros_count f w))

  -- where none is broken, its bones are placed
  placed-rows : (exit : List ℤ) (e : length (parents f w) ≡ length f.bones) → figure_fault f ≡ clear → PlacedIn (figure_counts f) entry exit → exit ≡ front f w ++ after f w (parents f w) e rest
  unfolding figure_counts
  placed-rows exit e clean d =
      d.whole
      ∙ ap₂ (λ (a b : List ℤ). a ++ b) (front_part f w (zeros f w) (zeros_count f w) rest)
      (bones-left f (zeros f w) [] (flat f.uvs ++ (flat (face_rows f) ++ rest)) [] w.materials w.bones (faces-whole f w) (zeros_count f w) d.bones clean
      (subst (λ (l : List ℤ). Settled (length f.bones) l d.bones (whole_list (flags_in (length f.bones) l))) (bones-part f w (zeros f w) (zeros_count f w) rest) d.placed))

  -- and its numbers are the layout
  layout_is : (e : length (parents f w) ≡ length f.bones) (owners names : List ℤ) → take (length f.points) owners ≡ owners_from f.bones 0 (length f.points) → take (length f.groups * 2) names ≡ flat (group_names f.groups) → numbers_of (figure_counts f) (name_numbers f.name) (front f w ++ after f w (parents f w) e rest) owners names ≡ layout_of f
  unfolding numbers_of figure_counts
  layout_is e owners names ho hn = rw (first_part f w (parents f w) e rest, second_part f w (parents f w) e rest, ho, hn) (sym (layout_parts f w))

module _ {p : Parsed} {rows owners names : List ℤ} (h : Held p rows owners names) where
  abbrev f : Figure
  f = h.read

  whole : WholeFigure f
  whole = figure-whole (lex h.text) f h.left h.gives

  -- ---- what was kept

  counts_are : p.counts ≡ figure_counts f
  unfolding kept_of kept_by
  counts_are = sym (ap (λ (k : Kept). k.counts) h.kept)

  place_is : p.place ≡ f.name.at
  unfolding kept_of kept_by place_of
  place_is = sym (ap (λ (k : Kept). k.name.0) h.kept)

  size_is : p.length ≡ length f.name.bytes
  unfolding kept_of kept_by place_of
  size_is = sym (ap (λ (k : Kept). k.name.1) h.kept)

  abbrev claims : Fault × List ℤ
  claims = claimed_bones (length f.points) 0 (clear, replicate 2048 (negsuc 0)) f.bones

  fault-is : fault_of p.fault ≡ claims.0
  unfolding kept_of kept_by
  fault-is = sym (ap (λ (k : Kept). k.claims.0) h.kept)

  owners_are : owners ≡ claims.1
  unfolding kept_of kept_by
  owners_are = sym (ap (λ (k : Kept). k.claims.1) h.kept)

  rows_are : rows ≡ overlay_at 0 (row_numbers f) h.rows_entry
  unfolding kept_of kept_by
  rows_are = sym (ap (λ (k : Kept). k.rows) h.kept)

  names_are : names ≡ overlay_at 0 (flat (group_names f.groups)) h.names_entry
  unfolding kept_of kept_by
  names_are = sym (ap (λ (k : Kept). k.names) h.kept)

  pub name-fits : (p.place ≤ 65536) × (p.length ≤ 65536)
  name-fits =
      let n = (figure-placed h.text f h.left h.gives).own in
      (subst (λ (k : ℕ). k ≤ 65536) (sym place_is) (omega (arith, n.0, h.short)), subst (λ (k : ℕ). k ≤ 65536) (sym size_is) (omega (arith, n.1, h.short)))

  -- ---- where no list has too many rows

  module _ (v : Within (figure_counts f)) where
    abbrev rest : List ℤ
    rest = drop (length (row_numbers f)) h.rows_entry

    rows-held : rows ≡ (front f whole ++ flat (bone_rows f.bones (zeros f whole)) ++ flat f.uvs ++ flat (face_rows f)) ++ rest
    rows-held =
        rows_are
        ∙ overlay-whole (row_numbers f) h.rows_entry (rw (rows-length f whole, h.rows_most) (rows_few (figure_counts f) v))
        ∙ ap (λ (l : List ℤ). l ++ rest) (rows_same f whole)

    claims-same : claims.0 ≡ vertices_fault (length f.points) [] 0 f.bones
    unfolding figure_counts
    claims-same =
        ap (λ (l : List ℤ). (claimed_bones (length f.points) 0 (clear, l) f.bones).0) (unclaimed_parts (length f.points) 2048 v.points)
        ∙ claims-fault (length f.points) (replicate (2048 - length f.points) (negsuc 0)) f.bones

  -- the rules
  pub rules_are : rules_fault p rows ≡ figure_fault f
  unfolding rules_fault rows_fault
  rules_are =
      ap₂ (λ (n : FigureCounts) (q : Fault). tables_fault n q (drop (materials_from n) rows) (drop (bones_from n) rows) (drop (faces_from n) rows)) counts_are fault-is
      ∙ tables_within f claims.0 _ _ _ held
    where
      held : too_many 0 (counts_of f) figure_mosts ≡ clear → tables_fault (figure_counts f) claims.0 (drop (materials_from (figure_counts f)) rows) (drop (bones_from (figure_counts f)) rows) (drop (faces_from (figure_counts f)) rows) ≡ figure_fault f
      held e =
          let v = within_by (figure_counts f) (unfold counts_of in e) in
          ap (λ (l : List ℤ). tables_fault (figure_counts f) claims.0 (drop (materials_from (figure_counts f)) l) (drop (bones_from (figure_counts f)) l) (drop (faces_from (figure_counts f)) l)) (rows-held v)
          ∙ tables_same f whole (rest v) claims.0 (claims-same v)

  -- ---- where no rule is broken

  module _ (clean : figure_fault f ≡ clear) (exit : List ℤ) (placed : PlacedIn p.counts rows exit) where
    within : Within (figure_counts f)
    unfolding figure_fault counts_of
    within = within_by (figure_counts f) (or-first _ _ clean)

    bones_clean : bones_fault (flags_of f.bones) ≡ clear
    unfolding figure_fault
    bones_clean = or-first _ _ (or_second _ _ (or_second _ _ clean))

    claims_clean : vertices_fault (length f.points) [] 0 f.bones ≡ clear
    unfolding figure_fault
    claims_clean = or-first _ _ (or_second _ _ (or_second _ _ (or_second _ _ clean)))

    parents_count : length (parents f whole) ≡ length f.bones
    parents_count = whole_length (flags_of f.bones) bones_clean ∙ flags_count f.bones

    -- the rows, with each bone's parent
    exit_is : exit ≡ front f whole ++ after f whole (parents f whole) parents_count (rest within)
    exit_is =
        placed-rows f whole (rest within) exit parents_count clean
        (subst (λ (l : List ℤ). PlacedIn (figure_counts f) l exit) (rows-held within) (subst (λ (n : FigureCounts). PlacedIn n rows exit) counts_are placed))

    owners_held : claims.1 ≡ owners_from f.bones 0 (length f.points) ++ replicate (2048 - length f.points) (negsuc 0)
    unfolding figure_counts
    owners_held =
        ap (λ (l : List ℤ). (claimed_bones (length f.points) 0 (clear, l) f.bones).1) (unclaimed_parts (length f.points) 2048 within.points)
        ∙ claims_owners (length f.points) (replicate (2048 - length f.points) (negsuc 0)) f.bones claims_clean

    owners_part : take (length f.points) owners ≡ owners_from f.bones 0 (length f.points)
    owners_part =
        ap (take (length f.points)) (owners_are ∙ owners_held)
        ∙ take_at (owners_from f.bones 0 (length f.points)) (replicate (2048 - length f.points) (negsuc 0)) (length f.points) (owners_length f.bones 0 (length f.points))

    names-part : take (length f.groups * 2) names ≡ flat (group_names f.groups)
    unfolding figure_counts
    names-part =
        part-is 2 32 (length f.groups) (group_names f.groups) h.names_entry names (groups_wide f.groups) (few_groups (groups_count f.groups) within.groups) (omega (arith, h.names_most)) (groups_count f.groups, sym names_are)
      where
        few_groups : {a b : ℕ} → a ≡ b → b ≤ 32 → a ≤ 32
        few_groups e l = omega (arith, e, l)

    total-is : total_of (figure_counts f) ≡ length (layout_of f)
    total-is = layout_length f whole parents_count

    numbers_are : laid_numbers p exit owners names ≡ layout_of f
    unfolding laid_numbers name_numbers
    numbers_are =
        ap₂ (λ (n : FigureCounts) (l : List ℤ). numbers_of n (pos p.place ∷ pos p.length ∷ []) l owners names) counts_are exit_is
        ∙ ap₂ (λ (a b : ℕ). numbers_of (figure_counts f) (pos a ∷ pos b ∷ []) (front f whole ++ after f whole (parents f whole) parents_count (rest within)) owners names) place_is size_is
        ∙ layout_is f whole (rest within) parents_count owners names owners_part names-part

    taken : ruled f (figure_fault f) ≡ accepted f
    unfolding ruled
    taken = rw clean

    set-short : (total : ℕ) → total ≡ total_of p.counts → (table : List ℤ) {r : FigureAnswer} → r ≡ refused_with 17 total → length table < total → Answered (ruled f (figure_fault f)) table table r
    set-short total t table {r} a s =
        subst (λ (o : Outcome Figure). Answered o table table r) (sym taken) (short_answered f table total (t ∙ ap (λ (n : FigureCounts). total_of n) counts_are ∙ total-is) a s)

    set_long : (total : ℕ) → total ≡ total_of p.counts → (table laid : List ℤ) → total ≤ length table → laid ≡ overlay_at 0 (laid_numbers p exit owners names) table → Answered (ruled f (figure_fault f)) table laid (record { refusal = 0; place = 0; file = 0; total = total; counts = p.counts })
    set_long total t table laid s x =
        subst (λ (o : Outcome Figure). Answered o table laid (record { refusal = 0; place = 0; file = 0; total = total; counts = p.counts })) (sym taken)
        (long_answered f table total (t ∙ ap (λ (n : FigureCounts). total_of n) counts_are ∙ total-is) p.counts laid counts_are s (x ∙ ap (λ (l : List ℤ). overlay_at 0 l table) numbers_are))

  -- a rule is broken
  module _ {k i : ℕ} (e : rules_fault p rows ≡ fault k i) where
    broken : ruled f (figure_fault f) ≡ rejected k i
    unfolding ruled
    broken = rw (sym rules_are ∙ e)

    pub broken_rows : {r : FigureAnswer} → r ≡ refused_with k i → (table : List ℤ) → Answered (ruled f (figure_fault f)) table table r
    broken_rows a table = refused_answered broken a table

  -- none is
  module _ (e : rules_fault p rows ≡ clear) where
    counts-clear : counts_fault p.counts ≡ clear
    unfolding rules_fault rows_fault tables_fault
    counts-clear = or-first _ _ e

    pub none_over : Within p.counts
    none_over = within-counts p.counts counts-clear

    module _ (exit : List ℤ) (left : RowsLeft p.counts rows exit) where
      pub short-rows : (total : ℕ) → total ≡ total_of p.counts → (table : List ℤ) {r : FigureAnswer} → r ≡ refused_with 17 total → length table < total → Answered (ruled f (figure_fault f)) table table r
      short-rows = set-short (sym rules_are ∙ e) exit (placed-left p.counts rows exit counts-clear left)

      pub long_rows : (total : ℕ) → total ≡ total_of p.counts → (table laid : List ℤ) → total ≤ length table → laid ≡ overlay_at 0 (laid_numbers p exit owners names) table → Answered (ruled f (figure_fault f)) table laid (record { refusal = 0; place = 0; file = 0; total = total; counts = p.counts })
      long_rows = set_long (sym rules_are ∙ e) exit (placed-left p.counts rows exit counts-clear left)
