-- One turn of each loop over bones and pattern lines: what is left of a definition's rows after a row, by the row's test.
use mathlib.Core.Path.{◌≡◌, ◌∙◌}
use mathlib.Core.List.{List}
use mathlib.Core.Bool.{Bool, true, false, ◌&&◌}
use mathlib.Core.Option.{Option}
use Prim.Native.Nat.{ℕ, suc, ◌+◌, ◌-◌, ◌*◌, ◌≤◌, ◌<◌}
use native.Mathlib.Nat.{sub-eq-zero_of_le}
use native.Mathlib.Numerals.{add-one}
use native.Mathlib.Omega.{arith}
use lib.IntN.{ℤ, pos}
use lib.ListN.{get_or, drop}
use lib.Seq.{get_or-take, get_or-drop}
use Rattle.refusal.specs.Faults.{Fault, clear, fault}
use Rattle.parse_spec.specs.Fields.{is_some}
use Rattle.refusal.specs.FirstBad.{first_bad}
use Rattle.table_references.specs.References.{is_row}
use Rattle.tra4_text.specs.Movement.{Pattern, group_of}
use Rattle.table_columns.specs.Parts.{numbers_at, rows_at}
use Rattle.player_label.specs.Labels.{or_empty}
use Rattle.pair_text.specs.Rules.{names_agree, names_fault, groups_fault}
use Rattle.player_label.specs.BoneNames.{names_from, all_named}

-- a row is left
next_left : (n row : ℕ) → row < n → n - row ≡ suc (n - suc row)
next_left n row h = omega arith

-- ---- names

module _ (name : ℕ → Option (List ℕ)) where
  abbrev pub named_left : ℕ → ℕ → Bool
  named_left n row = all_named name row (n - row)

  named_next : (n row : ℕ) → row < n → named_left n row ≡ (is_some (name row) && named_left n (row + 1))
  unfolding all_named
  named_next n row h = rw (next_left n row h, add-one row)

  pub named-all : (n : ℕ) → all_named name 0 n ≡ named_left n 0
  named-all n = let z : n - 0 ≡ n = omega arith in rw z

  pub named_more : (n row : ℕ) → row < n → is_some (name row) ≡ true → named_left n row ≡ named_left n (row + 1)
  named_more n row h e = named_next n row h ∙ rw e

  pub named_none : (n row : ℕ) → row < n → is_some (name row) ≡ false → named_left n row ≡ false
  named_none n row h e = named_next n row h ∙ rw e

  pub named_end : (n row : ℕ) → n ≤ row → named_left n row ≡ true
  unfolding all_named
  named_end n row h = rw (sub-eq-zero_of_le h)

module _ (a b : ℕ → Option (List ℕ)) where
  abbrev pub fault_left : ℕ → ℕ → Fault
  fault_left n row = names_fault row (names_from a row (n - row)) (names_from b row (n - row))

  pub names-all : (n k : ℕ) → n ≡ k → names_fault 0 (names_from a 0 n) (names_from b 0 k) ≡ fault_left n 0
  names-all n k e = let z : n - 0 ≡ n = omega arith in rw (← e, z)

  pub names_more : (n row : ℕ) → row < n → names_agree (or_empty (a row)) (or_empty (b row)) ≡ true → fault_left n row ≡ fault_left n (row + 1)
  unfolding names_from names_fault
  names_more n row h e = rw (next_left n row h, e, names_fault, add-one row)

  pub names_differ : (n row : ℕ) → row < n → names_agree (or_empty (a row)) (or_empty (b row)) ≡ false → fault_left n row ≡ fault 19 row
  unfolding names_from names_fault
  names_differ n row h e = rw (next_left n row h, e, names_fault)

  pub names_end : (n row : ℕ) → n ≤ row → fault_left n row ≡ clear
  unfolding names_from names_fault
  names_end n row h = rw (sub-eq-zero_of_le h)

-- ---- pattern lines, rows of three numbers

module _ (lines : List ℤ) (groups : ℕ) where
  abbrev pub lines_left : ℕ → ℕ → Fault
  lines_left n row = first_bad 20 (λ (p : Pattern). is_row groups (group_of p)) row (rows_at 3 lines (row * 3) (n - row))

  line-group : (i : ℕ) → group_of (numbers_at lines i 3) ≡ get_or lines (i + 1) (pos 0)
  unfolding group_of numbers_at
  line-group i = get_or-take 3 (drop i lines) 1 (pos 0) (omega arith) ∙ get_or-drop i lines 1 (pos 0)

  pub lines_more : (n row : ℕ) → row < n → is_row groups (get_or lines (row * 3 + 1) (pos 0)) ≡ true → lines_left n row ≡ lines_left n (row + 1)
  unfolding rows_at first_bad
  lines_more n row h e =
      let next : row * 3 + 3 ≡ suc row * 3 = omega arith in
      rw (next_left n row h, line-group (row * 3), e, first_bad, next, add-one row)

  pub lines_bad : (n row : ℕ) → row < n → is_row groups (get_or lines (row * 3 + 1) (pos 0)) ≡ false → lines_left n row ≡ fault 20 row
  unfolding rows_at first_bad
  lines_bad n row h e = rw (next_left n row h, line-group (row * 3), e, first_bad)

  pub lines_end : (n row : ℕ) → n ≤ row → lines_left n row ≡ clear
  unfolding rows_at first_bad
  lines_end n row h = rw (sub-eq-zero_of_le h)

  pub lines_all : (n : ℕ) → groups_fault groups (rows_at 3 lines 0 n) ≡ lines_left n 0
  unfolding groups_fault
  lines_all n = let z : n - 0 ≡ n = omega arith in rw z
