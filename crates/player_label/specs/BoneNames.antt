-- The names of all bones by the pairs of place and length in a figure's and a movement's table.
use Rattle.std.specs.Prelude.{List, [], ◌∷◌, Bool, true, ◌&&◌, ℕ, zero, suc, ℤ}
use Rattle.std.proofs.Math.Option.{Option}
use Rattle.parse_spec.specs.Fields.{is_some}
use Rattle.table_counts.specs.declared.counts.FigureCounts.{FigureCounts}
use Rattle.table_figure.specs.Sections.{holds_figure}
use Rattle.player_spec.specs.Lookups.{only_if}
use Rattle.player_names.specs.Names.{figure_name}
use Rattle.player_label.specs.Labels.{or_empty}

-- so many names from a row on, of what gives a row's name
unfoldable pub names_from : (ℕ → Option (List ℕ)) → ℕ → ℕ → List (List ℕ)
names_from name row zero = []
names_from name row (suc k) = or_empty (name row) ∷ names_from name (suc row) k

-- each of those pairs is a name
unfoldable pub all_named : (ℕ → Option (List ℕ)) → ℕ → ℕ → Bool
all_named name row zero = true
all_named name row (suc k) = is_some (name row) && all_named name (suc row) k

-- the names of a figure's bones; none where its counts, its table or a bone's name breaks a rule
unfoldable pub names_in : List ℕ → FigureCounts → List ℤ → Option (List (List ℕ))
names_in figure n table =
    only_if (holds_figure n table && all_named (figure_name figure n table) 0 n.bones) (names_from (figure_name figure n table) 0 n.bones)
