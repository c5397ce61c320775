-- What a figure without fault has: counts within their figureMosts, a parent for each bone, and faces whose references are rows. One part of the rules each.
use mathlib.Core.Path.{◌≡◌, refl, ◌∙◌}
use mathlib.Core.List.{List, [], ◌∷◌}
use mathlib.Core.Bool.{Bool, true, false}
use Prim.Native.Nat.{ℕ, suc}
use lib.ListN.{length}
use Rattle.refusal.specs.Faults.{clear}
pub use Rattle.text_bytes.proofs.Every.{every_at}
use Rattle.refusal.specs.Rules.{or_else, too_many}
use Rattle.refusal.proofs.Rules.{or-first, or_second}
use Rattle.parse_spec.proofs.Given.{Every}
use Rattle.bac6_text.specs.Figure.{Figure}
use Rattle.bac6_text.specs.Rules.{faces_of, counts_of, normals_fault, flags_of, whole_list, parents_in, bones_fault, vertices_fault, material_fine, face_fine, figure_fault}
use Rattle.refusal.specs.FirstBad.{first_bad}
use Rattle.bac6_text.proofs.Rows.{flags_count}
use Rattle.bac6_text.proofs.Parents.{whole_length, fault-not-clear}
use Rattle.table_counts.specs.Counts.{figure_mosts}

-- where no row is bad, each passes the test
all_pass : {A : Type 0} (n : ℕ) (t : A → Bool) (row : ℕ) (l : List A) → first_bad n t row l ≡ clear → Every (λ a. t a ≡ true) l
unfolding first_bad
all_pass n t row [] e = tt
all_pass n t row (a ∷ l) e = go (t a) refl (all_pass n t (suc row) l)
  where
    go : (v : Bool) → t a ≡ v → (first_bad n t (suc row) l ≡ clear → Every (λ a. t a ≡ true) l) → (t a ≡ true) × Every (λ a. t a ≡ true) l
    go true p ih = (p, ih (rw (p, first_bad) at e))
    go false p ih = absurd (fault-not-clear n row (rw (p, first_bad) at e))

-- ---- the rules

module _ (f : Figure) (c : figure_fault f ≡ clear) where
  pub counts-sound : too_many 0 (counts_of f) figure_mosts ≡ clear
  unfolding figure_fault
  counts-sound = or-first _ _ c

  after-normals : or_else (bones_fault (flags_of f.bones)) (or_else (vertices_fault (length f.points) [] 0 f.bones) (or_else (first_bad 12 (material_fine (length f.textures) (length f.colours)) 0 f.materials) (first_bad 13 (face_fine (length f.materials) (length f.points) (length f.uvs)) 0 (faces_of f)))) ≡ clear
  unfolding figure_fault
  after-normals = or_second (normals_fault (length f.points) (length f.normals)) _ (or_second (too_many 0 (counts_of f) figure_mosts) _ c)

  pub parents-sound : length (parents_in (whole_list (flags_of f.bones))) ≡ length f.bones
  parents-sound = whole_length (flags_of f.bones) (or-first _ _ after-normals) ∙ flags_count f.bones

  pub faces-sound : Every (λ face. face_fine (length f.materials) (length f.points) (length f.uvs) face ≡ true) (faces_of f)
  faces-sound = all_pass 13 (face_fine (length f.materials) (length f.points) (length f.uvs)) 0 (faces_of f) (or_second _ _ (or_second _ _ (or_second _ _ after-normals)))
