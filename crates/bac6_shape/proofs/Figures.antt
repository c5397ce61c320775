-- What the code's steps keep is what parsing keeps of the grammar's figure: both sequences of readers are walked side by side.
use mathlib.Core.Path.{◌≡◌, refl, ap, sym, ◌∙◌}
use mathlib.Core.List.{List, []}
use Prim.Native.Nat.{ℕ}
use lib.IntN.{ℤ}
use lib.ListN.{length}
use Rattle.refusal.specs.Faults.{Fault}
use Rattle.text_tokens.specs.Tokens.{Lexeme}
use Rattle.parse_spec.specs.Readers.{Name, got, Reader, ◌>>=◌, ◌>>◌, pure, close_bracket, text_end}
use Rattle.parse_spec.specs.Internal.Places.{place_of}
use Rattle.parse_spec.proofs.Binds.{after_when, bind_assoc}
use Rattle.parse_spec.proofs.Sequences.{bind-same, project, into_then, into_bind, into_end}
use Rattle.bac6_text.specs.Figure.{Bone, Face, Group, Figure}
use Rattle.bac6_text.specs.Grammar.{name_section, texture_section, colour_section, material_section, point_section, normal_section, bone_section, uv_section, polygon_section, figure}
use Rattle.bac6_text.specs.Rules.{figure_counts}
use Rattle.bac6_text.proofs.Rows.{face_rows-length}
use Rattle.bac6_text.proofs.Whole.{WholeFigure, figure-whole}
use Rattle.bac6_faces.proofs.PolygonSteps.{all-rows}
use Rattle.bac6_section.specs.Internal.Lists.{rows_laid, list_into}
use Rattle.bac6_front.specs.Internal.Front.{FrontValue, name_into, front_into}
use Rattle.bac6_shape.specs.Internal.Parse.{Kept, blank_bones, kept_of, figure_into}
use Rattle.bac6_shape.specs.Internal.Steps.{bones_laid, bone_step, faces_laid, end_step}
use Rattle.bac6_shape.proofs.Rows.{front_laid, uvs_laid, rows_once}

-- a sequence of values, and one of the parts of them that are kept
onto : {A P B C : Type 0} (r : Reader A) (p : A → P) (u : Reader P) → ((ms : List Lexeme) → (r >>= λ a. pure (p a)) ms ≡ u ms) → (k : A → Reader B) (g : B → Reader C) (j : P → Reader C) → ((a : A) (ms : List Lexeme) → (k a >>= g) ms ≡ j (p a) ms) → (ms : List Lexeme) → (r >>= k >>= g) ms ≡ (u >>= j) ms
onto r p u e k g j q ms = bind_assoc r k g ms ∙ project r p u e (λ a. k a >>= g) j q ms

-- what the steps keep
unfoldable pub kept : FrontValue → ℕ × (ℕ × List ℤ) × (Fault × List ℤ) → ℕ × (ℕ × List ℤ) → ℕ × List ℤ × ℕ × List ℤ → Kept
kept x b u q =
    record {
      name = x.name;
      counts = record { textures = x.textures; colours = x.colours; materials = x.materials; points = x.points; normals = x.normals; bones = b.0; uvs = u.0; faces = q.0; groups = q.2 };
      claims = b.2;
      rows = q.1;
      names = q.3;
    }

module _ (rows owners names : List ℤ) where
  -- the steps after the front
  unfoldable pub back_steps : FrontValue → Reader Kept
  back_steps x = bone_step x.points x.table owners >>= λ b. list_into 2 uv_section b.1 >>= λ u. end_step u.1 names >>= λ q. pure (kept x b u q)

  unfoldable front_of : Figure → FrontValue
  front_of f =
      record { name = place_of f.name; textures = length f.textures; colours = length f.colours; materials = length f.materials; points = length f.points; normals = length f.normals; table = front_laid (0, rows) f }

  unfoldable steps_of : Figure → Kept
  steps_of f =
      kept (front_of f) (bones_laid (length f.points) (front_laid (0, rows) f) owners f.bones) (length f.uvs, uvs_laid (0, rows) f) (faces_laid (uvs_laid (0, rows) f) names (f.polygons, f.groups))

  unfoldable keep : Figure → Reader Kept
  keep f = pure (steps_of f)

  steps-kept : (f : Figure) → WholeFigure f → steps_of f ≡ kept_of rows owners names f
  unfolding steps_of kept front_of bones_laid faces_laid kept_of figure_counts
  steps-kept f w = rw (rows_once rows f w, all-rows f, face_rows-length f)

  module _ (n : Name) (ts cs mats ps vs : List (List ℤ)) where
    abbrev figure_of : List Bone → List (List ℤ) → List Face × List Group → Figure
    figure_of bs us x = record { name = n; textures = ts; colours = cs; materials = mats; points = ps; normals = vs; bones = bs; uvs = us; polygons = x.0; groups = x.1 }

    abbrev front : FrontValue
    front = front_of (figure_of [] [] ([], []))

    abbrev table : ℕ × List ℤ
    table = front_laid (0, rows) (figure_of [] [] ([], []))

    last : List Bone → List (List ℤ) → List Face × List Group → Reader Figure
    last bs us x = close_bracket >> (text_end >> pure (figure_of bs us x))

    last-same : (bs : List Bone) (us : List (List ℤ)) (ms : List Lexeme) → (polygon_section >>= last bs us >>= keep) ms ≡ (end_step (rows_laid 2 (rows_laid 14 table (blank_bones bs)) us) names >>= λ q. pure (kept front (bones_laid (length ps) table owners bs) (length us, rows_laid 2 (rows_laid 14 table (blank_bones bs)) us) q)) ms
    unfolding end_step last
    last-same bs us ms =
        bind_assoc polygon_section (last bs us) keep ms
        ∙ bind-same polygon_section _ _ (λ x. into_then keep fin close_bracket _ _ (into_then keep fin text_end _ _ (done x))) ms
        ∙ sym (bind_assoc polygon_section (λ x. close_bracket >> (text_end >> pure (faces_laid s names x))) fin ms)
      where
        s : ℕ × List ℤ
        s = rows_laid 2 (rows_laid 14 table (blank_bones bs)) us

        fin : ℕ × List ℤ × ℕ × List ℤ → Reader Kept
        fin q = pure (kept front (bones_laid (length ps) table owners bs) (length us, s) q)

        done : (x : List Face × List Group) (l : List Lexeme) → (pure (figure_of bs us x) >>= keep) l ≡ (pure (faces_laid s names x) >>= fin) l
        done x l = sym (into_end (figure_of bs us x) keep l) ∙ unfold keep steps_of front_of in into_end (faces_laid s names x) fin l

    back_same : (ms : List Lexeme) → (bone_section >>= (λ bs. uv_section >>= λ us. polygon_section >>= last bs us) >>= keep) ms ≡ back_steps front ms
    unfolding back_steps bone_step bones_laid list_into front_of
    back_same =
        onto bone_section (bones_laid (length ps) table owners) (bone_step (length ps) table owners) (λ ms. refl) _ keep _ (λ bs.
        onto uv_section (λ us. (length us, rows_laid 2 (rows_laid 14 table (blank_bones bs)) us)) (list_into 2 uv_section (rows_laid 14 table (blank_bones bs))) (λ ms. refl) _ keep _ (λ us. last-same bs us))

  walked : (ms : List Lexeme) → (figure >>= keep) ms ≡ (front_into (0, rows) >>= back_steps) ms
  unfolding figure front_into name_into list_into last
  walked =
      into_bind keep back_steps name_section place_of name_into (λ ms. refl) _ _ (λ n.
      into_bind keep back_steps texture_section (λ ts. (length ts, rows_laid 2 (0, rows) ts)) (list_into 2 texture_section (0, rows)) (λ ms. refl) _ _ (λ ts.
      let s = rows_laid 2 (0, rows) ts in
      into_bind keep back_steps colour_section (λ cs. (length cs, rows_laid 3 s cs)) (list_into 3 colour_section s) (λ ms. refl) _ _ (λ cs.
      let s = rows_laid 3 s cs in
      into_bind keep back_steps material_section (λ mats. (length mats, rows_laid 9 s mats)) (list_into 9 material_section s) (λ ms. refl) _ _ (λ mats.
      let s = rows_laid 9 s mats in
      into_bind keep back_steps point_section (λ ps. (length ps, rows_laid 3 s ps)) (list_into 3 point_section s) (λ ms. refl) _ _ (λ ps.
      let s = rows_laid 3 s ps in
      into_bind keep back_steps normal_section (λ vs. (length vs, rows_laid 3 s vs)) (list_into 3 normal_section s) (λ ms. refl) _ _ (λ vs ms.
      back_same n ts cs mats ps vs ms ∙ unfold front_of in into_end (front_of (figure_of n ts cs mats ps vs [] [] ([], []))) back_steps ms))))))

  -- the code's steps, and what parsing keeps
  pub figure-steps : (ms : List Lexeme) → (front_into (0, rows) >>= back_steps) ms ≡ figure_into rows owners names ms
  unfolding figure_into keep ◌>>=◌ pure
  figure-steps ms = sym (walked ms) ∙ after_when (figure ms) _ _ (λ f l e. ap (λ (k : Kept). got k l) (steps-kept f (figure-whole ms f l e)))
