-- `append_corner` puts one line or none, by whether there is a corner and a texture coordinate.
use Rattle.std.proofs.Common.{◌≡◌, refl, ap₂, List, [], ◌∷◌, map, ℕ, ℤ, ◌≤◌, arith, rules, length, w64, to_z, of_z, to_z-of_z}
use Rattle.text_bytes.specs.Bytes.{bytes}
use Rattle.report_text.specs.Text.{line}
use Rattle.report_text.specs.Output.{output, appended}
use Rattle.report_lists.specs.Lists.{appended_each, text_of, shown}
use Rattle.report_lists.proofs.Texts.{AllFit, line-most, shown-fits}
use Rattle.report_lists.proofs.Turns.{one_line}
use Rattle.corner_listing.specs.Corners.{uv_numbers, corner_numbers, corner_lines}
use Rattle.corner_listing.proofs.corners.append_corner.Goals as goal

-- a line of the face, the corner and at most seven numbers more
line-short : (face k : ℕ) (zs : List ℤ) → AllFit zs → length zs ≤ 7 → length (text_of (line (bytes "corner") (shown face ∷ shown k ∷ zs) ∷ [])) ≤ 196
unfolding bytes AllFit
line-short face k zs fit few = one_line _ 196 (omega (arith, line-most (bytes "corner") (shown face ∷ shown k ∷ zs) (shown-fits face, (shown-fits k, fit))))

-- numbers that fit come back from their bits
come_back : (zs : List ℤ) → AllFit zs → map (λ z. to_z w64 (of_z w64 z)) zs ≡ zs
unfolding AllFit
come_back [] fit = refl
come_back (z ∷ zs) fit = ap₂ ◌∷◌ (to_z-of_z {w = w64} fit.0) (come_back zs fit.1)

-- those of a line whose first two numbers are the face and the corner
held_row : (face k : ℕ) (f c : ℤ) (zs : List ℤ) → AllFit zs → f ≡ shown face → c ≡ shown k → map (λ z. to_z w64 (of_z w64 z)) (f ∷ c ∷ zs) ≡ shown face ∷ shown k ∷ zs
unfolding AllFit
held_row face k f c zs fit p q = rw (p, q) (come_back (shown face ∷ shown k ∷ zs) (shown-fits face, (shown-fits k, fit)))

pub returns-in_default-clause-lines : goal.returns-in_default-clause-lines
unfolding corner_lines appended_each
returns-in_default-clause-lines c = rw c.in_default.is refl

pub returns-in_default-clause-most : goal.returns-in_default-clause-most
unfolding corner_lines text_of
returns-in_default-clause-most c = rw c.in_default.is (omega arith)

pub returns-in-None-clause-lines : goal.returns-in-None-clause-lines
unfolding bytes corner_lines corner_numbers uv_numbers appended_each AllFit
returns-in-None-clause-lines c =
    let a = c.args in
    let p = c.in-Some.found in
    let zs = p.x ∷ p.y ∷ p.z ∷ p.owner ∷ p.material ∷ [] in
    let fit : AllFit zs = search rules in
    let put : output c.append_row.result c.append_row.new.buf ≡ appended (output a.n a.buf.now) (line (bytes "corner") (map (λ z. to_z w64 (of_z w64 z)) (c.shown-f.result ∷ c.shown-c.result ∷ zs))) = c.append_row.ensures in
    rw (c.in-Some.is, c.in-None.is) (rw (held_row a.face a.k _ _ zs fit c.shown-f.ensures c.shown-c.ensures) at put)

pub returns-in-None-clause-most : goal.returns-in-None-clause-most
unfolding corner_lines corner_numbers uv_numbers AllFit
returns-in-None-clause-most c =
    let p = c.in-Some.found in
    let zs = p.x ∷ p.y ∷ p.z ∷ p.owner ∷ p.material ∷ [] in
    let fit : AllFit zs = search rules in
    rw (c.in-Some.is, c.in-None.is) (line-short c.args.face c.args.k zs fit (omega arith))

pub returns-in-Some-uv-clause-lines : goal.returns-in-Some-uv-clause-lines
unfolding bytes corner_lines corner_numbers uv_numbers appended_each AllFit
returns-in-Some-uv-clause-lines c =
    let a = c.args in
    let p = c.in-Some.found in
    let t = c.in-Some-uv.field-0 in
    let zs = p.x ∷ p.y ∷ p.z ∷ p.owner ∷ p.material ∷ t.u ∷ t.v ∷ [] in
    let fit : AllFit zs = search rules in
    let put : output c.append_row-in-Some-uv.result c.append_row-in-Some-uv.new.buf ≡ appended (output a.n a.buf.now) (line (bytes "corner") (map (λ z. to_z w64 (of_z w64 z)) (c.shown-f.result ∷ c.shown-c.result ∷ zs))) = c.append_row-in-Some-uv.ensures in
    rw (c.in-Some.is, c.in-Some-uv.is) (rw (held_row a.face a.k _ _ zs fit c.shown-f.ensures c.shown-c.ensures) at put)

pub returns-in-Some-uv-clause-most : goal.returns-in-Some-uv-clause-most
unfolding corner_lines corner_numbers uv_numbers AllFit
returns-in-Some-uv-clause-most c =
    let p = c.in-Some.found in
    let t = c.in-Some-uv.field-0 in
    let zs = p.x ∷ p.y ∷ p.z ∷ p.owner ∷ p.material ∷ t.u ∷ t.v ∷ [] in
    let fit : AllFit zs = search rules in
    rw (c.in-Some.is, c.in-Some-uv.is) (line-short c.args.face c.args.k zs fit (omega arith))
