-- `figure_sections` is each sum, which is small.
use mathlib.Core.Path.{refl}
use Rattle.table_figure.specs.Sections.{points_begin, bones_begin, owners_begin, uvs_begin, faces_begin, groups_begin, figure_end, figure_sections}
use borrow.Author.Rules.{rules}
use Rattle.table_figure.proofs.sections.figure_sections.Statement.{statement}
use Rattle.table_figure.proofs.sections.figure_sections.Tie as tie

mul-points : tie.Need-overflow_mul-points
mul-points c = search rules

add-points : tie.Need-overflow_add-points
add-points c = search rules

mul-points-2 : tie.Need-overflow_mul-points-2
mul-points-2 c = search rules

add-points-2 : tie.Need-overflow_add-points-2
add-points-2 c = search rules

mul-points-3 : tie.Need-overflow_mul-points-3
mul-points-3 c = search rules

add-points-3 : tie.Need-overflow_add-points-3
add-points-3 c = search rules

mul-bones : tie.Need-overflow_mul-bones
mul-bones c = search rules

add-bones : tie.Need-overflow_add-bones
add-bones c = search rules

mul-bones-2 : tie.Need-overflow_mul-bones-2
mul-bones-2 c = search rules

add-bones-2 : tie.Need-overflow_add-bones-2
add-bones-2 c = search rules

mul-owners : tie.Need-overflow_mul-owners
mul-owners c = search rules

add-owners : tie.Need-overflow_add-owners
add-owners c = search rules

add-uvs : tie.Need-overflow_add-uvs
add-uvs c = search rules

mul-faces : tie.Need-overflow_mul-faces
mul-faces c = search rules

add-faces : tie.Need-overflow_add-faces
add-faces c = search rules

mul-groups : tie.Need-overflow_mul-groups
mul-groups c = search rules

add-groups : tie.Need-overflow_add-groups
add-groups c = search rules

mul-end : tie.Need-overflow_mul-end
mul-end c = search rules

add-end : tie.Need-overflow_add-end
add-end c = search rules

returns : tie.Need-returns
unfolding points_begin bones_begin owners_begin uvs_begin faces_begin groups_begin figure_end figure_sections
returns c = refl

pub figure_sections_spec : {M : Type 1} → statement M
figure_sections_spec = tie.close (tie.spec mul-points add-points mul-points-2 add-points-2 mul-points-3 add-points-3 mul-bones add-bones mul-bones-2 add-bones-2 mul-owners add-owners add-uvs mul-faces add-faces mul-groups add-groups mul-end add-end returns)
