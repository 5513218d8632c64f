use Rattle.std.proofs.Common.{◌≡◌, ◌∙◌, ap, rules}
use Rattle.std.proofs.lemmas.Int.{to_z-of_z}
use Rattle.lin_bound.specs.declared.region.Region.{Region}
use Rattle.cert_tree.specs.Partial.{top}
use Rattle.cert_tree.specs.Places.{mult_at}
use mir.Syntax.{w64, w128}
use mir.Val.{SFits}
use Rattle.cert_tree.proofs.Tops.{top_fits}
use Rattle.cert_tree.proofs.possible.top.Goals as goal

pub overflow_cast-result : goal.overflow_cast-result
overflow_cast-result c =
    let whole : SFits w128 c.max.result = search rules in
    let parent = mult_at c.args.nodes.now c.args.place.now.parent in
    let is : c.max.result ≡ top c.args.problem.now c.in_ok-region.region parent = search rules in
    simp to_z-of_z (top_fits c.args.problem.now c.in_ok-region.region parent c.max.result c.variables-legal.ensures.legal c.in_ok-region.ensures.region is)

pub returns : goal.returns
returns c =
    let whole : SFits w128 c.max.result = search rules in
    let parent = mult_at c.args.nodes.now c.args.place.now.parent in
    let is : c.max.result ≡ top c.args.problem.now c.in_ok-region.region parent = search rules in
    let fits : SFits w64 c.max.result = top_fits c.args.problem.now c.in_ok-region.region parent c.max.result c.variables-legal.ensures.legal c.in_ok-region.ensures.region is in
    simp to_z-of_z (is ∙ ap (λ (box : Region). top c.args.problem.now box parent) c.in_ok-region.ensures.value)
