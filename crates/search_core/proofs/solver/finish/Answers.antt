use Rattle.std.proofs.Common.{rules, ◌∙◌}
use Rattle.std.proofs.lemmas.Int.{to_z-of_z}
use mir.Syntax.{w64}
use mir.Val.{SFits}
use Rattle.search_core.proofs.Ending.{Parts, ends_proven, ends_undecided, ends_parts, ends_legal, ends_found}
use Rattle.search_core.proofs.solver.finish.Goals as goal

pub most_left-requires-clause-parts : goal.most_left-requires-clause-parts
most_left-requires-clause-parts c =
    let parts : Parts c.args.state c.into_parts-records.result.0.items c.in_ok-left.left.items c.into_parts-records.result.2 = record { records_are = c.into_parts-records.ensures.records; left_is = c.in_ok-left.ensures ∙ c.into_parts-records.ensures.left; best_is = c.into_parts-records.ensures.best } in
    rw c.best_value.ensures (ends_parts c.args.problem.now c.args.state _ _ _ c.in_ok-tree.tree c.requires.kept parts c.in_ok-tree.ensures)

pub most_left-requires-clause-mults : goal.most_left-requires-clause-mults
most_left-requires-clause-mults c =
    ends_legal c.args.problem.now c.args.state _ _ c.in_ok-tree.tree c.requires.kept c.into_parts-records.ensures.records c.in_ok-tree.ensures

pub returns-then-not-is_whole-clause-solved : goal.returns-then-not-is_whole-clause-solved
returns-then-not-is_whole-clause-solved c =
    let parts : Parts c.args.state c.into_parts-records.result.0.items c.in_ok-left.left.items c.into_parts-records.result.2 = record { records_are = c.into_parts-records.ensures.records; left_is = c.in_ok-left.ensures ∙ c.into_parts-records.ensures.left; best_is = c.into_parts-records.ensures.best } in
    let some = rw c.deref.ensures.value at c.if-not-is_whole.ensures in
    let fits : SFits w64 c.in_ok-bound.bound = search rules in
    record {
      mults = ends_legal c.args.problem.now c.args.state _ _ c.in_ok-tree.tree c.requires.kept c.into_parts-records.ensures.records c.in_ok-tree.ensures;
      found = rw c.into_parts-records.ensures.best c.requires.kept.found;
      partly = ends_undecided c.args.problem.now c.args.state _ _ _ c.in_ok-tree.tree c.requires.kept c.requires.idle parts some c.requires.end c.in_ok-tree.ensures;
      bound_is = simp to_z-of_z (rw c.best_value.ensures at c.in_ok-bound.ensures);
    }

pub returns-in-Some-clause-solved : goal.returns-in-Some-clause-solved
returns-in-Some-clause-solved c =
    let parts : Parts c.args.state c.into_parts-records.result.0.items c.in_ok-left.left.items c.into_parts-records.result.2 = record { records_are = c.into_parts-records.ensures.records; left_is = c.in_ok-left.ensures ∙ c.into_parts-records.ensures.left; best_is = c.into_parts-records.ensures.best } in
    let none = rw c.deref.ensures.value at c.if-not-is_whole.ensures in
    let proven = ends_proven c.args.problem.now c.args.state _ _ _ c.in_ok-tree.tree c.requires.kept c.requires.idle parts none c.in_ok-tree.ensures in
    let found = ends_found c.args.problem.now c.args.state _ (c.in-Some.value, c.in-Some.point) c.requires.kept c.into_parts-records.ensures.best c.in-Some.is in
    let fits : SFits w64 c.in-Some.value = search rules in
    simp to_z-of_z (found.0, found.1, rw c.in-Some.is at proven)

pub returns-in-None-clause-solved : goal.returns-in-None-clause-solved
returns-in-None-clause-solved c =
    let parts : Parts c.args.state c.into_parts-records.result.0.items c.in_ok-left.left.items c.into_parts-records.result.2 = record { records_are = c.into_parts-records.ensures.records; left_is = c.in_ok-left.ensures ∙ c.into_parts-records.ensures.left; best_is = c.into_parts-records.ensures.best } in
    let none = rw c.deref.ensures.value at c.if-not-is_whole.ensures in
    let proven = ends_proven c.args.problem.now c.args.state _ _ _ c.in_ok-tree.tree c.requires.kept c.requires.idle parts none c.in_ok-tree.ensures in
    rw c.in-None.is at proven
