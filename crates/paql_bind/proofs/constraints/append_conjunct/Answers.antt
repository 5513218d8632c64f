-- No part of the constraint has a fault.
use Rattle.std.proofs.Common.{sym, ap, ◌∙◌, ◌++◌}
use Rattle.paql_bind.specs.Constraints.{conjunct_faults}
use Rattle.paql_bind.specs.Names.{number_faults}
use Rattle.paql_bind.specs.Scopes.{seen}
use Rattle.paql_bind.specs.Sums.{sum_faults}
use Rattle.paql_bind.proofs.FaultLemmas.{nil_of_append}
use Rattle.paql_bind.proofs.constraints.append_conjunct.Goals as goal

pub bound_sums-requires-clause-left : goal.bound_sums-requires-clause-left
bound_sums-requires-clause-left c =
    let scope = seen c.args.scope.now in
    ap (sum_faults scope) c.as_slice-left.ensures
    ∙ (nil_of_append (sum_faults scope c.in-Compare.left) (sum_faults scope c.in-Compare.right) (sym (ap (conjunct_faults scope) c.in-Compare.is) ∙ c.requires)).0

pub bound_sums-requires-clause-right : goal.bound_sums-requires-clause-right
bound_sums-requires-clause-right c =
    let scope = seen c.args.scope.now in
    ap (sum_faults scope) c.as_slice-right.ensures
    ∙ (nil_of_append (sum_faults scope c.in-Compare.left) (sum_faults scope c.in-Compare.right) (sym (ap (conjunct_faults scope) c.in-Compare.is) ∙ c.requires)).1

pub bound_range-requires-clause-sum : goal.bound_range-requires-clause-sum
bound_range-requires-clause-sum c =
    let scope = seen c.args.scope.now in
    let ends = number_faults c.in-Between.low ++ number_faults c.in-Between.high in
    ap (sum_faults scope) c.as_slice.ensures
    ∙ (nil_of_append (sum_faults scope c.in-Between.sum) ends (sym (ap (conjunct_faults scope) c.in-Between.is) ∙ c.requires)).0

pub bound_range-requires-clause-low : goal.bound_range-requires-clause-low
bound_range-requires-clause-low c =
    let scope = seen c.args.scope.now in
    let ends = number_faults c.in-Between.low ++ number_faults c.in-Between.high in
    (nil_of_append (number_faults c.in-Between.low) (number_faults c.in-Between.high)
    (nil_of_append (sum_faults scope c.in-Between.sum) ends (sym (ap (conjunct_faults scope) c.in-Between.is) ∙ c.requires)).1).0

pub bound_range-requires-clause-high : goal.bound_range-requires-clause-high
bound_range-requires-clause-high c =
    let scope = seen c.args.scope.now in
    let ends = number_faults c.in-Between.low ++ number_faults c.in-Between.high in
    (nil_of_append (number_faults c.in-Between.low) (number_faults c.in-Between.high)
    (nil_of_append (sum_faults scope c.in-Between.sum) ends (sym (ap (conjunct_faults scope) c.in-Between.is) ∙ c.requires)).1).1
