-- The aggregates so far are appended.
use Rattle.std.proofs.Common.{◌≡◌, ◌++◌, take}
use Rattle.paql_bind.specs.Scopes.{seen}
use Rattle.paql_bind.specs.Sums.{bound_terms}
use Rattle.paql_bind.proofs.sums.append_terms.Given as goal

abbrev pub invariant-loop-item : goal.invariant-loop-item
invariant-loop-item l = l.terms.items ≡ l.fn.terms.items ++ bound_terms (seen l.scope) l.scale l.denied (take l.item-index l.items)
