use Rattle.std.proofs.Common.{◌↔◌, drop}
use Rattle.package_query.specs.Plain.{HaveFewTerms}
use Rattle.package_query.proofs.limits.have_few_terms.Given as goal

abbrev pub invariant-loop-conjunct : goal.invariant-loop-conjunct
invariant-loop-conjunct l =
    HaveFewTerms (drop l.conjunct-index l.conjuncts)
    ↔ HaveFewTerms l.conjuncts
