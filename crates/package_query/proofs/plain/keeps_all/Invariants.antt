use Rattle.std.proofs.Common.{◌↔◌, drop, map}
use Rattle.std.specs.List.{AllByRecursion}
use Rattle.package_query.specs.Meaning.{Keeps}
use Rattle.package_query.specs.Plain.{conjunct_of, HaveFewTerms}
use Rattle.package_query.proofs.plain.keeps_all.Given as goal

abbrev pub invariant-loop-conjunct : goal.invariant-loop-conjunct
invariant-loop-conjunct l =
    HaveFewTerms (drop l.conjunct-index l.conjuncts)
    × (AllByRecursion (Keeps l.rows l.pairs) (map conjunct_of (drop l.conjunct-index l.conjuncts))
    ↔ AllByRecursion (Keeps l.rows l.pairs) (map conjunct_of l.conjuncts))
