-- Private: the plain program of `src/plain.rt`, with which the meaning of a query is tested.
-- Plain queries, as the plain program computes them: a row is the list of its numbers, and a term the place of one.
use Rattle.std.specs.Prelude.{ℕ, ◌^◌, ◌<◌, ◌≤◌, List, length, map, ℤ, pos, true, Option, None, Some, IfSome, slice_index_or}
use Rattle.std.specs.List.{AllByRecursion}
use Rattle.package_query.specs.Query.{Conjunct, Goal, PackageQuery}
use Rattle.package_query.specs.declared.plain.PlainQuery.{PlainQuery}
use Rattle.package_query.specs.declared.plain.PlainConjunct.{PlainConjunct}
use Rattle.package_query.specs.declared.plain.PlainGoal.{PlainGoal}

-- the number of a row at a place, and 0 past its end
abbrev pub number_at : ℕ → List ℤ → ℤ
number_at place row = slice_index_or row place (pos 0)

-- the query that a plain one is
abbrev pub conjunct_of : PlainConjunct → Conjunct (List ℤ)
conjunct_of plain = record { terms = map number_at plain.terms; comparison = plain.comparison }

abbrev pub goal_of : Option PlainGoal → Option (Goal (List ℤ))
goal_of None = None
goal_of (Some plain) = Some (record { maximize = plain.maximize; terms = map number_at plain.terms })

abbrev pub query_of : PlainQuery → PackageQuery (List ℤ)
query_of plain = record {
  passes = λ (row : List ℤ). true;
  repeat = Some plain.repeat;
  conjuncts = map conjunct_of plain.conjuncts;
  goal = goal_of plain.goal;
}

-- at most 64 terms in each conjunct
abbrev pub HaveFewTerms : List PlainConjunct → Type 0
HaveFewTerms conjuncts = AllByRecursion (λ (conjunct : PlainConjunct). length conjunct.terms ≤ 64) conjuncts

-- few enough copies, terms and rows that every sum over 64-bit numbers stays within 128 bits
pub record IsSmall (plain : PlainQuery) (rows : List (ℕ × List ℤ)) : Type 0 where
  pub few_copies : plain.repeat < 2 ^ 20
  pub few_terms : HaveFewTerms plain.conjuncts
  pub few_goal_terms : IfSome plain.goal (λ (goal : PlainGoal). length goal.terms ≤ 64)
  pub few_rows : length rows < 2 ^ 32

-- a package whose sums stay within 128 bits
pub record IsSmallPackage (pairs : List (ℕ × ℕ)) : Type 0 where
  pub few_pairs : length pairs < 2 ^ 32
  pub few_copies : AllByRecursion (λ (pair : ℕ × ℕ). pair.1 ≤ 2 ^ 20) pairs
