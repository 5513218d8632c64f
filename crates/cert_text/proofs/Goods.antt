-- The ranges of every line hold numbers.
use Rattle.std.proofs.Common.{ℕ, ◌+◌, ◌-◌, ◌^◌, ◌<◌, ◌≤◌, arith}
use Rattle.cert_text.specs.declared.kinds.Kind.{Kind}
use Rattle.cert_text.specs.declared.kinds.Kind.TheVariants.{Header, Vars, Rows, Optimal, OptimalMinus, Infeasible, Undecided, UndecidedMinus, UndecidedNone, Package, Pair, Close, Split, Open, End}
use Rattle.cert_text.specs.declared.kinds.Expect.{Expect}
use Rattle.cert_text.specs.declared.kinds.Expect.TheVariants.{AtHeader, AtVars, AtRows, AtClaim, AtPackage, AtPairs, AtNodes, AtEnd, Done}
use Rattle.cert_text.specs.Expected.{ranges, id_range, IsSound, AreGood}
use Rattle.cert_text.proofs.Weights.{close_good, split_good}

ids_good : (expect : Expect) → IsSound expect → ((id_range expect).low ≤ (id_range expect).high) × ((id_range expect).high < 10 ^ 19)
ids_good (AtPairs rows low left) sound = (omega (arith, sound.1), omega arith)
ids_good AtHeader sound = (omega arith, omega arith)
ids_good AtVars sound = (omega arith, omega arith)
ids_good AtRows sound = (omega arith, omega arith)
ids_good (AtClaim rows) sound = (omega arith, omega arith)
ids_good (AtPackage rows) sound = (omega arith, omega arith)
ids_good (AtNodes rows trees) sound = (omega arith, omega arith)
ids_good AtEnd sound = (omega arith, omega arith)
ids_good Done sound = (omega arith, omega arith)

pub ranges_good : (expect : Expect) (kind : Kind) → IsSound expect → AreGood (ranges expect kind)
ranges_good expect Header sound = tt
ranges_good expect Vars sound = (omega arith, omega arith, tt)
ranges_good expect Rows sound = (omega arith, omega arith, tt)
ranges_good expect Optimal sound = (omega arith, omega arith, tt)
ranges_good expect OptimalMinus sound = (omega arith, omega arith, tt)
ranges_good expect Infeasible sound = tt
ranges_good expect Undecided sound = (omega arith, omega arith, tt)
ranges_good expect UndecidedMinus sound = (omega arith, omega arith, tt)
ranges_good expect UndecidedNone sound = tt
ranges_good expect Package sound = (omega arith, omega arith, tt)
ranges_good expect Pair sound = ((ids_good expect sound).0, (ids_good expect sound).1, (omega arith, omega arith, tt))
ranges_good expect Close sound = close_good expect
ranges_good expect Split sound = split_good expect
ranges_good expect Open sound = tt
ranges_good expect End sound = tt
