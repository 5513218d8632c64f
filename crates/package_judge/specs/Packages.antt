-- Private: `Package::new`: which lists of pairs are packages.
-- Packages as the lists of their pairs.
use Rattle.std.specs.Prelude.{ℕ, ◌≤◌, List}
use Rattle.std.specs.List.{AllByRecursion}
use Rattle.package_query.specs.Package.{IsPackage}

-- a row is taken at most a million times
abbrev pub IsLimited : ℕ × ℕ → Type 0
IsLimited pair = pair.1 ≤ 1000000

-- ids ascend, and each count is from 1 to a million
pub record IsPackageOf (pairs : List (ℕ × ℕ)) : Type 0 where
  pub rises : IsPackage pairs
  pub limited : AllByRecursion IsLimited pairs
