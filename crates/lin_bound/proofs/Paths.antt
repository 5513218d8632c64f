-- When the fronts of two paths are the same, and the paths.
use Rattle.std.proofs.Common.{◌≡◌, ℕ, ◌+◌, ◌≤◌, List, take, length, sym, ◌∙◌, arith, Some}
use Rattle.std.specs.Prelude.{slice_get}
use Rattle.std.proofs.lemmas.List.{take_more_same, take_all}
use Rattle.std.proofs.lemmas.Option.{slice_get_within, get_or_from_slice_get}
use Rattle.lin_bound.specs.declared.path.Branch.{Branch}

-- the fronts of two paths are one, with the next branch too
pub front_more : (one other : List Branch) (place : ℕ) (first second : Branch) → slice_get one place ≡ Some first → slice_get other place ≡ Some second → first ≡ second → take place one ≡ take place other → take (place + 1) one ≡ take (place + 1) other
front_more one other place first second left right same fronts =
    take_more_same one other place first (slice_get_within one place first left) (slice_get_within other place second right) fronts (get_or_from_slice_get one place first first left ∙ (same ∙ sym (get_or_from_slice_get other place second first right)))

pub same_from_fronts : (one other : List Branch) (place : ℕ) → length one ≡ length other → length one ≤ place → take place one ≡ take place other → one ≡ other
same_from_fronts one other place lengths all fronts =
    sym (take_all place one all) ∙ (fronts ∙ take_all place other (omega (arith, lengths, all)))
