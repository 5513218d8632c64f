use Rattle.std.proofs.Common.{◌≡◌, ◌^◌, ◌≤◌, map, take, sum}
use Rattle.bound_query.specs.Terms.{term_value}
use Rattle.package_program.specs.Program.{adds, sizes}
use Rattle.package_program.specs.Translation.{entries_of}
use Rattle.package_program.proofs.sums.adds_of.Given as goal

abbrev pub invariant-loop-place : goal.invariant-loop-place
invariant-loop-place l = record {
  added : l.sum ≡ adds l.bound (map term_value l.terms) (take l.place (entries_of l.candidates));
  total : l.total ≡ sum (take l.place (sizes l.bound (map term_value l.terms) (entries_of l.candidates)));
  small : l.total ≤ 2 ^ 60;
}
