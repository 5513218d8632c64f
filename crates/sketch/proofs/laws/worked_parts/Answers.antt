use Rattle.std.proofs.Common.{refl}
use Rattle.sketch.proofs.WorkedLemmas.{whole_even, three_parts, together_joined}
use Rattle.sketch.proofs.laws.worked_parts.Goals as goal

pub returns : goal.returns
returns c = record {
  even = whole_even;
  parts = three_parts;
  sketch = refl;
  real = refl;
  others = refl;
  refine = refl;
  most_taken = refl;
  most_given = refl;
  join = together_joined;
  no_rows = refl;
}
