use Rattle.std.proofs.Common.{refl}
use Rattle.version_store.proofs.laws.worked_histories.Goals as goal

pub returns : goal.returns
returns c = record {
  accepted = (refl, (refl, (refl, (refl, (refl, tt)))));
  second = refl;
  third = refl;
  fourth = refl;
  low = refl;
  entries = refl;
  kept = refl;
  rows = refl;
  again = refl;
  unkept = refl;
  second_change = refl;
}
