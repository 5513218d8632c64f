-- Both ways.
use Rattle.package_judge.proofs.Breaks.{meets_if, nothing_breaks}
use Rattle.package_judge.proofs.laws.meets_if_nothing_breaks.Goals as goal

pub returns : goal.returns
returns c = λ query rows pairs rises. (meets_if query rows pairs rises, nothing_breaks query rows pairs)
