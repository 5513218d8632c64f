use Rattle.cert_checker.proofs.FirstFaults.{first_fault_is_one}
use Rattle.cert_checker.proofs.laws.first_fault_is_one.Goals as goal

pub returns : goal.returns
returns c = first_fault_is_one
