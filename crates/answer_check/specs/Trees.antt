-- Private: `judge_tree` in `src/judging.rt`.
-- What is said of the tree of a certificate before which nothing is wrong.
use Rattle.std.specs.Prelude.{◌≡◌, []}
use Rattle.cert_checker.specs.declared.answer.Reason.TheVariants.{OpenLeaf}
use Rattle.cert_text.specs.declared.value.CertText.{CertText}
use Rattle.cert_text.specs.declared.value.Claim.{Claim}
use Rattle.lin_bound.specs.Problem.{ProblemData}
use Rattle.answer_check.specs.Verdicts.{Certifies, HasFault, IsDecided}
use Rattle.answer_check.specs.declared.verdict.Verdict.{Verdict}
use Rattle.answer_check.specs.declared.verdict.Verdict.TheVariants.{BadCert, Shape, Package}
use Rattle.answer_check.specs.declared.verdict.Verdict.TheVariants.{Value, Fault, Valid}

abbrev pub JudgesTree : ProblemData → CertText → Verdict → Type 0
JudgesTree p cert (BadCert bad) = ⊥
JudgesTree p cert Shape = ⊥
JudgesTree p cert (Package place) = ⊥
JudgesTree p cert (Value said other) = ⊥
JudgesTree p cert (Fault path reason) = HasFault p cert path reason
JudgesTree p cert Valid = IsDecided cert.claim × Certifies p cert

-- a claim with whose tree nothing is wrong
abbrev pub OfClaim : Claim → Verdict → Type 0
OfClaim claim (BadCert bad) = ⊥
OfClaim claim Shape = ⊥
OfClaim claim (Package place) = ⊥
OfClaim claim (Value said other) = ⊥
OfClaim claim (Fault path reason) = (¬ IsDecided claim) × (path ≡ []) × (reason ≡ OpenLeaf)
OfClaim claim Valid = IsDecided claim
