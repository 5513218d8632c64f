-- What is said of a certificate's text for a query over the rows of its table.
use Rattle.std.specs.Prelude.{◌≡◌, ◌≢◌, ◌⊎◌, ◌≤◌, ℕ, Bool, List, [], Option, None, Some, Result}
use Rattle.std.specs.Prelude.{Ok, Err, ℤ, min}
use Rattle.bound_query.specs.Asks.{asks}
use Rattle.bound_query.specs.declared.queries.BoundQuery.{BoundQuery}
use Rattle.cert_checker.specs.Faults.{IsChecked}
use Rattle.cert_checker.specs.declared.answer.CheckAnswer.TheVariants as checks
use Rattle.cert_checker.specs.declared.answer.Reason.{Reason}
use Rattle.cert_checker.specs.declared.answer.Reason.TheVariants.{OpenLeaf}
use Rattle.cert_text.specs.Answers.{IsRead}
use Rattle.cert_text.specs.Claims.{claimed}
use Rattle.cert_text.specs.declared.value.CertFault.{CertFault}
use Rattle.cert_text.specs.declared.value.CertFault.TheVariants as faults
use Rattle.cert_text.specs.declared.value.CertText.{CertText}
use Rattle.cert_text.specs.declared.value.Claim.{Claim}
use Rattle.cert_text.specs.declared.value.Claim.TheVariants.{Optimal, Infeasible, Undecided}
use Rattle.lin_bound.specs.Problem.{ProblemData, variables, row_count}
use Rattle.package_judge.specs.Verdicts.{breaks, first}
use Rattle.package_judge.specs.declared.judging.Place.{Place}
use Rattle.package_program.specs.Meaning.{program}
use Rattle.package_program.specs.Translation.{count_of, most_candidates, HasSmallSums, Translates}
use Rattle.package_program.specs.declared.faults.FormFault.{FormFault}
use Rattle.package_query.specs.Meaning.{Best, Empty, worth}
use Rattle.package_query.specs.Query.{PackageQuery}
use Rattle.table_schema.specs.declared.cells.Cell.{Cell}
use Rattle.answer_check.specs.declared.verdict.BadText.{BadText}
use Rattle.answer_check.specs.declared.verdict.BadText.TheVariants.{Header, Line, Truncated}
use Rattle.answer_check.specs.declared.verdict.BadText.TheVariants.{Trailing}
use Rattle.answer_check.specs.declared.verdict.Verdict.{Verdict}
use Rattle.answer_check.specs.declared.verdict.Verdict.TheVariants.{BadCert, Shape, Package}
use Rattle.answer_check.specs.declared.verdict.Verdict.TheVariants.{Value, Fault, Valid}

-- the rows of a table, each after its id
abbrev pub Rows : Type 0
Rows = List (ℕ × List Cell)

-- the program of a query over its rows, and what a package is worth
abbrev pub program_of : BoundQuery → Rows → ProblemData
program_of query rows = program (asks query) query.row_bound rows

abbrev pub worth_of : BoundQuery → Rows → List (ℕ × ℕ) → ℤ
worth_of query rows pairs = worth (asks query) rows pairs

-- the query has a program: not too many candidates, and no sum that could be too large
pub record HasProgram (query : BoundQuery) (rows : Rows) : Type 0 where
  pub few : count_of query rows ≤ most_candidates
  pub small : HasSmallSums query rows

-- ---- the package

-- A row is taken at most a million times, whatever REPEAT says.
abbrev pub held_repeat : Option ℕ → ℕ
held_repeat None = 999999
held_repeat (Some more) = min more 999999

abbrev pub held : {R : Type 0} → PackageQuery R → PackageQuery R
held query = record query { repeat = Some (held_repeat query.repeat) }

-- the first place at which pairs break the query
abbrev pub break_of : BoundQuery → Rows → List (ℕ × ℕ) → Option Place
break_of query rows pairs = first (breaks (held (asks query)) rows pairs)

-- where a value is claimed, its package has no such place; and it is worth the value
abbrev pub KeepsQuery : BoundQuery → Rows → List (ℕ × ℕ) → Option ℤ → Type 0
KeepsQuery query rows pairs None = Unit {0}
KeepsQuery query rows pairs (Some value) = break_of query rows pairs ≡ None

abbrev pub HasWorth : BoundQuery → Rows → List (ℕ × ℕ) → Option ℤ → Type 0
HasWorth query rows pairs None = Unit {0}
HasWorth query rows pairs (Some value) = value ≡ worth_of query rows pairs

-- where a value is claimed, this is the first place at which its package breaks the query
abbrev pub BreaksAt : BoundQuery → Rows → List (ℕ × ℕ) → Option ℤ → Place → Type 0
BreaksAt query rows pairs None place = ⊥
BreaksAt query rows pairs (Some value) place = break_of query rows pairs ≡ Some place

-- this value is claimed, and its package meets the query and is worth something else
pub record HasOther (query : BoundQuery) (rows : Rows) (pairs : List (ℕ × ℕ)) (value : Option ℤ)
    (said other : ℤ) : Type 0 where
  pub claims : value ≡ Some said
  pub keeps : break_of query rows pairs ≡ None
  pub is : other ≡ worth_of query rows pairs
  pub differs : said ≢ other

-- ---- the tree

-- as many variables and rows as the program
pub record HasShape (p : ProblemData) (cert : CertText) : Type 0 where
  pub vars : cert.vars ≡ variables p
  pub rows : cert.rows ≡ row_count p

abbrev pub IsDecided : Claim → Type 0
IsDecided (Optimal value) = Unit {0}
IsDecided Infeasible = Unit {0}
IsDecided (Undecided value) = ⊥

-- nothing is wrong with the tree, for what is claimed
abbrev pub Certifies : ProblemData → CertText → Type 0
Certifies p cert = IsChecked p cert.nodes (claimed cert.claim) checks.Valid

-- The first place at which something is wrong. A claim that is undecided isn't certified by a tree
-- with which nothing is wrong: its root is open.
abbrev pub HasFault : ProblemData → CertText → List Bool → Reason → Type 0
HasFault p cert path reason =
    IsChecked p cert.nodes (claimed cert.claim) (checks.Invalid path reason)
    ⊎ ((¬ IsDecided cert.claim) × Certifies p cert × (path ≡ []) × (reason ≡ OpenLeaf))

-- ---- verdicts

-- what comes before the tree is right
pub record IsMet (query : BoundQuery) (rows : Rows) (cert : CertText) : Type 0 where
  pub shape : HasShape (program_of query rows) cert
  pub keeps : KeepsQuery query rows cert.pairs (claimed cert.claim)
  pub worth : HasWorth query rows cert.pairs (claimed cert.claim)

-- what is said of a certificate that was read
abbrev pub SaysOf : BoundQuery → Rows → CertText → Verdict → Type 0
SaysOf query rows cert (BadCert bad) = ⊥
SaysOf query rows cert Shape = ¬ HasShape (program_of query rows) cert
SaysOf query rows cert (Package place) = HasShape (program_of query rows) cert
    × BreaksAt query rows cert.pairs (claimed cert.claim) place
SaysOf query rows cert (Value said other) = HasShape (program_of query rows) cert
    × HasOther query rows cert.pairs (claimed cert.claim) said other
SaysOf query rows cert (Fault path reason) = IsMet query rows cert
    × HasFault (program_of query rows) cert path reason
SaysOf query rows cert Valid = IsMet query rows cert × IsDecided cert.claim
    × Certifies (program_of query rows) cert

abbrev pub fault_of : BadText → CertFault
fault_of Header = faults.BadHeader
fault_of (Line number) = faults.BadLine number
fault_of Truncated = faults.Truncated
fault_of (Trailing number) = faults.Trailing number

-- what is said of a text
pub data Says (query : BoundQuery) (rows : Rows) (text : List ℕ) : Verdict → Type 0 where
  bad : (fault : BadText) → IsRead text (Err (fault_of fault))
      → Says query rows text (BadCert fault)
  read : (cert : CertText) (verdict : Verdict) → IsRead text (Ok cert)
      → SaysOf query rows cert verdict → Says query rows text verdict

-- the query has a program, and this is said of the text; or it has none, or memory is out
abbrev pub Judges : BoundQuery → Rows → List ℕ → Result Verdict FormFault → Type 0
Judges query rows text (Ok verdict) = HasProgram query rows × Says query rows text verdict
Judges query rows text (Err fault) = Translates query rows (Err fault)

-- ---- what a valid certificate shows

-- what is claimed is so
abbrev pub IsSo : BoundQuery → Rows → List (ℕ × ℕ) → Claim → Type 0
IsSo query rows pairs (Optimal value) =
    Best (asks query) rows pairs × (value ≡ worth_of query rows pairs)
IsSo query rows pairs Infeasible = Empty (asks query) rows
IsSo query rows pairs (Undecided value) = ⊥

-- the text is a certificate's, and what it claims is so
abbrev pub Shows : BoundQuery → Rows → List ℕ → Type 0
Shows query rows text = (cert : CertText) × IsRead text (Ok cert)
    × IsSo query rows cert.pairs cert.claim
