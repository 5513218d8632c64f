-- What is kept of an answer, as a certificate that can be written.
use Rattle.std.specs.Prelude.{ℕ, ◌^◌, ◌≤◌, List}
use Rattle.std.specs.List.{AllByRecursion}
use Rattle.cert_text.specs.Certs.{IsCert, cert_with}
use Rattle.cert_text.specs.declared.value.CertText.{CertText}
use Rattle.cert_text.specs.declared.value.Claim.{Claim}
use Rattle.cert_tree.specs.declared.nodes.TreeNode.{TreeNode}
use Rattle.lin_bound.specs.Problem.{ProblemData, variables, row_count}
use Rattle.table_schema.specs.declared.cells.Cell.{Cell}

-- the certificate that is kept of a program: what is claimed of it, with the pairs of the package
-- that was found, and the tree
abbrev pub kept_cert : ProblemData → Claim → List (ℕ × ℕ) → List TreeNode → CertText
kept_cert p claim pairs nodes = cert_with (variables p) (row_count p) claim pairs nodes

-- no number of it is too large for a certificate's text
abbrev pub IsWritten : ProblemData → Claim → List (ℕ × ℕ) → List TreeNode → Type 0
IsWritten p claim pairs nodes = IsCert (kept_cert p claim pairs nodes)

-- no id of the rows is too large for one; those of a store never are
abbrev pub AreNumbered : List (ℕ × List Cell) → Type 0
AreNumbered rows = AllByRecursion (λ (entry : ℕ × List Cell). entry.0 ≤ 10 ^ 12) rows
