-- Private: the laws of canonical texts and the printer, which the program does not use yet.
-- The canonical text of a statement, and what it means that it is read back.
use Rattle.std.specs.Prelude.{◌≡◌, ℕ, List}
use Rattle.paql_ast.specs.declared.statements.Statement.{Statement}
use Rattle.paql_printer.specs.Print as print
use Rattle.paql_printer.specs.Spacing.{spaced}
use Rattle.paql_grammar.specs.Texts.{IsStatement}

-- The canonical lexemes of a statement, with the spaces of a canonical text between them.
abbrev pub canonical_text : Statement → List ℕ
canonical_text t = spaced (print.statement t)

-- The canonical text of a text's statement is a text of it, and of no other.
abbrev pub CanonicalIsRead : Type 0
CanonicalIsRead =
    (text : List ℕ) (t : Statement) → IsStatement text t → IsStatement (canonical_text t) t

-- Two statements of texts with the same canonical text are the same statement.
abbrev pub CanonicalIsOne : Type 0
CanonicalIsOne = (text other : List ℕ) (t u : Statement)
    → IsStatement text t → IsStatement other u → canonical_text t ≡ canonical_text u → t ≡ u
