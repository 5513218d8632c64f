-- The canonical text of a text's statement is read back, and belongs to that statement alone.
use Rattle.std.proofs.Common.{List, sym, subst, ℕ}
use Rattle.paql_ast.specs.declared.statements.Statement.{Statement}
use Rattle.paql_grammar.specs.Lexemes.{Lexeme, lexemes}
use Rattle.paql_printer.specs.Print as print
use Rattle.paql_grammar.specs.Statements.{statement}
use Rattle.paql_grammar.specs.Texts.{Spells, IsStatement}
use Rattle.paql_printer.proofs.CanonicalConditions.{canonical_statements}
use Rattle.paql_grammar.proofs.StatementRules.{one_statement}
use Rattle.paql_grammar.proofs.TextRules.{one_tree_of_text}
use Rattle.paql_printer.specs.Texts.{canonical_text, CanonicalIsRead, CanonicalIsOne}
use Rattle.paql_printer.proofs.SoundStatements.{statements_are_separable}
use Rattle.paql_printer.proofs.SpacedTokens.{spaced_is_cut}
use Rattle.paql_printer.proofs.TextTokens.{text_is_tokens}

-- what a text spells at depth 64 is its statement
only_statement : (text : List ℕ) (t : Statement) → Spells 64 text t → IsStatement text t
only_statement text t (tokens, cut, spells) = record {
  tokens = tokens;
  cut = cut;
  spelled = record { spells = spells; only = λ m u other. one_statement m 64 (lexemes text tokens) u t other spells };
}

-- the canonical text of a text's statement spells it
canonical_spells : (text : List ℕ) (t : Statement) → IsStatement text t → Spells 64 (canonical_text t) t
canonical_spells text t is =
    let w = lexemes text is.tokens in
    let separable = statements_are_separable 64 w t is.spelled.spells (text_is_tokens text is.tokens is.cut) in
    let cut = spaced_is_cut (print.statement t) separable in
    (cut.0, cut.1, subst (λ (z : List Lexeme). statement 64 z t) (sym cut.2) (canonical_statements 64 w t is.spelled.spells))

-- The canonical text of a text's statement is a text of it, and of no other.
pub canonical_text_is_read : CanonicalIsRead
canonical_text_is_read text t is = only_statement (canonical_text t) t (canonical_spells text t is)

-- Statements of texts with the same canonical text are the same.
pub canonical_text_is_one : CanonicalIsOne
canonical_text_is_one text other t u of_text of_other same =
    let behind = canonical_spells other u of_other in
    one_tree_of_text 64 64 (canonical_text t) t u (canonical_spells text t of_text) (subst (λ (z : List ℕ). Spells 64 z u) (sym same) behind)
