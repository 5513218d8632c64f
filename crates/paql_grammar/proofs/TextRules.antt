-- What the law of statements says of texts.
use Rattle.std.proofs.Common.{◌≡◌, ℕ, ◌-◌, List, length, Err, ap, subst}
use Rattle.std.proofs.lemmas.List.{length-map}
use Rattle.formal_grammar.specs.declared.stop.Why.TheVariants.{Syntax, Deep}
use Rattle.formal_grammar.specs.Parse.{all_of}
use Rattle.formal_grammar.proofs.Whole.{syntax_by, deep_by}
use Rattle.paql_lexer.specs.declared.lexer.Token.{Token}
use Rattle.paql_lexer.proofs.Reached.{one_list_of_tokens}
use Rattle.paql_grammar.specs.Lexemes.{lexeme, lexemes}
use Rattle.paql_grammar.specs.Statements as grammar
use Rattle.paql_grammar.specs.StatementReading as read
use Rattle.paql_grammar.specs.Texts.{OneTree, place_of, IsSyntaxAt, IsDeepAt}
use Rattle.paql_grammar.proofs.StatementRules.{exact_statement, one_statement}

-- there are as many lexemes as tokens
as_many : (text : List ℕ) (tokens : List Token) → length (lexemes text tokens) ≡ length tokens
as_many text tokens = length-map tokens (lexeme text)

-- A refusal by syntax is a fault at the place of its token.
pub syntax_at : (text : List ℕ) (tokens : List Token) (left at : ℕ) → all_of (read.statement 64) (lexemes text tokens) ≡ Err (Syntax, left) → at ≡ place_of text tokens (length tokens - left) → IsSyntaxAt text tokens at
syntax_at text tokens left at e place = (length tokens - left, place, syntax_by (exact_statement 64) (lexemes text tokens) left (length tokens - left) e (ap (λ n. n - left) (as_many text tokens)))

-- So is a refusal by depth.
pub deep_at : (text : List ℕ) (tokens : List Token) (left at : ℕ) → all_of (read.statement 64) (lexemes text tokens) ≡ Err (Deep, left) → at ≡ place_of text tokens (length tokens - left) → IsDeepAt text tokens at
deep_at text tokens left at e place = (length tokens - left, place, deep_by (exact_statement 64) (lexemes text tokens) left (length tokens - left) e (ap (λ n. n - left) (as_many text tokens)))

-- A text spells one statement at most.
pub one_tree_of_text : OneTree
one_tree_of_text m n text t u x y =
    let same : x.0 ≡ y.0 = one_list_of_tokens text x.0 y.0 x.1 y.1 in
    one_statement m n (lexemes text y.0) t u (subst (λ tokens. grammar.statement m (lexemes text tokens) t) same x.2) y.2
