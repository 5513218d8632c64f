-- The text of a frame is one statement at most, and none where it has a fault.
use Rattle.std.proofs.Common.{◌≡◌, ◌≢◌, ℕ, suc, List, refl, subst}
use Rattle.formal_grammar.specs.Fault.{Agrees}
use Rattle.paql_ast.specs.declared.statements.Statement.{Statement}
use Rattle.paql_ast.specs.declared.statements.Statement.TheVariants.{Load}
use Rattle.paql_grammar.proofs.TextRules.{one_tree_of_text}
use Rattle.paql_grammar.specs.Lexemes.{lexemes}
use Rattle.paql_grammar.specs.Statements.{statement}
use Rattle.paql_grammar.specs.Texts.{IsStatement, IsSyntaxAt, IsDeepAt}
use Rattle.paql_lexer.proofs.Reached.{one_list_of_tokens, no_list_of_tokens}
use Rattle.paql_lexer.specs.declared.lexer.Token.{Token}
use Rattle.session_proto.specs.Refusals.{Refusal}
use Rattle.session_proto.specs.Sessions.{OneWish}
use Rattle.paql_engine.specs.Texts.{IsLoad, FaultOf, lex, syntax, deep}

pub statement_once : (text : List ℕ) (t u : Statement) → IsStatement text t → IsStatement text u → t ≡ u
statement_once text t u one other =
    one_tree_of_text 64 64 text t u (one.tokens, one.cut, one.spelled.spells) (other.tokens, other.cut, other.spelled.spells)

load_size : (table other : List ℕ) (count size : ℕ) → Load table count ≡ Load other size → count ≡ size
load_size table other count size same = cc

-- a LOAD has a body of one size
pub load_once : OneWish IsLoad
load_once text one other x y =
    load_size x.0 y.0 one other (statement_once text (Load x.0 one) (Load y.0 other) x.1 y.1)

-- the text of another statement is no LOAD
pub no_load : (text : List ℕ) (t : Statement) → IsStatement text t → ((table : List ℕ) (count : ℕ) → t ≢ Load table count) → (count : ℕ) → ¬ IsLoad text count
no_load text t is other count load = other load.0 count (statement_once text t (Load load.0 count) is load.1)

-- ---- a text with a fault

-- the tokens of a statement agree with it everywhere
agrees : (text : List ℕ) (t : Statement) (is : IsStatement text t) (number : ℕ) → Agrees (λ m. statement m) 64 number (lexemes text is.tokens)
agrees text t is number = record {
  text = lexemes text is.tokens;
  value = t;
  spells = is.spelled.spells;
  same = refl;
}

pub no_statement : (text : List ℕ) (cause : Refusal) (t : Statement) → FaultOf text cause → ¬ IsStatement text t
no_statement text _ t (lex at fault) is = (no_list_of_tokens text at fault).0 is.tokens is.cut
no_statement text _ t (syntax at fault) is =
    let same = one_list_of_tokens text fault.tokens is.tokens fault.cut is.cut in
    let here = subst (λ (tokens : List Token). IsSyntaxAt text tokens at) same fault.fault in
    here.2.after 64 (agrees text t is (suc here.0))
no_statement text _ t (deep at fault) is =
    let same = one_list_of_tokens text fault.tokens is.tokens fault.cut is.cut in
    let here = subst (λ (tokens : List Token). IsDeepAt text tokens at) same fault.fault in
    here.2.after (agrees text t is (suc here.0))

-- such a text is no LOAD
pub faulty_no_load : (text : List ℕ) (cause : Refusal) → FaultOf text cause → (count : ℕ) → ¬ IsLoad text count
faulty_no_load text cause fault count load = no_statement text cause (Load load.0 count) fault load.1
