-- What an answer says of the text.
use Rattle.std.proofs.Common.{◌≡◌, ℕ, zero, suc, ◌<◌, ◌≤◌, List, [], ◌∷◌, length, get_or, Option, Some, None, Result, Ok, Err, MatchResult, refl, sym, ap, subst, arith}
use Rattle.paql_lexer.specs.declared.lexer.Token.{Token}
use Rattle.paql_lexer.specs.Tokens.{IsTokens}
use Rattle.paql_lexer.proofs.Reached.{one_list_of_tokens, no_list_of_tokens}
use Rattle.paql_ast.specs.declared.statements.Statement.{Statement}
use Rattle.formal_grammar.specs.Fault.{Agrees}
use Rattle.paql_grammar.specs.Lexemes.{Lexeme, lexemes}
use Rattle.paql_grammar.specs.Statements.{statement}
use Rattle.paql_grammar.specs.Texts.{Spells, place_of}
use Rattle.paql_grammar.proofs.StatementRules.{never_empty}
use Rattle.paql_parser.specs.declared.fault.ParseFault.{ParseFault}
use Rattle.paql_parser.specs.declared.fault.ParseFault.TheVariants.{Lex, Syntax, Deep, Memory}
use Rattle.paql_parser.specs.Answers.{Answers, AnswersTokens}

-- ---- places

pub place_some : (text : List ℕ) (tokens : List Token) (number : ℕ) (token : Token) → number < length tokens → token ≡ get_or tokens number token → token.start ≡ place_of text tokens number
place_some text [] number token within e = absurd (omega (arith, within))
place_some text (first ∷ tokens) zero token within e = ap (λ (t : Token). t.start) e
place_some text (first ∷ tokens) (suc number) token within e = place_some text tokens number token (omega (arith, within)) e

pub place_none : (text : List ℕ) (tokens : List Token) (number : ℕ) → length tokens ≤ number → length text ≡ place_of text tokens number
place_none text [] number past = refl
place_none text (first ∷ tokens) zero past = absurd (omega (arith, past))
place_none text (first ∷ tokens) (suc number) past = place_none text tokens number (omega (arith, past))

-- ---- faults

-- A fault of the tokens is a fault of the text.
pub fault_of : (text : List ℕ) (tokens : List Token) (fault : ParseFault) → IsTokens text tokens → 0 < length tokens → AnswersTokens text tokens (Err fault) → Answers text (Err fault)
fault_of text tokens (Lex at) cut some answer = absurd answer
fault_of text tokens (Syntax at) cut some answer = record { tokens = tokens; cut = cut; some = some; fault = answer }
fault_of text tokens (Deep at) cut some answer = record { tokens = tokens; cut = cut; fault = answer }
fault_of text tokens Memory cut some answer = tt

-- a text agrees with itself
agrees_itself : (tokens : List Lexeme) (t : Statement) (number : ℕ) → statement 64 tokens t → Agrees (λ m. statement m) 64 number tokens
agrees_itself tokens t number spells = record { text = tokens; value = t; spells = spells; same = refl }

-- the lexemes of one list of tokens are those of the other
spelled_by : (text : List ℕ) (t : Statement) (spells : Spells 64 text t) (tokens : List Token) → IsTokens text tokens → statement 64 (lexemes text tokens) t
spelled_by text t spells tokens cut = subst (λ ts. statement 64 (lexemes text ts) t) (one_list_of_tokens text spells.0 tokens spells.1 cut) spells.2

-- What a text spells is its answer.
pub complete_of : (text : List ℕ) (answer : Result (Option Statement) ParseFault) → Answers text answer → (t : Statement) → Spells 64 text t → MatchResult answer (λ found. found ≡ Some t) (λ e. e ≡ Memory)
complete_of text (Ok None) is t spells = absurd (never_empty 64 t (spelled_by text t spells [] is))
complete_of text (Ok (Some u)) is t spells = ap Some (sym (is.spelled.only 64 t (spelled_by text t spells is.tokens is.cut)))
complete_of text (Err (Lex at)) is t spells = absurd ((no_list_of_tokens text at is).0 spells.0 spells.1)
complete_of text (Err (Syntax at)) is t spells =
    let spelled = spelled_by text t spells is.tokens is.cut in
    absurd (is.fault.2.after 64 (agrees_itself (lexemes text is.tokens) t (suc is.fault.0) spelled))
complete_of text (Err (Deep at)) is t spells =
    let spelled = spelled_by text t spells is.tokens is.cut in
    absurd (is.fault.2.after (agrees_itself (lexemes text is.tokens) t (suc is.fault.0) spelled))
complete_of text (Err Memory) is t spells = refl

-- A text without a token has that answer.
pub empty_of : (text : List ℕ) (answer : Result (Option Statement) ParseFault) → Answers text answer → IsTokens text [] → MatchResult answer (λ found. found ≡ None) (λ e. e ≡ Memory)
empty_of text (Ok None) is empty = refl
empty_of text (Ok (Some u)) is empty =
    let same = one_list_of_tokens text is.tokens [] is.cut empty in
    absurd (never_empty 64 u (subst (λ ts. statement 64 (lexemes text ts) u) same is.spelled.spells))
empty_of text (Err (Lex at)) is empty = absurd ((no_list_of_tokens text at is).0 [] empty)
empty_of text (Err (Syntax at)) is empty = absurd (omega (arith, is.some, ap length (one_list_of_tokens text is.tokens [] is.cut empty)))
empty_of text (Err (Deep at)) is empty =
    let same = one_list_of_tokens text is.tokens [] is.cut empty in
    absurd (omega (arith, is.fault.2.within, ap (λ (ts : List Token). length (lexemes text ts)) same))
empty_of text (Err Memory) is empty = refl
