-- What the text of a frame is.
use Rattle.std.specs.Prelude.{ℕ, List, []}
use Rattle.paql_ast.specs.declared.statements.Statement.TheVariants as statements
use Rattle.paql_lexer.specs.Tokens.{IsTokens, IsLexFault}
use Rattle.paql_grammar.specs.Texts.{IsStatement, HasSyntaxFault, HasDeepFault}
use Rattle.session_proto.specs.Causes.{text_cause}
use Rattle.session_proto.specs.Refusals as refusals
use Rattle.session_proto.specs.Refusals.{Refusal}
use Rattle.paql_engine.specs.declared.text.Text.{Text}
use Rattle.paql_engine.specs.declared.text.Text.TheVariants.{Statement, Faulty, Blank}

-- the text is a LOAD, which has a body of so many bytes
abbrev pub IsLoad : List ℕ → ℕ → Type 0
IsLoad words count = (table : List ℕ) × IsStatement words (statements.Load table count)

-- the text is no statement, for this cause at this place
pub data FaultOf (words : List ℕ) : Refusal → Type 0 where
  lex : (at : ℕ) → IsLexFault words at → FaultOf words (refusals.lex at)
  syntax : (at : ℕ) → HasSyntaxFault words at → FaultOf words (refusals.syntax at)
  deep : (at : ℕ) → HasDeepFault words at → FaultOf words (refusals.deep at)

-- its statement, or its fault, or that it has no token
abbrev pub IsText : List ℕ → Text → Type 0
IsText words (Statement t) = IsStatement words t
IsText words (Faulty fault at) = FaultOf words (text_cause fault at)
IsText words Blank = IsTokens words []
