-- A text is blank exactly if it has no token.
use Rattle.std.proofs.Common.{ℕ, Bool, List, [], ◌∷◌, ◌++◌, inl, inr, IsTrue, sym, ◌∙◌}
use Rattle.std.specs.Prelude.{◌↔◌}
use Rattle.std.specs.List.{concat}
use Rattle.std.proofs.lemmas.List.{append-nil}
use Rattle.pq_base.specs.Gaps as gaps
use Rattle.paql_lexer.specs.Lexical as lexical
use Rattle.paql_lexer.specs.Tokens.{IsTokens}
use Rattle.session_proto.specs.Frames.{is_blank}
use Rattle.session_proto.proofs.Blanks.{blank_is_gap}

-- the same definitions, as the lexer has them

all_to : (test : ℕ → Bool) (bytes : List ℕ) → gaps.AllIn test bytes → lexical.AllIn test bytes
all_to test [] all = tt
all_to test (byte ∷ bytes) all = (all.0, all_to test bytes all.1)

all_from : (test : ℕ → Bool) (bytes : List ℕ) → lexical.AllIn test bytes → gaps.AllIn test bytes
all_from test [] all = tt
all_from test (byte ∷ bytes) all = (all.0, all_from test bytes all.1)

ends_to : (test : ℕ → Bool) (bytes : List ℕ) → gaps.EndsRun test bytes → lexical.EndsRun test bytes
ends_to test [] ends = tt
ends_to test (byte ∷ bytes) ends = ends

ends_from : (test : ℕ → Bool) (bytes : List ℕ) → lexical.EndsRun test bytes → gaps.EndsRun test bytes
ends_from test [] ends = tt
ends_from test (byte ∷ bytes) ends = ends

piece_to : (piece rest : List ℕ) → gaps.IsPiece piece rest → lexical.IsPiece piece rest
piece_to piece rest (inl space) = inl space
piece_to piece rest (inr comment) =
    inr (comment.0, all_to gaps.in_line comment.0 comment.1, comment.2, ends_to gaps.in_line rest comment.3)

piece_from : (piece rest : List ℕ) → lexical.IsPiece piece rest → gaps.IsPiece piece rest
piece_from piece rest (inl space) = inl space
piece_from piece rest (inr comment) =
    inr (comment.0, all_from gaps.in_line comment.0 comment.1, comment.2, ends_from gaps.in_line rest comment.3)

pieces_to : (pieces : List (List ℕ)) (rest : List ℕ) → gaps.ArePieces pieces rest → lexical.ArePieces pieces rest
pieces_to [] rest none = λ (word more : List ℕ). λ same. λ is. none word more same (piece_from word more is)
pieces_to (piece ∷ pieces) rest are =
    (piece_to piece (concat pieces ++ rest) are.0, pieces_to pieces rest are.1)

pieces_from : (pieces : List (List ℕ)) (rest : List ℕ) → lexical.ArePieces pieces rest → gaps.ArePieces pieces rest
pieces_from [] rest none = λ (word more : List ℕ). λ same. λ is. none word more same (piece_to word more is)
pieces_from (piece ∷ pieces) rest are =
    (piece_from piece (concat pieces ++ rest) are.0, pieces_from pieces rest are.1)

no_tokens_of : (text : List ℕ) → gaps.IsGap text [] → IsTokens text []
no_tokens_of text gap = (text, (gap.0, pieces_to gap.0 [] gap.1, gap.2), sym (append-nil text))

gap_of : (text : List ℕ) → IsTokens text [] → gaps.IsGap text []
gap_of text tokens =
    let gap = tokens.1 in
    (gap.0, pieces_from gap.0 [] gap.1, tokens.2 ∙ (append-nil tokens.0 ∙ gap.2))

pub blank_is_no_tokens : (text : List ℕ) → IsTrue (is_blank text) ↔ IsTokens text []
blank_is_no_tokens text = (
  λ (blank : IsTrue (is_blank text)). no_tokens_of text ((blank_is_gap text).0 blank),
  λ (tokens : IsTokens text []). (blank_is_gap text).1 (gap_of text tokens),
)

pub blank_of_no_tokens : (text : List ℕ) → IsTokens text [] → IsTrue (is_blank text)
blank_of_no_tokens text tokens = (blank_is_no_tokens text).1 tokens
