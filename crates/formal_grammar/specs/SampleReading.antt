-- Private: the sample in `src/sample.rt`.
-- The reading of each function of the sample's parser, line by line as in the grammar.
use Rattle.std.specs.Prelude.{ℕ, zero, suc, Bool, false, is_some}
use denote.Enum.Bare.{sameb}
use Rattle.formal_grammar.specs.contracts.sample.Sign.{the_type}
use Rattle.formal_grammar.specs.declared.stop.Why.TheVariants.{Deep}
use Rattle.formal_grammar.specs.declared.sample.Sign.{Sign}
use Rattle.formal_grammar.specs.declared.sample.Sign.TheVariants.{Open, Close, Plus, Bang}
use Rattle.formal_grammar.specs.declared.sample.Token.{Token}
use Rattle.formal_grammar.specs.declared.sample.Token.TheVariants as token
use Rattle.formal_grammar.specs.declared.sample.Expr.{Expr}
use Rattle.formal_grammar.specs.declared.sample.Expr.TheVariants as expr
use Rattle.formal_grammar.specs.Parse.{Parser, ◌>>=◌, ◌>>◌, pure, stop, accept, this, when, maybe}
use Rattle.formal_grammar.specs.Parse.{separated}
use Rattle.formal_grammar.specs.SampleGrammar.{number_of}

-- The token is this sign.
abbrev pub is : Sign → Token → Bool
is sign (token.Number n) = false
is sign (token.Sign s) = sameb the_type s sign

unfoldable pub number : Parser Token Expr
number = do
  n ← accept number_of
  pure (expr.Number n)

unfoldable pub mark : Parser Token Bool
mark = do
  bang ← maybe (is Bang) (accept (this (is Bang)))
  pure (is_some bang)

abbrev pub next_item : Parser Token Expr → Parser Token Expr
next_item item = do
  accept (this (is Plus))
  item

unfoldable pub sum : Parser Token Expr → Parser Token Expr
sum item = do
  items ← separated (is Plus) item
  marked ← mark
  pure (expr.Sum items marked)

unfoldable pub bracketed : Parser Token Expr → Parser Token Expr
bracketed sum = do
  accept (this (is Open))
  inner ← sum
  accept (this (is Close))
  pure inner

-- With n brackets still to open.
unfoldable pub item : ℕ → Parser Token Expr
item zero = when (is Open) (stop Deep) number
item (suc n) = when (is Open) (bracketed (sum (item n))) number
