-- Private: the sample in `src/sample.rt`.
-- The sample's grammar: which tokens spell which sum.
use Rattle.std.specs.Prelude.{ℕ, zero, suc, Bool, true, false, Option, Some, None, is_some}
use Rattle.formal_grammar.specs.declared.sample.Sign.TheVariants.{Open, Close, Plus, Bang}
use Rattle.formal_grammar.specs.declared.sample.Token.{Token}
use Rattle.formal_grammar.specs.declared.sample.Token.TheVariants as token
use Rattle.formal_grammar.specs.declared.sample.Expr.{Expr}
use Rattle.formal_grammar.specs.declared.sample.Expr.TheVariants as expr
use Rattle.formal_grammar.specs.Lang.{Lang, ◌>>=◌, ◌>>◌, ◌or◌, gives, shown, the, optional, listed}

-- The number that a token shows.
abbrev pub number_of : Token → Option ℕ
number_of (token.Number n) = Some n
number_of (token.Sign s) = None

-- number
abbrev pub number : Lang Token Expr
number = do
  n ← shown number_of
  gives (expr.Number n)

-- [ "!" ]
abbrev pub mark : Lang Token Bool
mark = do
  bang ← optional (the (token.Sign Bang))
  gives (is_some bang)

-- item { "+" item } [ "!" ]
abbrev pub sum_of : Lang Token Expr → Lang Token Expr
sum_of item = do
  items ← listed (the (token.Sign Plus)) item
  marked ← mark
  gives (expr.Sum items marked)

-- "(" sum ")"
abbrev pub bracketed : Lang Token Expr → Lang Token Expr
bracketed sum = do
  the (token.Sign Open)
  inner ← sum
  the (token.Sign Close)
  gives inner

-- number | "(" sum ")", with at most n brackets open
unfoldable pub item : ℕ → Lang Token Expr
item zero = number
item (suc n) = bracketed (sum_of (item n)) or number

-- The tokens that open one more level.
abbrev pub opens : Token → Bool
opens (token.Sign Open) = true
opens t = false

-- The sums with at most n brackets open at one place.
abbrev pub sum : ℕ → Lang Token Expr
sum n = sum_of (item n)
