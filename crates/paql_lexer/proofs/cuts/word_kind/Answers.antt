use Rattle.std.proofs.Common.{map, ◌≡◌, refl, ◌∙◌, ap, ℕ, List}
use Rattle.paql_lexer.specs.Keywords.{keywords, kind_in, word_kind}
use Rattle.paql_lexer.specs.declared.vocabulary.Kind.{Kind}
use Rattle.paql_lexer.specs.declared.vocabulary.TheConstants.{KEYWORDS}
use Rattle.paql_lexer.proofs.cuts.word_kind.Goals as goal

-- the table of the code is that of the language
table_is : map (λ entry. (entry.0.now, entry.1)) KEYWORDS ≡ keywords
table_is = refl

pub returns : goal.returns
unfolding word_kind
returns c = c.kind_in.ensures ∙ ap (λ (table : List (List ℕ × Kind)). kind_in table c.args.word.now) table_is
