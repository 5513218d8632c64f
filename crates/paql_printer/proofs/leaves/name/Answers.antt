-- A word is written as it is where it is no keyword, and else between quotes.
use Rattle.std.proofs.Common.{◌≡◌, ◌∙◌, sym, ap, refl, ℕ, List}
use Rattle.std.proofs.lemmas.Result.{on_ok_weaker}
use denote.Enum.Bare.{sameb}
use Rattle.paql_lexer.specs.Keywords.{word_kind}
use Rattle.paql_lexer.specs.contracts.vocabulary.Kind.{the_type}
use Rattle.paql_lexer.specs.declared.vocabulary.Kind.{Kind}
use Rattle.paql_lexer.specs.declared.vocabulary.Kind.TheVariants as kinds
use Rattle.paql_grammar.specs.Lexemes.{Lexeme}
use Rattle.paql_printer.specs.Fronts.{more, put}
use Rattle.paql_printer.proofs.FrontLemmas.{quoted_is}
use Rattle.paql_printer.proofs.SpellingLemmas.{plain, in_quotes, plain_name, quoted_name}
use Rattle.paql_printer.proofs.leaves.name.Goals as goal

-- whether the word is no keyword
kind_of : (kind : Kind) (word : List ℕ) → kind ≡ word_kind word → sameb the_type (word_kind word) kinds.Name ≡ sameb the_type kind kinds.Name
kind_of kind word e = ap (λ (k : Kind). sameb the_type k kinds.Name) (sym e)

pub returns-then-eq : goal.returns-then-eq
returns-then-eq c =
    let word = c.args.name.now in
    let free = kind_of c.word_kind.result word (c.word_kind.ensures ∙ ap word_kind c.as_slice-word.ensures) ∙ (sym c.eq.ensures ∙ c.if-eq.true) in
    on_ok_weaker c.lexeme.result (λ e. e ∙ ap (λ (next : Lexeme). put c.args.writer.now next) (ap plain c.as_slice-word.ensures ∙ plain_name word free)) c.lexeme.ensures

pub returns : goal.returns
returns c =
    let word = c.args.name.now in
    let keyword = kind_of c.word_kind.result word (c.word_kind.ensures ∙ ap word_kind c.as_slice-word.ensures) ∙ (sym c.eq.ensures ∙ c.if-eq.false) in
    let inside = c.in_ok-append-2.ensures ∙ ap (λ (bytes : List ℕ). more c.append.new.self bytes) c.as_slice-word.ensures in
    on_ok_weaker c.append-3.result (λ e. quoted_is c.args.writer.now c.begin.new.self c.append.new.self c.append-2.new.self c.append-3.new.self (in_quotes word) 34 word refl c.in_ok-begin.ensures c.in_ok-append.ensures inside e ∙ ap (λ (next : Lexeme). put c.args.writer.now next) (quoted_name word keyword)) c.append-3.ensures
