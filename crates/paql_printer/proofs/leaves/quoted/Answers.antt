-- A quote, the content and a quote are one lexeme.
use Rattle.std.proofs.Common.{◌∙◌, refl, ap, ℕ, List}
use Rattle.std.proofs.lemmas.Result.{on_ok_weaker}
use Rattle.paql_lexer.specs.Lexical.{doubled}
use Rattle.paql_printer.specs.Spellings as spellings
use Rattle.paql_printer.specs.Fronts.{more}
use Rattle.paql_printer.proofs.FrontLemmas.{quoted_is}
use Rattle.paql_printer.proofs.leaves.quoted.Goals as goal

pub returns : goal.returns
returns c =
    let content = c.args.content.now in
    let inside = c.in_ok-append_doubled.ensures ∙ ap (λ (bytes : List ℕ). more c.append.new.self (doubled bytes)) c.as_slice.ensures in
    on_ok_weaker c.append-2.result (quoted_is c.args.writer.now c.begin.new.self c.append.new.self c.append_doubled.new.writer c.append-2.new.self (spellings.quoted content) 39 (doubled content) refl c.in_ok-begin.ensures c.in_ok-append.ensures inside) c.append-2.ensures
