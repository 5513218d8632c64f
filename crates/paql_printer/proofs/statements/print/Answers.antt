-- The bytes of what is written from the start on are the canonical text, which is read back.
use Rattle.std.proofs.Common.{◌∙◌, ap}
use Rattle.paql_printer.specs.Print as print
use Rattle.paql_printer.proofs.ReadBack.{canonical_text_is_read}
use Rattle.paql_printer.specs.Fronts.{Front, written}
use Rattle.paql_printer.proofs.FrontLemmas.{start_bytes}
use Rattle.paql_printer.proofs.statements.print.Goals as goal

pub returns-clause-canonical : goal.returns-clause-canonical
returns-clause-canonical c =
    let lexemes = print.statement c.args.statement.now in
    c.into_bytes.ensures ∙ (ap (λ (front : Front). front.bytes) (c.in_ok-lexemes.ensures ∙ ap (λ (front : Front). written front lexemes) c.new-writer.ensures) ∙ start_bytes lexemes)

pub returns-clause-read : goal.returns-clause-read
returns-clause-read c = λ source is. rw (returns-clause-canonical c) (canonical_text_is_read source c.args.statement.now is)
