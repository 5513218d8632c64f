-- One byte more, doubled where it is a quote.
use Rattle.std.proofs.Common.{sym, ap, ◌∙◌, get_or, ◌∷◌, [], arith}
use Rattle.paql_lexer.specs.Lexical.{doubled}
use Rattle.paql_printer.specs.Fronts.{Front, more}
use Rattle.paql_printer.proofs.FrontLemmas.{more_nil, doubled_more}
use Rattle.paql_printer.proofs.leaves.append_doubled.Goals as goal

pub loop-byte-init : goal.loop-byte-init
loop-byte-init c = sym (more_nil c.args.writer.now)

pub loop-byte-preserved : goal.loop-byte-preserved
loop-byte-preserved c =
    let bytes = c.args.content.now in
    let at = c.loop-byte.byte-index in
    c.in_ok-append_byte.ensures ∙ (ap (λ (front : Front). more front (doubled (get_or bytes at 0 ∷ []))) c.loop-byte.invariant ∙ doubled_more c.args.writer.now bytes at (omega arith))
