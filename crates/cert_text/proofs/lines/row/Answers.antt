use Rattle.std.proofs.Common.{List, get_or, refl, subst}
use Rattle.cert_text.specs.declared.kinds.Kind.{Kind}
use Rattle.cert_text.specs.declared.kinds.Kind.TheVariants.{Header}
use Rattle.cert_text.specs.Expected.{kinds}
use Rattle.cert_text.specs.Rules.{RowIs}
use Rattle.cert_text.proofs.Tries.{tries}
use Rattle.cert_text.proofs.lines.row.Goals as goal

pub loop-kind-preserved : goal.loop-kind-preserved
loop-kind-preserved c =
    let i = c.loop-kind.kind-index in
    let here = subst (λ (list : List Kind). RowIs c.args.expect (get_or list i Header) c.args.line.now c.is_whole.new.numbers.items c.in_ok-is_whole.field-0) c.kinds-kind-items.ensures c.in_ok-is_whole.ensures in
    tries c.args.expect c.args.line.now c.is_whole.new.numbers.items i (get_or (kinds c.args.expect) i Header) Header refl (rw c.if-branch.false at here) c.loop-kind.invariant
