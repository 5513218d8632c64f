use Rattle.std.proofs.Common.{List, get_or, refl, subst}
use Rattle.cert_text.specs.declared.kinds.Kind.{Kind}
use Rattle.cert_text.specs.declared.kinds.Kind.TheVariants.{Header}
use Rattle.cert_text.specs.Expected.{kinds}
use Rattle.cert_text.specs.Rules.{RowBegins}
use Rattle.cert_text.proofs.Tries.{seeks}
use Rattle.cert_text.proofs.lines.begins_row.Goals as goal

pub loop-kind-preserved : goal.loop-kind-preserved
loop-kind-preserved c =
    let i = c.loop-kind.kind-index in
    let here = subst (λ (list : List Kind). RowBegins c.args.expect (get_or list i Header) c.args.text.now c.in_ok-may_begin.field-0) c.kinds-kind-items.ensures c.in_ok-may_begin.ensures in
    seeks c.args.expect c.args.text.now i (get_or (kinds c.args.expect) i Header) Header refl (rw c.if-branch.false at here) c.loop-kind.invariant
