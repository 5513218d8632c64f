use Rattle.std.proofs.Common.{[], ◌∷◌, length}
use Rattle.cert_text.specs.Lines.{row}
use Rattle.cert_text.specs.Certs.{pair_row}
use Rattle.cert_text.specs.declared.kinds.Kind.TheVariants.{Package}
use Rattle.cert_text.proofs.Texts.{puts_more}
use Rattle.cert_text.proofs.writing.put_pairs.Goals as goal

pub loop-pair-preserved : goal.loop-pair-preserved
loop-pair-preserved c =
    puts_more pair_row c.args.out.now.items c.loop-pair.out.items c.put_pair.new.out.items (row Package (length c.args.pairs.now ∷ []) ∷ []) c.args.pairs.now c.loop-pair.pair-index (0, 0) c.loop-pair-test.true c.loop-pair.invariant
    c.in_ok-put_pair.ensures
