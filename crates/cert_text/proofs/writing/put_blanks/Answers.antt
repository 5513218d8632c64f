use Rattle.cert_text.proofs.Texts.{put_on}
use Rattle.cert_text.proofs.writing.put_blanks.Goals as goal

pub loop-number-preserved : goal.loop-number-preserved
loop-number-preserved c =
    put_on c.args.out.now.items c.loop-number.out.items c.put_blanked.new.out.items c.args.numbers.now c.loop-number.number-index c.loop-number-test.true c.loop-number.invariant c.in_ok-put_blanked.ensures
