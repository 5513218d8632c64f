use Rattle.cert_text.proofs.Decimals.{undivided, divided, past}
use Rattle.cert_text.proofs.numbers.Range.is_reached.Goals as goal

pub loop-high-preserved : goal.loop-high-preserved
loop-high-preserved c =
    let low = c.loop-high.low in
    let high = c.loop-high.high in
    record {
      onward = λ reaches. c.loop-high.invariant.onward (undivided c.args.number low high reaches);
      back = λ reaches. divided c.args.number low high c.if-low-number.false (c.loop-high.invariant.back reaches);
    }

pub returns : goal.returns
returns c = (λ h. cc, λ reaches. absurd (past c.args.number c.loop-high.low c.loop-high.high c.loop-high-test.false (c.loop-high.invariant.back reaches)))
