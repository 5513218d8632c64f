use Rattle.std.proofs.Common.{◌≡◌, ◌≢◌, ◌+◌, List, ℕ, drop, sym, ◌∙◌, ap, subst}
use Rattle.std.proofs.lemmas.List.{take_rest}
use Rattle.cert_text.specs.declared.value.CertText.{CertText}
use Rattle.cert_text.specs.declared.kinds.Expect.{Expect}
use Rattle.cert_text.specs.declared.kinds.Expect.TheVariants.{Done}
use Rattle.cert_text.specs.Expected.{after}
use Rattle.cert_text.specs.Rules.{taken, Carries}
use Rattle.cert_text.specs.Answers.{IsNextFault, IsNextRow}
use Rattle.cert_text.proofs.Readings.{IsReading, faults, carries, reads_on, reads_all}
use Rattle.cert_text.proofs.reading.read_part.Goals as goal

pub returns-in-Err : goal.returns-in-Err
returns-in-Err c =
    let text = c.args.text.now in
    let expect = c.lines.expect in
    let unended : expect ≢ Done = λ same. (let yes = c.is_done.ensures.1 same in cc (c.lines-test.true, yes)) in
    let bad = subst (λ (rest : List ℕ). IsNextFault expect rest c.args.line c.lines.count c.in-Err.fault) (take_rest text c.lines.end) c.in-Err.ensures in
    faults text expect c.lines.cert c.lines.end c.lines.count c.args.line c.in-Err.fault unended c.lines.invariant bad

pub take_line-requires : goal.take_line-requires
take_line-requires c =
    let numbers = c.next_row.new.numbers.items in
    subst (λ (some : List ℕ). Carries c.in-Ok.both.0 some) (sym c.deref.ensures.value) (carries c.lines.expect c.in-Ok.both.0 numbers c.in-Ok.ensures.1)

pub lines-preserved : goal.lines-preserved
lines-preserved c =
    let text = c.args.text.now in
    let expect = c.lines.expect in
    let cert = c.lines.cert in
    let kind = c.in-Ok.both.0 in
    let size = c.in-Ok.both.1 in
    let numbers = c.next_row.new.numbers.items in
    let end = c.lines.end in
    let count = c.lines.count in
    let next : IsNextRow expect (drop end text) numbers kind size = subst (λ (rest : List ℕ). IsNextRow expect rest numbers kind size) (take_rest text end) c.in-Ok.ensures in
    let reads = reads_on text numbers expect cert kind end count size c.lines.invariant next in
    let expect_is : c.after-expect.result ≡ after expect kind numbers = c.after-expect.ensures ∙ ap (after expect kind) c.deref-in-lines.ensures.value in
    let cert_is : c.take_line.new.cert ≡ taken cert kind numbers = c.in_default.ensures ∙ ap (taken cert kind) c.deref.ensures.value in
    subst (λ (some : Expect). IsReading text some c.take_line.new.cert (end + size) (count + 1)) (sym expect_is)
    (subst (λ (some : CertText). IsReading text (after expect kind numbers) some (end + size) (count + 1)) (sym cert_is) reads)

pub returns : goal.returns
returns c = reads_all c.args.text.now c.lines.expect c.lines.cert c.lines.end c.lines.count c.args.line (c.is_done.ensures.0 c.lines-test.false) c.lines.invariant
