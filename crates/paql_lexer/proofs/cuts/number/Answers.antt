use Rattle.paql_lexer.proofs.FoundLemmas.{number_too_long, number_found}
use Rattle.paql_lexer.proofs.cuts.number.Goals as goal

pub returns-then-whole-fraction-gt-MOST_DIGITS : goal.returns-then-whole-fraction-gt-MOST_DIGITS
returns-then-whole-fraction-gt-MOST_DIGITS c =
    let front = c.split_digits in
    let back = c.split_fraction in
    number_too_long c.args.text.now front.result.0.now front.result.1.now back.result.0.now back.result.1.now front.ensures.whole front.ensures.digits front.ensures.all back.ensures.whole back.ensures.digits back.ensures.ends back.ensures.longest c.if-whole-fraction-gt-MOST_DIGITS.true

pub returns : goal.returns
returns c =
    let front = c.split_digits in
    let back = c.split_fraction in
    number_found c.args.text.now front.result.0.now front.result.1.now back.result.0.now back.result.1.now c.requires front.ensures.whole front.ensures.digits front.ensures.all back.ensures.whole back.ensures.digits back.ensures.ends back.ensures.longest c.if-whole-fraction-gt-MOST_DIGITS.false
