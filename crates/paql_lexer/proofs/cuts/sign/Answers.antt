use Rattle.std.proofs.Common.{sym}
use Rattle.paql_lexer.proofs.FoundLemmas.{long_sign_found, short_sign_found}
use Rattle.paql_lexer.proofs.cuts.sign.Goals as goal

pub returns-in-Some : goal.returns-in-Some
returns-in-Some c = long_sign_found c.args.text.now c.in-Some.kind (sym c.in-Some.ensures)

pub returns-in-Some-short_sign : goal.returns-in-Some-short_sign
returns-in-Some-short_sign c =
    short_sign_found c.args.text.now c.in-Some-short_sign.kind (sym c.in_default.ensures) c.in-len1-up.len_at_least (sym c.in-Some-short_sign.ensures)
