use Rattle.std.proofs.Common.{refl, arith}
use Rattle.paql_lexer.proofs.FoundLemmas.{quoted_name_is, quoted_name_found, begins_with_head}
use Rattle.paql_lexer.proofs.cuts.quoted_name.Goals as goal

pub returns-then-not-is_letter_first : goal.returns-then-not-is_letter_first
returns-then-not-is_letter_first c = λ kind word rest e is.
    let run = c.split_run in
    let found = quoted_name_is c.args.body.now run.result.0.now run.result.1.now run.ensures.whole run.ensures.all run.ensures.ends kind word rest e is in
    let holds = c.if-not-is_letter_first.ensures.1 found.0.first in
    cc holds

pub returns-then-name-gt-MOST_WORD_BYTES : goal.returns-then-name-gt-MOST_WORD_BYTES
returns-then-name-gt-MOST_WORD_BYTES c = λ kind word rest e is.
    let run = c.split_run in
    let found = quoted_name_is c.args.body.now run.result.0.now run.result.1.now run.ensures.whole run.ensures.all run.ensures.ends kind word rest e is in
    omega (arith, found.0.short, c.if-name-gt-MOST_WORD_BYTES.true)

pub returns-then-not-begins_with : goal.returns-then-not-begins_with
returns-then-not-begins_with c = λ kind word rest e is.
    let run = c.split_run in
    let found = quoted_name_is c.args.body.now run.result.0.now run.result.1.now run.ensures.whole run.ensures.all run.ensures.ends kind word rest e is in
    let holds = c.if-not-begins_with.ensures.1 (begins_with_head 34 run.result.1.now rest found.1) in
    cc holds

pub returns : goal.returns
returns c =
    let run = c.split_run in
    quoted_name_found c.args.body.now run.result.0.now run.result.1.now run.ensures.whole (record { first = c.if-not-is_letter_first.ensures.0 refl; all = run.ensures.all; short = c.if-name-gt-MOST_WORD_BYTES.false }) (c.if-not-begins_with.ensures.0 refl)
