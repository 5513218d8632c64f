use Rattle.paql_lexer.proofs.FoundLemmas.{word_too_long}
use Rattle.paql_lexer.proofs.cuts.word.Goals as goal

pub returns-then-word-gt-MOST_WORD_BYTES : goal.returns-then-word-gt-MOST_WORD_BYTES
returns-then-word-gt-MOST_WORD_BYTES c =
    let run = c.split_run in
    word_too_long c.args.text.now run.result.0.now run.result.1.now run.ensures.whole run.ensures.all run.ensures.ends c.if-word-gt-MOST_WORD_BYTES.true
