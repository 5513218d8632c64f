use Rattle.formal_grammar.specs.declared.stop.Why.TheVariants as why
use Rattle.formal_grammar.specs.declared.sample.TheConstants.{MAX_DEPTH}
use Rattle.formal_grammar.proofs.Whole.{found_by, complete_by, not_refused_by, syntax_by, deep_by, left_within}
use Rattle.formal_grammar.proofs.SampleRules.{exact_sum}
use Rattle.formal_grammar.proofs.sample.parse.Goals as goal

pub overflow_sub-result : goal.overflow_sub-result
overflow_sub-result c =
    let x = c.in-Err-Stopped-Syntax-default in
    left_within (exact_sum MAX_DEPTH) c.args.tokens.now why.Syntax x.left (rw (x.field-0-is, x.field-0-0-is) at x.ensures)

pub overflow_sub-result-in-Err-Stopped-Deep-default : goal.overflow_sub-result-in-Err-Stopped-Deep-default
overflow_sub-result-in-Err-Stopped-Deep-default c =
    let x = c.in-Err-Stopped-Deep-default in
    left_within (exact_sum MAX_DEPTH) c.args.tokens.now why.Deep x.left (rw (x.field-0-is, x.field-0-0-is) at x.ensures)

pub returns-in-Ok-clause-found : goal.returns-in-Ok-clause-found
returns-in-Ok-clause-found c = found_by (exact_sum MAX_DEPTH) c.args.tokens.now c.in-Ok.expr c.in-Ok.ensures

pub returns-in-Ok-clause-complete : goal.returns-in-Ok-clause-complete
returns-in-Ok-clause-complete c t spells = complete_by (exact_sum MAX_DEPTH) c.args.tokens.now c.in-Ok.expr t c.in-Ok.ensures spells

pub returns-in-Err-Stopped-Syntax-default-clause-complete : goal.returns-in-Err-Stopped-Syntax-default-clause-complete
returns-in-Err-Stopped-Syntax-default-clause-complete c t spells =
    let x = c.in-Err-Stopped-Syntax-default in
    absurd (not_refused_by (exact_sum MAX_DEPTH) c.args.tokens.now why.Syntax x.left t (rw (x.field-0-is, x.field-0-0-is) at x.ensures) spells)

pub returns-in-Err-Stopped-Syntax-default-clause-syntax : goal.returns-in-Err-Stopped-Syntax-default-clause-syntax
returns-in-Err-Stopped-Syntax-default-clause-syntax c at is =
    let x = c.in-Err-Stopped-Syntax-default in
    syntax_by (exact_sum MAX_DEPTH) c.args.tokens.now x.left at (rw (x.field-0-is, x.field-0-0-is) at x.ensures) (cc)

pub returns-in-Err-Stopped-Deep-default-clause-complete : goal.returns-in-Err-Stopped-Deep-default-clause-complete
returns-in-Err-Stopped-Deep-default-clause-complete c t spells =
    let x = c.in-Err-Stopped-Deep-default in
    absurd (not_refused_by (exact_sum MAX_DEPTH) c.args.tokens.now why.Deep x.left t (rw (x.field-0-is, x.field-0-0-is) at x.ensures) spells)

pub returns-in-Err-Stopped-Deep-default-clause-deep : goal.returns-in-Err-Stopped-Deep-default-clause-deep
returns-in-Err-Stopped-Deep-default-clause-deep c at is =
    let x = c.in-Err-Stopped-Deep-default in
    deep_by (exact_sum MAX_DEPTH) c.args.tokens.now x.left at (rw (x.field-0-is, x.field-0-0-is) at x.ensures) (cc)
