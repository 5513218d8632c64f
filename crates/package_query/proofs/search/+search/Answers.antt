use Rattle.std.proofs.Common.{◌≡◌, ◌+◌, ◌++◌, ◌∙◌, arith}
use Rattle.package_query.specs.Plain.{query_of}
use Rattle.package_query.specs.Search.{copies_of}
use Rattle.package_query.proofs.Trials.{Improves-more, Improves-all}
use Rattle.package_query.proofs.search.+search.Goals as goal

pub loop-count-preserved : goal.loop-count-preserved
loop-count-preserved t c =
    let same : c.deref.result.now ≡ c.args.chosen.now ++ copies_of c.in-Some.first.now.0 c.loop-count.count = c.deref.ensures.value ∙ c.in_ok-longer.ensures in
    Improves-more (query_of c.args.query.now) c.args.rows.now c.loop-count.count c.in-Some.first.now.0 c.args.chosen.now c.deref.result.now c.in-Some.others.now c.args.best c.loop-count.best c.in_ok-best.best same c.loop-count.invariant c.in_ok-best.ensures

pub returns : goal.returns
returns t c =
    let all : c.loop-count.count ≡ c.args.query.now.repeat + 2 = omega (arith, c.loop-count-test.false, c.loop-count.auto.count-end) in
    Improves-all c.args.query.now c.args.rows.now c.args.left.now c.args.chosen.now c.in-Some.first.now c.in-Some.others.now c.args.best c.loop-count.best c.in-Some.ensures.cases.0 (rw all at c.loop-count.invariant)
