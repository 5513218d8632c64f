-- A query that isn't refused has no fault, and what it is bound to is sound.
use Rattle.std.proofs.Common.{◌≡◌, sym, subst, rules}
use Rattle.std.specs.Prelude.{IfOk}
use Rattle.std.proofs.lemmas.Result.{IfOk-weaker}
use Rattle.bound_query.specs.declared.queries.BoundQuery.{BoundQuery}
use Rattle.paql_bind.specs.Queries.{bound_in}
use Rattle.paql_bind.specs.Sound.{IsSound}
use Rattle.paql_bind.proofs.SoundSums.{small_scales}
use Rattle.paql_bind.proofs.SoundQueries.{bound_is_sound}
use Rattle.paql_bind.specs.Scopes.{seen}
use Rattle.paql_bind.proofs.QueryLemmas.{has_no_fault}
use Rattle.paql_bind.proofs.queries.bind_in.Goals as goal

pub bound_in-requires-clause-conjuncts : goal.bound_in-requires-clause-conjuncts
bound_in-requires-clause-conjuncts c =
    (has_no_fault (seen c.args.rows.now) (seen c.args.copies.now) c.args.query.now c.in_ok-row_bound.ensures.refused).conjuncts

pub bound_in-requires-clause-goal : goal.bound_in-requires-clause-goal
bound_in-requires-clause-goal c =
    (has_no_fault (seen c.args.rows.now) (seen c.args.copies.now) c.args.query.now c.in_ok-row_bound.ensures.refused).goal

pub bound_in-requires-clause-sound : goal.bound_in-requires-clause-sound
bound_in-requires-clause-sound c =
    let rows = seen c.args.rows.now in
    let copies = seen c.args.copies.now in
    bound_is_sound rows copies c.args.query.now (small_scales rows c.requires.rows) (small_scales copies c.requires.copies) c.in_ok-row_bound.ensures.refused
