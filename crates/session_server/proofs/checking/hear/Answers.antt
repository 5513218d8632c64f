use Rattle.std.proofs.Common.{List, ℕ, ◌++◌, ◌∙◌, ap}
use Rattle.std.proofs.lemmas.Result.{err_from_is_err_and}
use Rattle.pq_base.specs.Shown.{shown}
use Rattle.version_store.specs.Vaults.{holding}
use Rattle.session_server.proofs.Heard.{rest_breaks, stopped_memory, hears_refused, hears_query, query_memory}
use Rattle.session_server.proofs.checking.hear.Goals as goal

pub returns-in_err-first-in-Query : goal.returns-in_err-first-in-Query
returns-in_err-first-in-Query g c =
    let vault = holding g.V.Vault.held g.V.Vault.own g.V.Vault.stake c.args.vault.now in
    let source = shown g.S.Source.left g.S.Source.faults c.args.source.now in
    let stopped = rw c.in-Query.is at (c.in_ok-query.ensures vault source (c.new-script.ensures vault source)) in
    let p = err_from_is_err_and c.from_residual-in_err-first-in-Query.result c.from_residual-in_err-first-in-Query.ensures.1 in
    rw (p.1, p.2) (stopped_memory vault _ source _ c.run.new.self _ stopped)

pub returns-in_err-after-in-Query : goal.returns-in_err-after-in-Query
returns-in_err-after-in-Query g c =
    let vault = holding g.V.Vault.held g.V.Vault.own g.V.Vault.stake c.args.vault.now in
    let source = shown g.S.Source.left g.S.Source.faults c.args.source.now in
    let stopped = rw c.in-Query.is at (c.in_ok-query.ensures vault source (c.new-script.ensures vault source)) in
    let p = err_from_is_err_and c.from_residual-in_err-after-in-Query.result c.from_residual-in_err-after-in-Query.ensures.1 in
    let out = rw c.taken.ensures at c.in_err-after-in-Query.ensures in
    rw (p.1, p.2) (rest_breaks vault _ source _ _ c.run.new.self _ out.0 _ stopped out.1)

pub returns-in_err-judged-in-Query : goal.returns-in_err-judged-in-Query
returns-in_err-judged-in-Query g c =
    let vault = holding g.V.Vault.held g.V.Vault.own g.V.Vault.stake c.args.vault.now in
    let source = shown g.S.Source.left g.S.Source.faults c.args.source.now in
    let stopped = rw c.in-Query.is at (c.in_ok-query.ensures vault source (c.new-script.ensures vault source)) in
    let p = err_from_is_err_and c.from_residual-in_err-judged-in-Query.result c.from_residual-in_err-judged-in-Query.ensures.1 in
    let out = rw c.taken.ensures at c.in_ok-after-in-Query.ensures in
    rw (p.1, p.2) (query_memory vault _ _ source _ _ c.run.new.self c.in-Query.query out.0 stopped out.1 c.judged.ensures.sees)

pub returns-in-Query : goal.returns-in-Query
returns-in-Query g c =
    let vault = holding g.V.Vault.held g.V.Vault.own g.V.Vault.stake c.args.vault.now in
    let source = shown g.S.Source.left g.S.Source.faults c.args.source.now in
    let stopped = rw c.in-Query.is at (c.in_ok-query.ensures vault source (c.new-script.ensures vault source)) in
    let out = rw c.taken.ensures at c.in_ok-after-in-Query.ensures in
    let first = c.in_ok-first-in-Query.ensures.items ∙ c.left.ensures in
    let whole = c.deref.ensures.value ∙ out.2 ∙ ap (λ (l : List ℕ). l ++ out.0) first in
    hears_query vault _ _ source _ _ c.run.new.self c.in-Query.query out.0 c.deref.result.now _ stopped out.1 whole c.judged.ensures.sees c.in_ok-judged-in-Query.ensures.tells

pub returns-in_err-throw_away-in-Refused : goal.returns-in_err-throw_away-in-Refused
returns-in_err-throw_away-in-Refused g c =
    let vault = holding g.V.Vault.held g.V.Vault.own g.V.Vault.stake c.args.vault.now in
    let source = shown g.S.Source.left g.S.Source.faults c.args.source.now in
    let stopped = rw c.in-Refused.is at (c.in_ok-query.ensures vault source (c.new-script.ensures vault source)) in
    let p = err_from_is_err_and c.from_residual-in_err-throw_away-in-Refused.result c.from_residual-in_err-throw_away-in-Refused.ensures.1 in
    let out = rw c.taken-in-Refused.ensures at c.in_err-throw_away-in-Refused.ensures in
    rw (p.1, p.2) (rest_breaks vault _ source _ _ c.run.new.self _ out.0 _ stopped out.1)

pub returns : goal.returns
returns g c =
    let vault = holding g.V.Vault.held g.V.Vault.own g.V.Vault.stake c.args.vault.now in
    let source = shown g.S.Source.left g.S.Source.faults c.args.source.now in
    let stopped = rw c.in-Refused.is at (c.in_ok-query.ensures vault source (c.new-script.ensures vault source)) in
    let out = rw c.taken-in-Refused.ensures at c.in_ok-throw_away-in-Refused.ensures in
    hears_refused vault _ source _ _ c.run.new.self c.in-Refused.line out.0 stopped out.1
