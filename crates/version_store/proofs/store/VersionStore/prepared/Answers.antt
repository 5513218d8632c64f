use Rattle.std.proofs.Common.{◌+◌, ap, arith, refl, ◌∙◌}
use Rattle.std.proofs.lemmas.Result.{err_from_is_err_and}
use Rattle.version_store.specs.Histories.{History, replay}
use Rattle.version_store.proofs.Keeping.{low_within}
use Rattle.version_store.proofs.KeepingAt.{IsBegun, begun_state, change_due, too_many}
use Rattle.version_store.proofs.Readying.{begun_legal, bounds_of, entries_due, inserts_due, kept_by, made_is, ready_is}
use Rattle.version_store.proofs.store.VersionStore.prepared.Goals as goal

pub returns-then-version-gt-MAX_VERSION : goal.returns-then-version-gt-MAX_VERSION
returns-then-version-gt-MAX_VERSION c = too_many c.args.self.now c.args.changes.now c.version-high.result (c.version-high.result + 1) c.of_commit.result c.version-high.ensures.value refl c.if-version-gt-MAX_VERSION.true c.of_commit.ensures

pub kept_at-requires-clause-low : goal.kept_at-requires-clause-low
kept_at-requires-clause-low c = omega (arith, low_within c.args.self.now c.version-high.ensures.accepted, c.version-high.ensures.value)

pub perform_all-requires-clause-legal : goal.perform_all-requires-clause-legal
perform_all-requires-clause-legal c =
    let low = c.self.invariant.low ∙ ap (λ (some : History). (replay some).low) c.self.view_is in
    let begun = begun_state c.args.self.now c.self.inside.low c.kept_at.result.now c.version-high.result c.in-Ok.draft low c.kept_at.ensures.value c.version-high.ensures.value c.in-Ok.ensures in
    begun_legal c.args.self.now c.version-high.result c.in-Ok.draft c.version-high.ensures.accepted c.version-high.ensures.built c.version-high.ensures.value begun

pub returns-in_err-rows : goal.returns-in_err-rows
returns-in_err-rows c =
    let p = err_from_is_err_and c.from_residual.result c.from_residual.ensures.1 in
    let low = c.self.invariant.low ∙ ap (λ (some : History). (replay some).low) c.self.view_is in
    let begun = begun_state c.args.self.now c.self.inside.low c.kept_at.result.now c.version-high.result c.in-Ok.draft low c.kept_at.ensures.value c.version-high.ensures.value c.in-Ok.ensures in
    rw (p.1, p.2) (change_due c.args.self.now c.args.changes.now c.version-high.result (c.version-high.result + 1) c.in-Ok.draft c.in_err-rows.field-0.0 c.version-high.ensures.value refl c.if-version-gt-MAX_VERSION.false begun c.in_err-rows.ensures)

pub returns-in_err-check_inserted : goal.returns-in_err-check_inserted
returns-in_err-check_inserted c =
    let p = err_from_is_err_and c.from_residual-in_err-check_inserted.result c.from_residual-in_err-check_inserted.ensures.1 in
    let low = c.self.invariant.low ∙ ap (λ (some : History). (replay some).low) c.self.view_is in
    let begun = begun_state c.args.self.now c.self.inside.low c.kept_at.result.now c.version-high.result c.in-Ok.draft low c.kept_at.ensures.value c.version-high.ensures.value c.in-Ok.ensures in
    let is : IsBegun c.args.self.now c.args.changes.now c.version-high.result (c.version-high.result + 1) c.in-Ok.draft c.perform_all.new.draft c.in_ok-rows.rows = record { high = c.version-high.ensures.value; version = refl; few = c.if-version-gt-MAX_VERSION.false; begun = begun; done = c.in_ok-rows.ensures } in
    rw (p.1, p.2) (inserts_due c.args.self.now c.args.changes.now c.version-high.result (c.version-high.result + 1) c.in-Ok.draft c.perform_all.new.draft c.in_ok-rows.rows c.in_err-check_inserted.field-0.0 is c.in_err-check_inserted.ensures)

pub check_entries-requires-clause-least : goal.check_entries-requires-clause-least
check_entries-requires-clause-least c =
    let low = c.self.invariant.low ∙ ap (λ (some : History). (replay some).low) c.self.view_is in
    let begun = begun_state c.args.self.now c.self.inside.low c.kept_at.result.now c.version-high.result c.in-Ok.draft low c.kept_at.ensures.value c.version-high.ensures.value c.in-Ok.ensures in
    let is : IsBegun c.args.self.now c.args.changes.now c.version-high.result (c.version-high.result + 1) c.in-Ok.draft c.perform_all.new.draft c.in_ok-rows.rows = record { high = c.version-high.ensures.value; version = refl; few = c.if-version-gt-MAX_VERSION.false; begun = begun; done = c.in_ok-rows.ensures } in
    let bounds = bounds_of c.args.self.now c.args.changes.now c.version-high.result (c.version-high.result + 1) c.in-Ok.draft c.perform_all.new.draft c.in_ok-rows.rows c.version-high.ensures.accepted is in
    omega (arith, bounds.least, c.low-low.ensures)

pub check_entries-requires-clause-most : goal.check_entries-requires-clause-most
check_entries-requires-clause-most c =
    let low = c.self.invariant.low ∙ ap (λ (some : History). (replay some).low) c.self.view_is in
    let begun = begun_state c.args.self.now c.self.inside.low c.kept_at.result.now c.version-high.result c.in-Ok.draft low c.kept_at.ensures.value c.version-high.ensures.value c.in-Ok.ensures in
    let is : IsBegun c.args.self.now c.args.changes.now c.version-high.result (c.version-high.result + 1) c.in-Ok.draft c.perform_all.new.draft c.in_ok-rows.rows = record { high = c.version-high.ensures.value; version = refl; few = c.if-version-gt-MAX_VERSION.false; begun = begun; done = c.in_ok-rows.ensures } in
    let bounds = bounds_of c.args.self.now c.args.changes.now c.version-high.result (c.version-high.result + 1) c.in-Ok.draft c.perform_all.new.draft c.in_ok-rows.rows c.version-high.ensures.accepted is in
    omega (arith, bounds.most, c.low-low.ensures)

pub returns-in_err-fresh : goal.returns-in_err-fresh
returns-in_err-fresh c =
    let p = err_from_is_err_and c.from_residual-in_err-fresh.result c.from_residual-in_err-fresh.ensures.1 in
    let low = c.self.invariant.low ∙ ap (λ (some : History). (replay some).low) c.self.view_is in
    let begun = begun_state c.args.self.now c.self.inside.low c.kept_at.result.now c.version-high.result c.in-Ok.draft low c.kept_at.ensures.value c.version-high.ensures.value c.in-Ok.ensures in
    let is : IsBegun c.args.self.now c.args.changes.now c.version-high.result (c.version-high.result + 1) c.in-Ok.draft c.perform_all.new.draft c.in_ok-rows.rows = record { high = c.version-high.ensures.value; version = refl; few = c.if-version-gt-MAX_VERSION.false; begun = begun; done = c.in_ok-rows.ensures } in
    rw (p.1, p.2) (entries_due c.args.self.now c.args.changes.now c.version-high.result (c.version-high.result + 1) c.in-Ok.draft c.perform_all.new.draft c.in_ok-rows.rows c.low-low.result c.as_slice.result.now c.in_err-fresh.field-0.0 c.version-high.ensures.accepted is c.in_ok-check_inserted.ensures c.low-low.ensures (c.as_slice.ensures ∙ c.into_tables-tables.ensures) c.in_err-fresh.ensures)

pub returns : goal.returns
returns c =
    let low = c.self.invariant.low ∙ ap (λ (some : History). (replay some).low) c.self.view_is in
    let begun = begun_state c.args.self.now c.self.inside.low c.kept_at.result.now c.version-high.result c.in-Ok.draft low c.kept_at.ensures.value c.version-high.ensures.value c.in-Ok.ensures in
    let is : IsBegun c.args.self.now c.args.changes.now c.version-high.result (c.version-high.result + 1) c.in-Ok.draft c.perform_all.new.draft c.in_ok-rows.rows = record { high = c.version-high.ensures.value; version = refl; few = c.if-version-gt-MAX_VERSION.false; begun = begun; done = c.in_ok-rows.ensures } in
    ready_is c.args.self.now c.args.changes.now c.version-high.result (c.version-high.result + 1) c.in-Ok.draft c.perform_all.new.draft c.in_ok-rows.rows c.low-low.result c.in_ok-fresh.fresh c.as_slice.result.now (kept_by c.in-Ok-new.snapshot c.in_ok-fresh.fresh) c.version-high.ensures.accepted is c.in_ok-check_inserted.ensures c.low-low.ensures (c.as_slice.ensures ∙ c.into_tables-tables.ensures) c.in_ok-fresh.ensures.1 c.in_ok-fresh.ensures.0
    (made_is c.in-Ok-new.snapshot (c.version-high.result + 1) c.in_ok-fresh.fresh c.into_tables-tables.result c.as_slice.result.now c.in-Ok-new.ensures c.as_slice.ensures)
