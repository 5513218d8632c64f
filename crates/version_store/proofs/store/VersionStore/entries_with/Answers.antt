use Rattle.std.proofs.Common.{◌∙◌, ◌-◌, ◌+◌, refl, ap, drop, length, List, arith}
use Rattle.snapshots.specs.declared.snapshot.Snapshot.{Snapshot}
use Rattle.version_store.specs.Keeping.{fresh_in}
use Rattle.version_store.specs.declared.versions.Kept.{Kept}
use Rattle.version_store.proofs.KeepingAt.{entries_are_kept, later_fresh, place_within}
use Rattle.version_store.proofs.store.VersionStore.entries_with.Goals as goal

pub after-requires : goal.after-requires
after-requires c = omega (arith, place_within c.self.inside.commits.items c.args.self.now c.self.inside.kept.items c.self.inside.low c.args.low c.self.invariant c.self.view_is c.requires.least c.requires.most, ap length c.as_slice.ensures.value)

pub returns : goal.returns
returns c =
    let place = c.args.low - c.self.inside.low in
    let rest = c.in_ok-wrote.ensures ∙ ap fresh_in (c.after.ensures ∙ ap (λ (some : List Kept). drop (place + 1) some) c.as_slice.ensures.value)
    ∙ later_fresh c.self.inside.commits.items c.args.self.now c.self.inside.kept.items c.self.inside.low c.args.low place c.self.invariant c.self.view_is c.requires.least refl in
    entries_are_kept c.args.self.now c.args.low c.in_ok-shown.shown c.in_ok-wrote.wrote c.args.more c.in_ok-all.all c.tables.result.now (c.tables.ensures ∙ ap (λ (some : Snapshot). some.tables) c.kept_at.ensures.value) c.in_ok-shown.ensures rest (omega arith)
