use Rattle.std.proofs.Common.{◌∙◌, ◌-◌, refl, ap, get_or, length, List, arith}
use Rattle.version_store.specs.declared.versions.Kept.{Kept}
use Rattle.version_store.proofs.KeepingAt.{place_within, rows_shown, shown_at}
use Rattle.version_store.proofs.store.VersionStore.kept_at.Goals as goal

pub one_at-requires : goal.one_at-requires
one_at-requires c = omega (arith, place_within c.self.inside.commits.items c.args.self.now c.self.inside.kept.items c.self.inside.low c.args.version c.self.invariant c.self.view_is c.requires.low c.requires.high, ap length c.as_slice.ensures.value)

pub returns-clause-value : goal.returns-clause-value
returns-clause-value c = shown_at c.self.inside.commits.items c.args.self.now c.self.inside.kept.items c.self.inside.low c.args.version (c.args.version - c.self.inside.low) c.one_at.result.now c.self.invariant c.self.view_is c.requires.low c.requires.high refl (c.one_at.ensures ∙ ap (λ (some : List Kept). get_or some (c.args.version - c.self.inside.low) c.one_at.result.now) c.as_slice.ensures.value)

pub returns-clause-rows : goal.returns-clause-rows
returns-clause-rows c = rows_shown c.self.inside.commits.items c.args.self.now c.self.inside.kept.items c.self.inside.low c.args.version (c.args.version - c.self.inside.low) c.one_at.result.now c.self.invariant c.self.view_is c.requires.low c.requires.high refl (c.one_at.ensures ∙ ap (λ (some : List Kept). get_or some (c.args.version - c.self.inside.low) c.one_at.result.now) c.as_slice.ensures.value)
