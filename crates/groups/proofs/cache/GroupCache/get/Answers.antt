use Rattle.std.proofs.Common.{◌≡◌, ◌∙◌, ap, sym, Some, List, refl, map, slice_get}
use Rattle.quadtree.specs.declared.group.Group.{Group}
use Rattle.groups.specs.Caches.{kept_of, with_groups}
use Rattle.groups.specs.Groups.{groups_named}
use Rattle.groups.specs.Kept.{Kept, entry_kept}
use Rattle.groups.proofs.PairLemmas.{groups_at}
use Rattle.groups.proofs.KeptLemmas.{stays_right}
use Rattle.groups.proofs.cache.GroupCache.get.Goals as goal

pub returns : goal.returns
returns c =
    let place = c.in_ok-place.ensures in
    let same : place.found.groups ≡ c.as_slice.result.now =
    groups_at c.self.inside.kept.entries c.in_ok-place.place c.index.result.now place.found c.index.ensures
    (ap (λ (cache : List Kept). slice_get cache c.in_ok-place.place) c.self.view_is ∙ place.at) ∙ sym c.as_slice.ensures.value in
    let due : groups_named c.args.table.now c.args.snapshot.now.tables ≡ Some c.as_slice.result.now = place.due ∙ ap Some same in
    let is = c.self.view_is ∙ place.kept ∙ ap (λ (groups : List Group). with_groups (kept_of c.args.table.now c.args.snapshot.now groups) c.args.self.now) same in
    ((refl, λ _. tt, (is, stays_right c.args.self.now c.args.table.now c.args.snapshot.now c.as_slice.result.now (map entry_kept c.self.inside.kept.entries) due is)), record { keeps = tt; same = due })
