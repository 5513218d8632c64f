-- Private: `GroupCache::get` in `src/cache.rt`.
-- What a cache is left as by a `get`, whose answer borrows from it.
use Rattle.std.specs.Prelude.{ℕ, List, Ok, Err, Result, MatchResult, ⊤}
use Rattle.std.specs.Borrow.{follows_so, MutBor, Bor, Fml}
use mathlib.Core.Option.{none}
use Rattle.quadtree.specs.declared.group.Group.{Group}
use Rattle.snapshots.specs.declared.snapshot.Snapshot.{Snapshot}
use Rattle.groups.specs.Kept.{Kept}
use Rattle.groups.specs.Caches.{KeepsAfter, StaysRight}
use Rattle.groups.specs.contracts.cache.GroupCache.{the_row}
use Rattle.groups.specs.declared.fault.GroupFault.{GroupFault}

abbrev pub LeftAs : List Kept → List ℕ → Snapshot → Result (Bor (List Group)) GroupFault
    → List Kept → Type 0
LeftAs before table snapshot result after = MatchResult result
    (λ (groups : Bor (List Group)). KeepsAfter before table snapshot (Ok groups.now) after)
    (λ (fault : GroupFault). KeepsAfter before table snapshot (Err fault) after)
    × StaysRight before snapshot after

abbrev pub Ends : MutBor (List Kept) → List ℕ → Snapshot
    → Result (Bor (List Group)) GroupFault → Fml
Ends cache table snapshot result = follows_so the_row the_row cache.ghost_name none (λ _ _. ⊤)
    (λ (after : List Kept). LeftAs cache.now table snapshot result after)
