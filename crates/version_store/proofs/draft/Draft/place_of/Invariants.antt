use Rattle.std.proofs.Common.{◌≡◌, drop}
use Rattle.std.specs.List.{position_from}
use Rattle.std.specs.Str.{bytes_eq}
use Rattle.snapshots.specs.declared.tables.Table.{Table}
use Rattle.version_store.specs.Drafted.{place_named}
use Rattle.version_store.proofs.draft.Draft.place_of.Given as goal

abbrev pub invariant-loop-place : goal.invariant-loop-place
invariant-loop-place l = place_named l.table l.self.tables ≡ position_from (λ (table : Table). bytes_eq table.name l.table) l.place (drop l.place l.self.tables)
