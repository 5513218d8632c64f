use Rattle.std.proofs.Common.{◌≡◌, ◌+◌, ◌++◌, drop}
use Rattle.version_store.specs.Changes.{new_entries}
use Rattle.version_store.proofs.inserting.push_rows.Given as goal

abbrev pub invariant-loop-place : goal.invariant-loop-place
invariant-loop-place l =
    l.fn.entries ++ new_entries l.table.columns l.version l.table.next l.rows
    ≡ l.entries ++ new_entries l.table.columns l.version (l.table.next + l.place) (drop l.place l.rows)
